-- DATA OF A PAGE (Scribunto, mw.loadData): what the loads gave, and what it is to share a value's data.
use Rattle.std.specs.Prelude.{◌≡◌, ℕ, ◌<◌, ◌≤◌, true, List, length, Option, Ok}
use Rattle.std.specs.Map.{lookup}
use Rattle.wk_base.specs.declared.title.Title.{Title}
use Rattle.wk_base.specs.contracts.title.TitlePartialEq.TheImpl as titles
use Rattle.lua_graph.specs.LuaHeapGraph.{Graph, join, joined_root}
use Rattle.lua_graph.specs.LuaWalkData.{taken, texts_of}
use Rattle.lua_graph.specs.LuaWalkLaws.{Leads}
use Rattle.lua_store.specs.declared.value.Value.{Value}
use Rattle.lua_store.specs.Seen.{StoreView, seen}
use Rattle.lua_graph.specs.Put.{with_texts}
use Rattle.mw_loader.specs.declared.keep.Kept.{Kept}

-- what was kept for a module
abbrev pub kept_for : List (Title × Kept) → Title → Option Kept
kept_for kept title = lookup (titles.ghosts.eq title) kept

-- The value's graph stands in new read-only tables behind those that were there; its texts are there; nothing else changed.
-- The root is the first of the new tables, and from it steps lead to each of them.
pub record IsSharedData (old : StoreView) (value : Value) (new : StoreView) (root : Value) : Type 0 where
  pub graph : Graph
  pub taken_is : taken old.heap (seen old.texts value) ≡ Ok graph
  pub store : new ≡ record { texts = with_texts old.texts (texts_of graph); heap = join true graph old.heap; envs = old.envs; env = old.env }
  pub root_is : seen new.texts root ≡ joined_root old.heap
  pub reached : (n : ℕ) → length old.heap.tables ≤ n → n < length new.heap.tables → Leads new.heap (length old.heap.tables) n
