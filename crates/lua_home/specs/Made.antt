-- A FRESH ENVIRONMENT IN A HEAP (manual 5; Scribunto, "Lua environment"): the nine tables with which each run of Lua begins stand behind
-- those that were there, in the same order, and name each other by their new numbers.
use Rattle.std.specs.Prelude.{◌≡◌, ℕ, ◌+◌, false}
use Rattle.lua_graph.specs.LuaHeapHeap.{Heap}
use Rattle.lua_graph.specs.LuaHeapGraph.{graph_heap, join}
use Rattle.lua_meaning.specs.Home.{home_tables, home_heap}
use Rattle.lua_graph.specs.LuaStoreSeen.{StoreView}
use Rattle.lua_graph.specs.LuaStoreParts.{IsTableOf}
use Rattle.lua_home.specs.declared.made.Tables.{Tables}

abbrev pub with_home : {X : Type 0} → Heap X → Heap X
with_home h = join false home_tables h

-- alone in a heap, they are the heap with which a run begins
abbrev pub HomeIsHome : Type 0
HomeIsHome = graph_heap false home_tables ≡ home_heap

-- the numbers of the nine tables, where so many stand before them
pub record AreAt (k : ℕ) (t : Tables) : Type 0 where
  pub globals : t.globals.at ≡ k + 0
  pub strings : t.strings.at ≡ k + 1
  pub mw : t.mw.at ≡ k + 2
  pub title : t.title.at ≡ k + 3
  pub tables : t.tables.at ≡ k + 4
  pub math : t.math.at ≡ k + 5
  pub ustring : t.ustring.at ≡ k + 6
  pub text : t.text.at ≡ k + 7
  pub html : t.html.at ≡ k + 8

-- those of the two tables that a run keeps at hand
pub record IsHomeAt (k first second : ℕ) : Type 0 where
  pub globals : first ≡ k + 0
  pub strings : second ≡ k + 1

pub record AreTablesOf (s : StoreView) (t : Tables) : Type 0 where
  pub globals : IsTableOf s t.globals
  pub strings : IsTableOf s t.strings
  pub mw : IsTableOf s t.mw
  pub title : IsTableOf s t.title
  pub tables : IsTableOf s t.tables
  pub math : IsTableOf s t.math
  pub ustring : IsTableOf s t.ustring
  pub text : IsTableOf s t.text
  pub html : IsTableOf s t.html
