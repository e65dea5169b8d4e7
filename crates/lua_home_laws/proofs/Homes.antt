-- A fresh environment that was made in a heap.
use Rattle.std.proofs.Common.{◌≡◌, ◌+◌, ℕ, false, length, Some, refl, sym, ◌∙◌, ap, subst}
use Rattle.lua_heap.specs.Proc.{Proc}
use Rattle.lua_heap.specs.Heap.{Heap, tab, TableObj, look, table_at, is_shared}
use Rattle.lua_heap.specs.Related.{Stands}
use Rattle.lua_heap.specs.Graph.{node_table, shift_entries}
use Rattle.lua_heap.proofs.Joins.{behind, look-first, look-joined}
use Rattle.lua_heap.proofs.Stood.{look-table}
use Rattle.lua_points.specs.LuaMeaningScope.{Function}
use Rattle.lua_home.specs.LuaMeaningHome.{globals as global_entries, home_tables, home_heap}
use Rattle.lua_points.specs.LuaSlotsCode.{CWorld}
use Rattle.lua_points.proofs.LuaLibraryAgreeLibraryLaws.{homes_agree}
use Rattle.lua_points.specs.LuaAgreeFunctions.{SameFunction}
use Rattle.lua_points.specs.Told.{IsHome}
use Rattle.lua_points.proofs.Clauses.{clause_of_start}
use Rattle.lua_home.specs.Made.{with_home, IsHomeAt}
use Rattle.lua_home_laws.specs.Laws.{FreshIsHome, MadeIsHome, MadeIsOpen, MadeStarts}
use Rattle.lua_home_laws.proofs.Moved.{alone, moved, stands-moved, moved-new}

home-alone : {X : Type 0} → home_heap {X = X} ≡ alone home_tables
home-alone = refl

stands-made : (code : CWorld) (h : Heap Proc) (globals strings : ℕ) → IsHomeAt (length h.tables) globals strings → IsHome code globals strings h (with_home h)
stands-made code h globals strings at =
    let n = homes_agree {X = Function} {Y = Proc} (SameFunction code) in
    let alone_stands : Stands (SameFunction code) n.0 home_heap (alone home_tables) = subst (λ (g : Heap Proc). Stands (SameFunction code) n.0 home_heap g) home-alone n.1 in
    record {
      names = moved n.0 (length h.tables);
      stands = stands-moved (SameFunction code) n.0 home_tables home_heap h alone_stands;
      globals_at = ap (behind (length h.tables)) n.2 ∙ ap (λ (i : ℕ). Some (tab i)) (sym at.globals);
      strings_at = ap (behind (length h.tables)) n.3 ∙ ap (λ (i : ℕ). Some (tab i)) (sym at.strings);
      made = moved-new n.0 h;
      frame = record {
        lives = λ r b e. (b, look-first false home_tables h r b e);
        others = λ r b e o. look-first false home_tables h r b e;
        shared = λ r b e o. look-first false home_tables h r b e;
      };
    }

pub made_is_home : MadeIsHome
made_is_home code before after globals strings is at = subst (λ (s : Heap Proc). IsHome code globals strings before s) (sym is) (stands-made code before globals strings at)

pub fresh_is_home : FreshIsHome
fresh_is_home code before after t is at = made_is_home code before after t.globals.at t.strings.at is (record { globals = at.globals; strings = at.strings })

opened : (h : Heap Proc) (i : ℕ) → i ≡ length h.tables + 0 → (table_at (with_home h) i).frozen ≡ false
opened h i e =
    let there : look (with_home h) (tab (length h.tables + 0)) ≡ Some (TableObj (node_table false (shift_entries (length h.tables) global_entries))) = look-joined false home_tables h 0 global_entries refl in
    ap is_shared (look-table (with_home h) i _ (ap (λ (j : ℕ). look (with_home h) (tab j)) e ∙ there))

pub made_is_open : MadeIsOpen
made_is_open before after globals strings is at = ap (λ (s : Heap Proc). (table_at s globals).frozen) is ∙ opened before globals at.globals

pub made_starts : MadeStarts
made_starts code work before after globals strings is at = clause_of_start code work globals strings before after (made_is_home code before after globals strings is at)
