-- All steps together make a fresh environment. The lists are variables here: sets that follow each other, written out, are slow to compare.
use Rattle.std.proofs.Common.{◌≡◌, ◌∙◌, ℕ, ◌+◌, false, [], ◌∷◌, ◌++◌, map, length, refl, sym, ap, arith}
use Rattle.std.specs.List.{AllByRecursion}
use Rattle.lua_graph.specs.LuaHeapTable.{Entries}
use Rattle.lua_graph.specs.LuaHeapHeap.{Heap}
use Rattle.lua_graph.specs.LuaHeapGraph.{Graph, shift_entries, join}
use Rattle.lua_meaning.specs.Home.{globals, mw}
use Rattle.lua_graph.specs.LuaStoreSeen.{StoreView}
use Rattle.lua_graph.specs.LuaStoreParts.{IsLater}
use Rattle.lua_graph.specs.Put.{grown, filled, all_filled}
use Rattle.lua_graph.proofs.Joining.{all_set, joined}
use Rattle.lua_home.specs.declared.made.Tables.{Tables}
use Rattle.lua_home.specs.Entries.{global_fields, mw_fields}
use Rattle.lua_home.specs.Made.{AreAt, AreTablesOf}

filled-more : {X : Type 0} (n : ℕ) (xs ys : Entries) (h : Heap X) → filled n (xs ++ ys) h ≡ filled n ys (filled n xs h)
filled-more n [] ys h = refl
filled-more n (x ∷ xs) ys h = filled-more n xs ys _

-- a table that is filled in two steps
pub two_fills : {X : Type 0} (n : ℕ) (xs ys : Entries) (h i f : Heap X) → i ≡ filled n xs h → f ≡ filled n ys i → f ≡ filled n (xs ++ ys) h
two_fills n xs ys h i f a b = b ∙ ap (filled n ys) a ∙ sym (filled-more n xs ys h)

-- TABLES ARE FILLED one after another from a number on, from one heap to another
pub data Fills {X : Type 0} : ℕ → Graph → Heap X → Heap X → Type 0 where
  filled_all : (k : ℕ) (h : Heap X) → Fills k [] h h
  filled_one : (k n : ℕ) (es own : Entries) (g : Graph) (h i f : Heap X) → n ≡ k → own ≡ es → i ≡ filled n own h → Fills (k + 1) g i f → Fills k (es ∷ g) h f

fills-are : {X : Type 0} (k : ℕ) (g : Graph) (h f : Heap X) → Fills k g h f → all_filled false k g h ≡ f
fills-are k _ h _ (filled_all _ _) = refl
fills-are k _ h f (filled_one _ n es own g _ i _ at is e more) =
    sym (ap (all_filled false (k + 1) g) (e ∙ ap (λ m. filled m own h) at ∙ ap (λ fs. filled k fs h) is)) ∙ fills-are (k + 1) g i f more

-- so all of them are a graph that was put in
pub fills_join : {X : Type 0} (h made f : Heap X) (g : Graph) → made ≡ grown (length (map (shift_entries (length h.tables)) g)) h
    → AllByRecursion (λ es. all_set [] es ≡ es) (map (shift_entries (length h.tables)) g)
    → Fills (length h.tables) (map (shift_entries (length h.tables)) g) made f → f ≡ join false g h
fills_join h made f g e differ fills =
    sym (fills-are (length h.tables) (map (shift_entries (length h.tables)) g) made f fills)
    ∙ ap (all_filled false (length h.tables) (map (shift_entries (length h.tables)) g)) e ∙ joined h false g differ

pub globals_are : (k : ℕ) (t : Tables) → AreAt k t → global_fields t ≡ shift_entries k globals
globals_are k t at = rw (at.globals, at.strings, at.tables, at.math, at.mw) refl

pub mw_is : (k : ℕ) (t : Tables) → AreAt k t → mw_fields t ≡ shift_entries k mw
mw_is k t at = rw (at.title, at.ustring, at.text, at.html) refl

-- tables stay
pub still_of : {s u : StoreView} {t : Tables} → IsLater s u → AreTablesOf s t → AreTablesOf u t
still_of later of = record {
  globals = omega (arith, of.globals, later.tables);
  strings = omega (arith, of.strings, later.tables);
  mw = omega (arith, of.mw, later.tables);
  title = omega (arith, of.title, later.tables);
  tables = omega (arith, of.tables, later.tables);
  math = omega (arith, of.math, later.tables);
  ustring = omega (arith, of.ustring, later.tables);
  text = omega (arith, of.text, later.tables);
  html = omega (arith, of.html, later.tables);
}
