-- WHAT STANDS IN A HEAP THAT HAS NOTHING BUT TABLES stands in each heap that these tables join, under a map whose numbers are that much greater.
-- The tables may hold functions of the library, which a graph of data may not.
use Rattle.std.proofs.Common.{◌≡◌, ℕ, ◌+◌, ◌≤◌, false, length, Option, Some, None, refl, sym, ◌∙◌, ap, subst, arith, slice_get}
use Rattle.std.proofs.lemmas.Option.{slice_get_past}
use Rattle.lua_heap.specs.Value.{Value}
use Rattle.lua_heap.specs.Table.{Entries}
use Rattle.lua_heap.specs.Heap.{Heap, Ref, tab, cel, clo, mar, Obj, TableObj, look, empty}
use Rattle.lua_heap.specs.Related.{Map, Same, nil, truth, number, text, table, closure, builtin, markup, none, more, SameEntries, SameObj, tables, Stands}
use Rattle.lua_heap.specs.Graph.{Graph, node_table, graph_tables, shift, shift_entries, join}
use Rattle.lua_heap.proofs.Places.{part, part-some, part-add, clash, some_back, of-some_back, of-none, get-map}
use Rattle.lua_heap.proofs.Joins.{behind, look-joined}

-- a heap with the tables of a graph, and nothing else
abbrev pub alone : {X : Type 0} → Graph → Heap X
alone g = record empty { tables = graph_tables false g }

-- the map with its numbers that much greater, forth and back
abbrev before : Map → Option ℕ → Option Ref
before n None = None
before n (Some j) = n.from (tab j)

abbrev from_behind : Map → ℕ → Ref → Option Ref
from_behind n k (tab i) = before n (part k i)
from_behind n k (cel i) = None
from_behind n k (clo i) = None
from_behind n k (mar i) = None

abbrev pub moved : Map → ℕ → Map
moved n k = record { to = λ q. behind k (n.to q); from = from_behind n k }

pub moved-back : (k : ℕ) (o : Option Ref) (r : Ref) → behind k o ≡ Some r → (j : ℕ) × (o ≡ Some (tab j)) × (r ≡ tab (k + j))
moved-back k None r e = cc
moved-back k (Some (tab j)) r e = (j, refl, sym (some_back e))
moved-back k (Some (cel j)) r e = cc
moved-back k (Some (clo j)) r e = cc
moved-back k (Some (mar j)) r e = cc

alone-back : {X : Type 0} (g : Graph) (j : ℕ) (b : Obj X) → look (alone g) (tab j) ≡ Some b → (es : Entries) × (slice_get g j ≡ Some es) × (b ≡ TableObj (node_table false es))
alone-back g j b e =
    let t = of-some_back TableObj (slice_get (graph_tables false g) j) b e in
    let c = of-some_back (node_table false) (slice_get g j) t.0 (sym (get-map (node_table false) g j) ∙ t.1) in
    (c.0, c.1, sym t.2 ∙ ap TableObj (sym c.2))

module _ {X Y : Type 0} (R : Map → X → Y → Type 0) (n : Map) (g : Graph) (h : Heap X) (s : Heap Y) (st : Stands R n h (alone g)) where
  value-moved : (v w : Value) → Same n v w → Same (moved n (length s.tables)) v (shift (length s.tables) w)
  value-moved _ _ nil = nil
  value-moved _ _ (truth b) = truth b
  value-moved _ _ (number b) = number b
  value-moved _ _ (text b) = text b
  value-moved _ _ (builtin b) = builtin b
  value-moved _ _ (table a b e) = table a (length s.tables + b) (ap (behind (length s.tables)) e)
  value-moved _ _ (closure a b e) = let v = st.holds (clo a) (clo b) e in clash v.3 refl
  value-moved _ _ (markup a b e) = let v = st.holds (mar a) (mar b) e in clash v.3 refl

  entries-moved : (es fs : Entries) → SameEntries n es fs → SameEntries (moved n (length s.tables)) es (shift_entries (length s.tables) fs)
  entries-moved _ _ none = none
  entries-moved _ _ (more x y xs ys e rest) = more x _ xs _ (record { key = value-moved _ _ e.key; value = value-moved _ _ e.value }) (entries-moved xs ys rest)

  object-moved : (a : Obj X) (es : Entries) → SameObj R n a (TableObj (node_table false es)) → SameObj R (moved n (length s.tables)) a (TableObj (node_table false (shift_entries (length s.tables) es)))
  object-moved _ es (tables a b t) = tables a _ (record { entries = entries-moved _ _ t.entries; meta = value-moved _ _ t.meta; frozen = t.frozen })

  forth : (q r : Ref) → behind (length s.tables) (n.to q) ≡ Some r → from_behind n (length s.tables) r ≡ Some q
  forth q r e =
      let b = moved-back (length s.tables) (n.to q) r e in
      subst (λ z. from_behind n (length s.tables) z ≡ Some q) (sym b.2) (ap (before n) (part-add (length s.tables) b.0) ∙ st.forth q (tab b.0) b.1)

  back : (q r : Ref) → from_behind n (length s.tables) r ≡ Some q → behind (length s.tables) (n.to q) ≡ Some r
  back q (cel i) e = cc
  back q (clo i) e = cc
  back q (mar i) e = cc
  back q (tab i) e = go (part (length s.tables) i) refl e
    where
      go : (o : Option ℕ) → part (length s.tables) i ≡ o → before n o ≡ Some q → behind (length s.tables) (n.to q) ≡ Some (tab i)
      go None f x = cc
      go (Some j) f x = ap (behind (length s.tables)) (st.back q (tab j) x) ∙ ap Some (ap tab (sym (part-some (length s.tables) i j f)))

  holds : (q r : Ref) → behind (length s.tables) (n.to q) ≡ Some r
      → (a : Obj X) × (b : Obj Y) × (look h q ≡ Some a) × (look (join false g s) r ≡ Some b) × SameObj R (moved n (length s.tables)) a b
  holds q r e =
      let b = moved-back (length s.tables) (n.to q) r e in
      let v = st.holds q (tab b.0) b.1 in
      let c = alone-back g b.0 v.1 v.3 in (
        v.0,
        TableObj (node_table false (shift_entries (length s.tables) c.0)),
        v.2,
        subst (λ z. look (join false g s) z ≡ Some (TableObj (node_table false (shift_entries (length s.tables) c.0)))) (sym b.2) (look-joined false g s b.0 c.0 c.1),
        object-moved v.0 c.0 (subst (λ o. SameObj R n v.0 o) c.2 v.4),
      )

  pub stands-moved : Stands R (moved n (length s.tables)) h (join false g s)
  stands-moved = record { forth = forth; back = back; holds = holds }

-- what stands so is new
pub moved-new : {Y : Type 0} (n : Map) (s : Heap Y) (q r : Ref) → behind (length s.tables) (n.to q) ≡ Some r → look s r ≡ None
moved-new n s q r e =
    let b = moved-back (length s.tables) (n.to q) r e in
    let past : length s.tables ≤ length s.tables + b.0 = omega arith in
    subst (λ z. look s z ≡ None) (sym b.2) (of-none TableObj _ (slice_get_past s.tables (length s.tables + b.0) past))
