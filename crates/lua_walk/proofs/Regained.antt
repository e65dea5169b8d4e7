-- What is taken is reached from its root, where it joined another heap.
use Rattle.std.proofs.Common.{◌≡◌, ℕ, zero, suc, ◌+◌, ◌<◌, eqb, Bool, true, false, List, [], ◌∷◌, ◌++◌, length, map, Some, slice_get, slice_index_or, refl, sym, ◌∙◌, ap, subst, arith, inl, inr, if◌then◌else◌}
use Rattle.std.specs.Prelude.{Ok, Err}
use Rattle.std.specs.List.{AllByRecursion, Contains, IsDistinct, flat_map}
use Rattle.std.proofs.lemmas.Bool.{eqb-true}
use Rattle.std.proofs.lemmas.Option.{get_or_from_slice_get}
use Rattle.lua_heap.specs.LuaTableEntries.{Contents}
use Rattle.lua_heap.specs.Value.{Value, Nil, Truth, Number, Text, Table, Closure, Builtin, Markup, is_nil}
use Rattle.lua_heap.specs.Table.{Entries, empty_table}
use Rattle.lua_heap.specs.Heap.{Heap, table_at}
use Rattle.lua_heap.specs.Related.{Each, none, more}
use Rattle.lua_heap.specs.Graph.{Graph, node_table, graph_tables, shift, shift_entries, join}
use Rattle.lua_heap.proofs.Names.{all-at}
use Rattle.lua_heap.proofs.Places.{some_back, part-add, get-part}
use Rattle.lua_heap.proofs.Joins.{joined_tables}
use Rattle.lua_walk.specs.Order.{place_of, reached, live}
use Rattle.lua_walk.specs.Data.{HasMetatable, on_ok, all_ok, key_of, item_of, entry_of, node_of, taken}
use Rattle.lua_walk.specs.Laws.{table_in, links, Leads, root, step, IsOrder}
use Rattle.lua_walk.proofs.Orders.{In, in-contains, in-at}
use Rattle.lua_walk.proofs.Visits.{get-there, get-in}
use Rattle.lua_walk.proofs.Graphs.{ok-back, on-back, all-each, each-length, differ}

-- PLACES in lists
contains-in : (xs : List ℕ) (t : ℕ) → Contains xs t → In xs t
contains-in xs t c = go xs c.0 c.1 c.2
  where
    go : (xs : List ℕ) (k : ℕ) → k < length xs → slice_index_or xs k t ≡ t → In xs t
    go [] k l e = absurd (omega (arith, l))
    go (x ∷ xs) zero l e = inl (sym e)
    go (x ∷ xs) (suc k) l e = inr (go xs k (omega (arith, l)) e)

in-behind : (xs ys : List ℕ) (t : ℕ) → In ys t → In (xs ++ ys) t
in-behind [] ys t i = i
in-behind (x ∷ xs) ys t i = inr (in-behind xs ys t i)

in-place_ : (x n : ℕ) (xs : List ℕ) (b : Bool) → eqb n x ≡ b → In (x ∷ xs) n → (In xs n → slice_get xs (place_of xs n) ≡ Some n) → slice_get (x ∷ xs) (if b then 0 else suc (place_of xs n)) ≡ Some n
in-place_ x n xs true e i f = ap Some (sym (eqb-true n x e))
in-place_ x n xs false e (inl is) f = absurd (differ x n e (sym is))
in-place_ x n xs false e (inr i) f = f i

in-place : (xs : List ℕ) (n : ℕ) → In xs n → slice_get xs (place_of xs n) ≡ Some n
in-place [] n i = absurd i
in-place (x ∷ xs) n i = in-place_ x n xs (eqb n x) refl i (in-place xs n)

-- where each is there once, a place is that of what stands there
once-place_ : (x n at : ℕ) (xs : List ℕ) (b : Bool) → eqb n x ≡ b → IsDistinct eqb (x ∷ xs) → slice_get (x ∷ xs) at ≡ Some n → ((k : ℕ) → slice_get xs k ≡ Some n → place_of xs n ≡ k) → (if b then 0 else suc (place_of xs n)) ≡ at
unfolding IsDistinct
once-place_ x n zero xs true e d there f = refl
once-place_ x n (suc at) xs true e d there f =
    let apart : eqb x n ≡ false = in-at (λ y. eqb x y ≡ false) xs n d.0 (get-in xs at n there) in
    absurd (differ n x apart (eqb-true n x e))
once-place_ x n zero xs false e d there f = absurd (differ x n e (some_back there))
once-place_ x n (suc at) xs false e d there f = ap suc (f at there)

once-place : (xs : List ℕ) (n at : ℕ) → IsDistinct eqb xs → slice_get xs at ≡ Some n → place_of xs n ≡ at
unfolding IsDistinct
once-place [] n at d there = cc
once-place (x ∷ xs) n at d there = once-place_ x n at xs (eqb n x) refl d there (λ k. once-place xs n k d.1)

each-at : {A B : Type 0} (R : A → B → Type 0) (xs : List A) (ys : List B) (n : ℕ) (x : A) → Each R xs ys → slice_get xs n ≡ Some x → (y : B) × (slice_get ys n ≡ Some y) × R x y
each-at R _ _ n x none e = cc
each-at R _ _ zero x (more z y xs ys r rest) e = (y, refl, subst (λ a. R a y) (some_back e) r)
each-at R _ _ (suc n) x (more z y xs ys r rest) e = each-at R xs ys n x rest e

-- A TABLE LEADS in the graph to what it leads to in the heap
module _ (k : ℕ) (order : List ℕ) where
  abbrev IsRead : Value × Value → Value × Value → Type 0
  IsRead e d = entry_of order e ≡ Ok d

  abbrev Values : Entries → List ℕ
  Values es = flat_map (λ e. table_in e.1) es

  read-table : (key : Value) (t : ℕ) (d : Value × Value) → entry_of order (key, Table t) ≡ Ok d → d.1 ≡ Table (place_of order t)
  read-table key t d e =
      let a = on-back (key_of key) (λ x. on_ok (item_of order (Table t)) (λ v. Ok (x, v))) d e in
      let same_ : ◌≡◌ {A = Value × Value} (a.0, Table (place_of order t)) d = ok-back a.2 in
      ap (λ (x : Value × Value). x.1) (sym same_)

  one-leads : (v key : Value) (es ds : Entries) (m : ℕ) → ((ds : Entries) → Each IsRead (live es) ds → In (Values es) m → In (Values (shift_entries k ds)) (k + place_of order m))
      → Each IsRead (if is_nil v then live es else ((key, v) ∷ live es)) ds → In (table_in v ++ Values es) m → In (Values (shift_entries k ds)) (k + place_of order m)
  one-leads Nil key es ds m f each i = f ds each i
  one-leads (Table t) key es _ m f (more _ d _ ds r rest) (inl e) =
      subst (λ v. In (table_in (shift k v) ++ Values (shift_entries k ds)) (k + place_of order m)) (sym (read-table key t d r)) (inl (ap (λ x. k + place_of order x) e))
  one-leads (Table t) key es _ m f (more _ d _ ds r rest) (inr i) = in-behind (table_in (shift k d.1)) (Values (shift_entries k ds)) (k + place_of order m) (f ds rest i)
  one-leads (Truth b) key es _ m f (more _ d _ ds r rest) i = in-behind (table_in (shift k d.1)) (Values (shift_entries k ds)) (k + place_of order m) (f ds rest i)
  one-leads (Number n) key es _ m f (more _ d _ ds r rest) i = in-behind (table_in (shift k d.1)) (Values (shift_entries k ds)) (k + place_of order m) (f ds rest i)
  one-leads (Text t) key es _ m f (more _ d _ ds r rest) i = in-behind (table_in (shift k d.1)) (Values (shift_entries k ds)) (k + place_of order m) (f ds rest i)
  one-leads (Closure c) key es _ m f (more _ d _ ds r rest) i = in-behind (table_in (shift k d.1)) (Values (shift_entries k ds)) (k + place_of order m) (f ds rest i)
  one-leads (Builtin b) key es _ m f (more _ d _ ds r rest) i = in-behind (table_in (shift k d.1)) (Values (shift_entries k ds)) (k + place_of order m) (f ds rest i)
  one-leads (Markup x) key es _ m f (more _ d _ ds r rest) i = in-behind (table_in (shift k d.1)) (Values (shift_entries k ds)) (k + place_of order m) (f ds rest i)

  entries-lead : (es ds : Entries) (m : ℕ) → Each IsRead (live es) ds → In (Values es) m → In (Values (shift_entries k ds)) (k + place_of order m)
  entries-lead [] ds m each i = absurd i
  entries-lead (e ∷ es) ds m each i = one-leads e.1 e.0 es ds m (λ fs. entries-lead es fs m) each i

  node-leads : (frozen : Bool) (c : Contents Value) (es : Entries) (m : ℕ) → node_of order c ≡ Ok es → Contains (links c) m → Contains (links (node_table frozen (shift_entries k es))) (k + place_of order m)
  node-leads frozen c es m e i = in-contains (Values (shift_entries k es)) (k + place_of order m) (go c.meta e (contains-in (links c) m i))
    where
      go : (v : Value) → (if is_nil v then all_ok (entry_of order) (live c.entries) else Err HasMetatable) ≡ Ok es → In (table_in v ++ Values c.entries) m → In (Values (shift_entries k es)) (k + place_of order m)
      go Nil f j = entries-lead c.entries es m (all-each (entry_of order) (live c.entries) es f) j
      go (Truth b) f j = cc
      go (Number n) f j = cc
      go (Text t) f j = cc
      go (Table t) f j = cc
      go (Closure x) f j = cc
      go (Builtin b) f j = cc
      go (Markup x) f j = cc

-- STEP BY STEP from the root
module _ {X : Type 0} (h s : Heap X) (t : ℕ) (frozen : Bool) (g : Graph) (o : IsOrder h t (reached h t)) (e : taken h (Table t) ≡ Ok g) where
  abbrev Order : List ℕ
  Order = reached h t

  abbrev First : ℕ
  First = length s.tables

  nodes : Each (λ n es. node_of Order (table_at h n) ≡ Ok es) Order g
  nodes = all-each (λ n. node_of Order (table_at h n)) Order g e

  table-joined : (at : ℕ) (es : Entries) → slice_get g at ≡ Some es → table_at (join frozen g s) (First + at) ≡ node_table frozen (shift_entries First es)
  table-joined at es there =
      get_or_from_slice_get (join frozen g s).tables (First + at) (node_table frozen (shift_entries First es)) empty_table
      (get-part s.tables (graph_tables frozen (map (shift_entries First) g)) (First + at) at (part-add First at) ∙ joined_tables frozen g First at es there)

  first-place : First ≡ First + place_of Order t
  first-place = let p : place_of Order t ≡ 0 = once-place Order t 0 o.once o.first in omega (arith, p)

  led : (n : ℕ) → Leads h t n → Contains Order n × Leads (join frozen g s) First (First + place_of Order n)
  led _ root = (in-contains Order t (get-in Order 0 t o.first), subst (Leads (join frozen g s) First) first-place root)
  led _ (step n m l c) =
      let before = led n l in
      let linked = all-at (λ x. AllByRecursion (Contains Order) (links (table_at h x))) Order n o.closed before.0 in
      let at = place_of Order n in
      let node = each-at (λ x es. node_of Order (table_at h x) ≡ Ok es) Order g at n nodes (in-place Order n (contains-in Order n before.0)) in
      let on : Contains (links (table_at (join frozen g s) (First + at))) (First + place_of Order m) =
      subst (λ x. Contains (links x) (First + place_of Order m)) (sym (table-joined at node.0 node.1)) (node-leads First Order frozen (table_at h n) node.0 m node.2 c) in
      (all-at (Contains Order) (links (table_at h n)) m linked c, step (First + at) (First + place_of Order m) before.1 on)

  pub taken-reached : (n : ℕ) → n < length g → Leads (join frozen g s) First (First + n)
  taken-reached n le =
      let size = each-length (λ x es. node_of Order (table_at h x) ≡ Ok es) Order g nodes in
      let x = get-there Order n (omega (arith, le, size)) in
      let there = (led x.0 (in-at (Leads h t) Order x.0 o.leads (get-in Order n x.0 x.1))).1 in
      subst (λ p. Leads (join frozen g s) First (First + p)) (once-place Order x.0 n o.once x.1) there
