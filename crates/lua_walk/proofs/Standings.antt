-- A walk in a heap, and a walk in another one where the first heap stands, come to the same tables.
use Rattle.std.proofs.Common.{◌≡◌, ℕ, zero, suc, ◌+◌, ◌*◌, ◌<◌, eqb, Bool, true, false, List, [], ◌∷◌, length, Option, Some, slice_get, refl, ◌∙◌, ap, subst, arith, if◌then◌else◌}
use Rattle.std.specs.Prelude.{Ok, Err}
use Rattle.std.specs.List.{AllByRecursion, flat_map}
use Rattle.std.proofs.lemmas.Option.{slice_get_within}
use Rattle.lua_heap.specs.LuaTableEntries.{Contents}
use Rattle.lua_heap.specs.Value.{Value, Table, is_nil}
use Rattle.lua_heap.specs.Table.{Entries}
use Rattle.lua_heap.specs.Heap.{Heap, tab, TableObj, table_at}
use Rattle.lua_heap.specs.Related.{Map, Each, none, more, SameOption, neither, both, OneToOne, Same, nil, truth, number, text, table, closure, builtin, markup, SameEntries, SameTable, Stands}
use Rattle.lua_heap.proofs.Names.{all-join}
use Rattle.lua_heap.proofs.Places.{of-some_back}
use Rattle.lua_heap.proofs.Entries.{same-related, nil-related}
use Rattle.lua_heap.proofs.Steps.{one_to_one}
use Rattle.lua_heap.proofs.Stood.{stood-table}
use Rattle.lua_walk.specs.Order.{place_of, with_table, with_value, with_entries, with_links, go_on, visit, reached, live}
use Rattle.lua_walk.specs.Data.{Checked, HasMetatable, on_ok, all_ok, key_of, item_of, entry_of, node_of, taken}
use Rattle.lua_walk.specs.Copy.{tables_cost, copy_cost}
use Rattle.lua_walk.specs.Laws.{table_in, links}
use Rattle.lua_walk.proofs.Visits.{more-nothing}

each-get : {A B : Type 0} (R : A → B → Type 0) (xs : List A) (ys : List B) → Each R xs ys → (n : ℕ) → SameOption R (slice_get xs n) (slice_get ys n)
each-get R _ _ none n = neither
each-get R _ _ (more x y xs ys r rest) zero = both x y r
each-get R _ _ (more x y xs ys r rest) (suc n) = each-get R xs ys rest n

pub each-size : {A B : Type 0} (R : A → B → Type 0) (xs : List A) (ys : List B) → Each R xs ys → length xs ≡ length ys
each-size R _ _ none = refl
each-size R _ _ (more x y xs ys r rest) = ap suc (each-size R xs ys rest)

-- one result before another
abbrev pair_ok : Checked Value → Checked Value → Checked (Value × Value)
pair_ok a b = on_ok a (λ k. on_ok b (λ v. Ok (k, v)))

abbrev cons_ok : {B : Type 0} → Checked B → Checked (List B) → Checked (List B)
cons_ok a b = on_ok a (λ y. on_ok b (λ ys. Ok (y ∷ ys)))

all-same : {A C B : Type 0} (R : A → C → Type 0) (f : A → Checked B) (g : C → Checked B) → ((x : A) (y : C) → R x y → f x ≡ g y) → (xs : List A) (ys : List C) → Each R xs ys → all_ok f xs ≡ all_ok g ys
all-same R f g same _ _ none = refl
all-same R f g same _ _ (more x y xs ys r rest) = ap (λ a. cons_ok a (all_ok f xs)) (same x y r) ∙ ap (cons_ok (g y)) (all-same R f g same xs ys rest)

live-same_ : (m : Map) (e f : Value × Value) (es fs : Entries) (b c : Bool) → b ≡ c → SameEntries m (e ∷ []) (f ∷ []) → SameEntries m (live es) (live fs) → SameEntries m (if b then live es else (e ∷ live es)) (if c then live fs else (f ∷ live fs))
live-same_ m e f es fs true true g r i = i
live-same_ m e f es fs true false g r i = cc
live-same_ m e f es fs false true g r i = cc
live-same_ m e f es fs false false g (more _ _ _ _ r rest) i = more e f (live es) (live fs) r i

pub live-same : (m : Map) (es fs : Entries) → SameEntries m es fs → SameEntries m (live es) (live fs)
live-same m _ _ none = none
live-same m _ _ (more e f es fs r rest) = live-same_ m e f es fs (is_nil e.1) (is_nil f.1) (nil-related m e.1 f.1 r.value) (more e f [] [] r none) (live-same m es fs rest)

module _ {X Y : Type 0} (R : Map → X → Y → Type 0) (m : Map) (h : Heap X) (s : Heap Y) (st : Stands R m h s) where
  abbrev pub SameTab : ℕ → ℕ → Type 0
  SameTab a b = m.to (tab a) ≡ Some (tab b)

  abbrev pub Orders : List ℕ → List ℕ → Type 0
  Orders xs ys = Each SameTab xs ys

  one-one : OneToOne m
  one-one p q r e f = one_to_one R m h s st p q r e f

  tests : (a b c d : ℕ) → SameTab a c → SameTab b d → eqb a b ≡ eqb c d
  tests a b c d e f = same-related m one-one (Table a) (Table b) (Table c) (Table d) (table a c e) (table b d f)

  -- ORDERS
  with-same_ : (t u x y : ℕ) (xs ys : List ℕ) (b c : Bool) → b ≡ c → SameTab x y → Orders xs ys → Orders (with_table xs t) (with_table ys u)
      → Orders (if b then x ∷ xs else x ∷ with_table xs t) (if c then y ∷ ys else y ∷ with_table ys u)
  with-same_ t u x y xs ys true true e r rest i = more x y xs ys r rest
  with-same_ t u x y xs ys true false e r rest i = cc
  with-same_ t u x y xs ys false true e r rest i = cc
  with-same_ t u x y xs ys false false e r rest i = more x y (with_table xs t) (with_table ys u) r i

  with-same : (t u : ℕ) → SameTab t u → (xs ys : List ℕ) → Orders xs ys → Orders (with_table xs t) (with_table ys u)
  with-same t u e _ _ none = more t u [] [] e none
  with-same t u e _ _ (more x y xs ys r rest) = with-same_ t u x y xs ys (eqb t x) (eqb u y) (tests t x u y e r) r rest (with-same t u e xs ys rest)

  place-same_ : (p q : ℕ) (b c : Bool) → b ≡ c → p ≡ q → (if b then 0 else suc p) ≡ (if c then 0 else suc q)
  place-same_ p q true true e i = refl
  place-same_ p q true false e i = cc
  place-same_ p q false true e i = cc
  place-same_ p q false false e i = ap suc i

  pub place-same : (t u : ℕ) → SameTab t u → (xs ys : List ℕ) → Orders xs ys → place_of xs t ≡ place_of ys u
  place-same t u e _ _ none = refl
  place-same t u e _ _ (more x y xs ys r rest) = place-same_ (place_of xs t) (place_of ys u) (eqb t x) (eqb u y) (tests t x u y e r) (place-same t u e xs ys rest)

  value-same : (v w : Value) → Same m v w → (xs ys : List ℕ) → Orders xs ys → Orders (with_value xs v) (with_value ys w)
  value-same _ _ (table a b e) xs ys o = with-same a b e xs ys o
  value-same _ _ nil xs ys o = o
  value-same _ _ (truth b) xs ys o = o
  value-same _ _ (number n) xs ys o = o
  value-same _ _ (text t) xs ys o = o
  value-same _ _ (builtin b) xs ys o = o
  value-same _ _ (closure a b e) xs ys o = o
  value-same _ _ (markup a b e) xs ys o = o

  entries-same : (es fs : Entries) → SameEntries m es fs → (xs ys : List ℕ) → Orders xs ys → Orders (with_entries xs es) (with_entries ys fs)
  entries-same _ _ none xs ys o = o
  entries-same _ _ (more e f es fs r rest) xs ys o = entries-same es fs rest (with_value xs e.1) (with_value ys f.1) (value-same e.1 f.1 r.value xs ys o)

  links-same : (a b : Contents Value) → SameTable m a b → (xs ys : List ℕ) → Orders xs ys → Orders (with_links xs a) (with_links ys b)
  links-same a b t xs ys o = entries-same a.entries b.entries t.entries (with_value xs a.meta) (with_value ys b.meta) (value-same a.meta b.meta t.meta xs ys o)

  pub tables-same : (a b : ℕ) → SameTab a b → SameTable m (table_at h a) (table_at s b)
  tables-same a b e = (stood-table R m h s a b st e).0

  visit-same : (n at : ℕ) (xs ys : List ℕ) → Orders xs ys → Orders (visit n h at xs) (visit n s at ys)
  visit-same zero at xs ys o = o
  visit-same (suc n) at xs ys o =
      go (slice_get xs at) (slice_get ys at) (each-get SameTab xs ys o at)
      (λ a b e. visit-same n (at + 1) (with_links xs (table_at h a)) (with_links ys (table_at s b)) (links-same (table_at h a) (table_at s b) (tables-same a b e) xs ys o))
    where
      go : (p q : Option ℕ) → SameOption SameTab p q → ((a b : ℕ) → SameTab a b → Orders (visit n h (at + 1) (with_links xs (table_at h a))) (visit n s (at + 1) (with_links ys (table_at s b))))
          → Orders (go_on (λ t. visit n h (at + 1) (with_links xs (table_at h t))) xs p) (go_on (λ t. visit n s (at + 1) (with_links ys (table_at s t))) ys q)
      go _ _ neither f = o
      go _ _ (both a b e) f = f a b e

  -- the tables that stand, and those that stand for one, lead to such only
  abbrev pub Left : ℕ → Type 0
  Left a = (b : ℕ) × SameTab a b

  abbrev pub Right : ℕ → Type 0
  Right b = (a : ℕ) × SameTab a b

  pub left-there : (a : ℕ) → Left a → a < length h.tables
  left-there a l =
      let v = st.holds (tab a) (tab l.0) l.1 in
      let b = of-some_back TableObj (slice_get h.tables a) v.0 v.2 in
      slice_get_within h.tables a b.0 b.1

  pub right-there : (b : ℕ) → Right b → b < length s.tables
  right-there b l =
      let v = st.holds (tab l.0) (tab b) l.1 in
      let c = of-some_back TableObj (slice_get s.tables b) v.1 v.3 in
      slice_get_within s.tables b c.0 c.1

  left-value : (v w : Value) → Same m v w → AllByRecursion Left (table_in v)
  left-value _ _ (table a b e) = ((b, e), tt)
  left-value _ _ nil = tt
  left-value _ _ (truth b) = tt
  left-value _ _ (number n) = tt
  left-value _ _ (text t) = tt
  left-value _ _ (builtin b) = tt
  left-value _ _ (closure a b e) = tt
  left-value _ _ (markup a b e) = tt

  left-entries : (es fs : Entries) → SameEntries m es fs → AllByRecursion Left (flat_map (λ e. table_in e.1) es)
  left-entries _ _ none = tt
  left-entries _ _ (more e f es fs r rest) = all-join Left (table_in e.1) (flat_map (λ e. table_in e.1) es) (left-value e.1 f.1 r.value) (left-entries es fs rest)

  pub left-shut : (a : ℕ) → Left a → AllByRecursion Left (links (table_at h a))
  left-shut a l =
      let t = tables-same a l.0 l.1 in
      all-join Left (table_in (table_at h a).meta) (flat_map (λ e. table_in e.1) (table_at h a).entries) (left-value (table_at h a).meta (table_at s l.0).meta t.meta) (left-entries (table_at h a).entries (table_at s l.0).entries t.entries)

  right-value : (v w : Value) → Same m v w → AllByRecursion Right (table_in w)
  right-value _ _ (table a b e) = ((a, e), tt)
  right-value _ _ nil = tt
  right-value _ _ (truth b) = tt
  right-value _ _ (number n) = tt
  right-value _ _ (text t) = tt
  right-value _ _ (builtin b) = tt
  right-value _ _ (closure a b e) = tt
  right-value _ _ (markup a b e) = tt

  right-entries : (es fs : Entries) → SameEntries m es fs → AllByRecursion Right (flat_map (λ e. table_in e.1) fs)
  right-entries _ _ none = tt
  right-entries _ _ (more e f es fs r rest) = all-join Right (table_in f.1) (flat_map (λ e. table_in e.1) fs) (right-value e.1 f.1 r.value) (right-entries es fs rest)

  pub right-shut : (b : ℕ) → Right b → AllByRecursion Right (links (table_at s b))
  right-shut b l =
      let t = tables-same l.0 b l.1 in
      all-join Right (table_in (table_at s b).meta) (flat_map (λ e. table_in e.1) (table_at s b).entries) (right-value (table_at h l.0).meta (table_at s b).meta t.meta) (right-entries (table_at h l.0).entries (table_at s b).entries t.entries)

  -- so both walks, with as many visits as both heaps have tables, go on alike
  pub reached-same : (a b : ℕ) → SameTab a b → Orders (reached h a) (reached s b)
  reached-same a b e =
      let n = length h.tables + length s.tables in
      let p : visit n h 0 (a ∷ []) ≡ reached h a = more-nothing h Left left-there left-shut a n (b, e) (omega arith) in
      let q : visit n s 0 (b ∷ []) ≡ reached s b = more-nothing s Right right-there right-shut b n (a, e) (omega arith) in
      subst (λ xs. Orders xs (reached s b)) p (subst (λ ys. Orders (visit n h 0 (a ∷ [])) ys) q (visit-same n 0 (a ∷ []) (b ∷ []) (more a b [] [] e none)))

  -- DATA
  key-same : (v w : Value) → Same m v w → key_of v ≡ key_of w
  key-same _ _ nil = refl
  key-same _ _ (truth b) = refl
  key-same _ _ (number n) = refl
  key-same _ _ (text t) = refl
  key-same _ _ (builtin b) = refl
  key-same _ _ (table a b e) = refl
  key-same _ _ (closure a b e) = refl
  key-same _ _ (markup a b e) = refl

  item-same : (xs ys : List ℕ) → Orders xs ys → (v w : Value) → Same m v w → item_of xs v ≡ item_of ys w
  item-same xs ys o _ _ (table a b e) = ap (λ (n : ℕ). let r : Checked Value = Ok (Table n) in r) (place-same a b e xs ys o)
  item-same xs ys o _ _ nil = refl
  item-same xs ys o _ _ (truth b) = refl
  item-same xs ys o _ _ (number n) = refl
  item-same xs ys o _ _ (text t) = refl
  item-same xs ys o _ _ (builtin b) = refl
  item-same xs ys o _ _ (closure a b e) = refl
  item-same xs ys o _ _ (markup a b e) = refl

  node-same : (xs ys : List ℕ) → Orders xs ys → (a b : Contents Value) → SameTable m a b → node_of xs a ≡ node_of ys b
  node-same xs ys o a b t =
      ap (λ (c : Bool). let r : Checked Entries = if c then all_ok (entry_of xs) (live a.entries) else Err HasMetatable in r) (nil-related m a.meta b.meta t.meta)
      ∙ ap (λ (d : Checked Entries). let r : Checked Entries = if is_nil b.meta then d else Err HasMetatable in r)
      (all-same (λ e f. SameEntries m (e ∷ []) (f ∷ [])) (entry_of xs) (entry_of ys) entry-same (live a.entries) (live b.entries) (singles (live a.entries) (live b.entries) (live-same m a.entries b.entries t.entries)))
    where
      entry-same : (e f : Value × Value) → SameEntries m (e ∷ []) (f ∷ []) → entry_of xs e ≡ entry_of ys f
      entry-same e f (more _ _ _ _ r rest) = ap (λ k. pair_ok k (item_of xs e.1)) (key-same e.0 f.0 r.key) ∙ ap (pair_ok (key_of f.0)) (item-same xs ys o e.1 f.1 r.value)

      singles : (es fs : Entries) → SameEntries m es fs → Each (λ e f. SameEntries m (e ∷ []) (f ∷ [])) es fs
      singles _ _ none = none
      singles _ _ (more e f es fs r rest) = more e f es fs (more e f [] [] r none) (singles es fs rest)

  pub taken-same : (v w : Value) → Same m v w → taken h v ≡ taken s w
  taken-same _ _ (table a b e) =
      all-same SameTab (λ n. node_of (reached h a) (table_at h n)) (λ n. node_of (reached s b) (table_at s n))
      (λ x y f. node-same (reached h a) (reached s b) (reached-same a b e) (table_at h x) (table_at s y) (tables-same x y f)) (reached h a) (reached s b) (reached-same a b e)
  taken-same _ _ nil = refl
  taken-same _ _ (truth b) = refl
  taken-same _ _ (number n) = refl
  taken-same _ _ (text t) = refl
  taken-same _ _ (builtin b) = refl
  taken-same _ _ (closure a b e) = refl
  taken-same _ _ (markup a b e) = refl

  -- COSTS
  tables-cost : (xs ys : List ℕ) → Orders xs ys → tables_cost h xs ≡ tables_cost s ys
  tables-cost _ _ none = refl
  tables-cost _ _ (more x y xs ys e rest) =
      let t = tables-same x y e in
      let n = each-size _ (live (table_at h x).entries) (live (table_at s y).entries) (live-same m (table_at h x).entries (table_at s y).entries t.entries) in
      ap (λ (k : ℕ). 8 + 4 * k + tables_cost h xs) n ∙ ap (λ (c : ℕ). 8 + 4 * length (live (table_at s y).entries) + c) (tables-cost xs ys rest)

  pub cost-same : (v w : Value) → Same m v w → copy_cost h v ≡ copy_cost s w
  cost-same _ _ (table a b e) = tables-cost (reached h a) (reached s b) (reached-same a b e)
  cost-same _ _ nil = refl
  cost-same _ _ (truth b) = refl
  cost-same _ _ (number n) = refl
  cost-same _ _ (text t) = refl
  cost-same _ _ (builtin b) = refl
  cost-same _ _ (closure a b e) = refl
  cost-same _ _ (markup a b e) = refl
