-- A walk visits all that it reaches.
use Rattle.std.proofs.Common.{◌≡◌, ℕ, zero, suc, ◌+◌, ◌-◌, ◌<◌, ◌≤◌, eqb, Bool, true, false, ◌||◌, List, [], ◌∷◌, length, Option, Some, None, slice_get, IsTrue, refl, sym, ◌∙◌, ap, subst, arith, inl, inr, ◌⊎◌}
use Rattle.std.specs.List.{AllByRecursion, Contains, IsDistinct, flat_map, list_any}
use Rattle.std.proofs.lemmas.Bool.{eqb-true}
use Rattle.std.proofs.lemmas.Option.{slice_get_within}
use Rattle.std.proofs.lemmas.Map.Steps.{length-le_from_distinct_below}
use Rattle.lua_heap.specs.Value.{Value, Nil, Truth, Number, Text, Table, Closure, Builtin, Markup}
use Rattle.lua_heap.specs.Table.{Entries}
use Rattle.lua_heap.specs.Heap.{Heap, Ref, tab, TableObj, table_at}
use Rattle.lua_heap.specs.Reach.{Set, AllIn, value_names, entry_names, table_names, obj_names, IsClosed}
use Rattle.lua_heap.proofs.Names.{all-split, all-join, all-map}
use Rattle.lua_heap.proofs.Places.{some_back, of-some_back}
use Rattle.lua_heap.proofs.Stood.{look-table}
use Rattle.lua_walk.specs.Order.{with_links, go_on, visit, reached}
use Rattle.lua_walk.specs.Laws.{table_in, links, Leads, root, step, IsOrder}
use Rattle.lua_walk.proofs.Orders.{In, in-contains, in-at, links-get, links-in_keep, links-once, links-all, links-in}

-- LISTS
pub get-there : {A : Type 0} (xs : List A) (n : ℕ) → n < length xs → (x : A) × (slice_get xs n ≡ Some x)
get-there [] n h = absurd (omega (arith, h))
get-there (x ∷ xs) zero h = (x, refl)
get-there (x ∷ xs) (suc n) h = get-there xs n (omega (arith, h))

past-end : {A : Type 0} (xs : List A) (n : ℕ) → slice_get xs n ≡ None → length xs ≤ n
past-end [] n h = omega arith
past-end (x ∷ xs) zero h = cc
past-end (x ∷ xs) (suc n) h = let e = past-end xs n h in omega (arith, e)

pub none-past : {A : Type 0} (xs : List A) (n : ℕ) → length xs ≤ n → slice_get xs n ≡ None
none-past [] zero h = refl
none-past [] (suc n) h = refl
none-past (x ∷ xs) zero h = absurd (omega (arith, h))
none-past (x ∷ xs) (suc n) h = none-past xs n (omega (arith, h))

pub get-in : (xs : List ℕ) (n x : ℕ) → slice_get xs n ≡ Some x → In xs x
get-in [] n x e = cc
get-in (y ∷ xs) zero x e = inl (some_back (sym e))
get-in (y ∷ xs) (suc n) x e = inr (get-in xs n x e)

below-or-at : (k n : ℕ) → k < n + 1 → (k < n) ⊎ (k ≡ n)
below-or-at zero zero l = inr refl
below-or-at zero (suc n) l = inl (omega arith)
below-or-at (suc k) zero l = absurd (omega (arith, l))
below-or-at (suc k) (suc n) l = elim (below-or-at k n (omega (arith, l))) [ inl a ↦ inl (omega (arith, a)) | inr e ↦ inr (ap suc e) ]

-- what is true of each place is true of all
all-places : (P : ℕ → Type 0) (xs : List ℕ) → ((n x : ℕ) → slice_get xs n ≡ Some x → P x) → AllByRecursion P xs
all-places P [] f = tt
all-places P (x ∷ xs) f = (f 0 x refl, all-places P xs (λ n y e. f (suc n) y e))

any-in_ : (q x : ℕ) (xs : List ℕ) (b : Bool) → eqb q x ≡ b → (b || list_any (eqb q) xs) ≡ true → (list_any (eqb q) xs ≡ true → In xs q) → In (x ∷ xs) q
any-in_ q x xs true e h f = inl (eqb-true q x e)
any-in_ q x xs false e h f = inr (f h)

any-in : (xs : List ℕ) (q : ℕ) → list_any (eqb q) xs ≡ true → In xs q
any-in [] q h = cc
any-in (x ∷ xs) q h = any-in_ q x xs (eqb q x) refl h (any-in xs q)

-- numbers below n, each once, are n at most
few : (xs : List ℕ) (n : ℕ) → IsDistinct eqb xs → AllByRecursion (λ x. x < n) xs → length xs ≤ n
few xs n d a = length-le_from_distinct_below xs n d (λ q h. in-at (λ x. x < n) xs q a (any-in xs q h))

-- A WALK AMONG TABLES that lead to such only. Here these are the tables for which S holds.
module _ {X : Type 0} (h : Heap X) (S : ℕ → Type 0) (there : (n : ℕ) → S n → n < length h.tables) (shut : (n : ℕ) → S n → AllByRecursion S (links (table_at h n))) where
  -- where a walk from t is, when the first tables of the order are visited
  record Walks (t at : ℕ) (order : List ℕ) : Type 0 where
    first : slice_get order 0 ≡ Some t
    once : IsDistinct eqb order
    tables : AllByRecursion S order
    leads : AllByRecursion (Leads h t) order
    visited : (k n : ℕ) → k < at → slice_get order k ≡ Some n → AllByRecursion (In order) (links (table_at h n))

  begins : (t : ℕ) → S t → Walks t 0 (t ∷ [])
  unfolding IsDistinct
  begins t b = record { first = refl; once = (tt, tt); tables = (b, tt); leads = (root, tt); visited = λ k n l e. absurd (omega (arith, l)) }

  -- one table more is visited
  goes-on : (t at n : ℕ) (order : List ℕ) → Walks t at order → slice_get order at ≡ Some n → Walks t (at + 1) (with_links order (table_at h n))
  goes-on t at n order w e = record {
    first = links-get (table_at h n) order 0 t w.first;
    once = links-once (table_at h n) order w.once;
    tables = links-all S (table_at h n) order (shut n (in-at S order n w.tables (get-in order at n e))) w.tables;
    leads = links-all (Leads h t) (table_at h n) order (all-links (links (table_at h n)) (λ m c. step n m (in-at (Leads h t) order n w.leads (get-in order at n e)) c)) w.leads;
    visited = λ k m l f. elim (below-or-at k at l) [
      | inl b ↦ earlier k m b f
      | inr b ↦ newest k m b f
    ];
  }
    where
      all-links : (ms : List ℕ) → ((m : ℕ) → Contains ms m → Leads h t m) → AllByRecursion (Leads h t) ms
      all-links ms f = all-places (Leads h t) ms (λ k m g. f m (in-contains ms m (get-in ms k m g)))

      earlier : (k m : ℕ) → k < at → slice_get (with_links order (table_at h n)) k ≡ Some m → AllByRecursion (In (with_links order (table_at h n))) (links (table_at h m))
      earlier k m b f =
          let inside : at < length order = slice_get_within order at n e in
          let x = get-there order k (omega (arith, b, inside)) in
          let same : x.0 ≡ m = some_back (sym (links-get (table_at h n) order k x.0 x.1) ∙ f) in
          all-map (In order) (In (with_links order (table_at h n))) (λ y i. links-in_keep (table_at h n) order y i) (links (table_at h m)) (w.visited k m b (x.1 ∙ ap Some same))

      newest : (k m : ℕ) → k ≡ at → slice_get (with_links order (table_at h n)) k ≡ Some m → AllByRecursion (In (with_links order (table_at h n))) (links (table_at h m))
      newest k m b f =
          let same : n ≡ m = some_back (sym (links-get (table_at h n) order at n e) ∙ sym (ap (slice_get (with_links order (table_at h n))) b) ∙ f) in
          subst (λ x. AllByRecursion (In (with_links order (table_at h n))) (links (table_at h x))) same (links-in (table_at h n) order)

  -- all of them are
  ends : (t at : ℕ) (order : List ℕ) → Walks t at order → length order ≤ at → IsOrder h t order
  ends t at order w le = record {
    first = w.first;
    once = w.once;
    there = all-map S (λ n. n < length h.tables) there order w.tables;
    leads = w.leads;
    closed = all-places (λ n. AllByRecursion (Contains order) (links (table_at h n))) order
        (λ k n e. let b : k < length order = slice_get_within order k n e in all-map (In order) (Contains order) (in-contains order) (links (table_at h n)) (w.visited k n (omega (arith, b, le)) e));
  }

  full : (t at : ℕ) (order : List ℕ) → Walks t at order → zero + at ≡ length h.tables → length order ≤ at
  full t at order w e = let f = few order (length h.tables) w.once (all-map S (λ n. n < length h.tables) there order w.tables) in omega (arith, e, f)

  visited-ends : (n t at : ℕ) (order : List ℕ) → Walks t at order → n + at ≡ length h.tables → IsOrder h t (visit n h at order)
  visited-ends zero t at order w e = ends t at order w (full t at order w e)
  visited-ends (suc n) t at order w e = go (slice_get order at) refl (λ x f. visited-ends n t (at + 1) (with_links order (table_at h x)) (goes-on t at x order w f) (omega (arith, e)))
    where
      go : (o : Option ℕ) → slice_get order at ≡ o → ((x : ℕ) → slice_get order at ≡ Some x → IsOrder h t (visit n h (at + 1) (with_links order (table_at h x))))
          → IsOrder h t (go_on (λ x. visit n h (at + 1) (with_links order (table_at h x))) order o)
      go None f g = ends t at order w (past-end order at f)
      go (Some x) f g = g x f

  pub reached-order : (t : ℕ) → S t → IsOrder h t (reached h t)
  reached-order t b = visited-ends (length h.tables) t 0 (t ∷ []) (begins t b) (omega arith)

  -- visits past the end find nothing
  no-visit : (n at : ℕ) (order : List ℕ) → length order ≤ at → visit n h at order ≡ order
  no-visit zero at order le = refl
  no-visit (suc n) at order le = ap (go_on (λ x. visit n h (at + 1) (with_links order (table_at h x))) order) (none-past order at le)

  visit-more : (n k t at : ℕ) (order : List ℕ) → Walks t at order → n + at ≡ length h.tables → visit (n + k) h at order ≡ visit n h at order
  visit-more zero k t at order w e =
      let same : zero + k ≡ k = omega arith in
      ap (λ m. visit m h at order) same ∙ no-visit k at order (full t at order w e)
  visit-more (suc n) k t at order w e =
      let same : suc n + k ≡ suc (n + k) = omega arith in
      ap (λ m. visit m h at order) same ∙ go (slice_get order at) refl (λ x f. visit-more n k t (at + 1) (with_links order (table_at h x)) (goes-on t at x order w f) (omega (arith, e)))
    where
      go : (o : Option ℕ) → slice_get order at ≡ o → ((x : ℕ) → slice_get order at ≡ Some x → visit (n + k) h (at + 1) (with_links order (table_at h x)) ≡ visit n h (at + 1) (with_links order (table_at h x)))
          → go_on (λ x. visit (n + k) h (at + 1) (with_links order (table_at h x))) order o ≡ go_on (λ x. visit n h (at + 1) (with_links order (table_at h x))) order o
      go None f g = refl
      go (Some x) f g = g x f

  pub more-nothing : (t n : ℕ) → S t → length h.tables ≤ n → visit n h 0 (t ∷ []) ≡ reached h t
  more-nothing t n b le =
      let same : n ≡ length h.tables + (n - length h.tables) = omega (arith, le) in
      ap (λ m. visit m h 0 (t ∷ [])) same ∙ visit-more (length h.tables) (n - length h.tables) t 0 (t ∷ []) (begins t b) (omega arith)

-- THE TABLES OF A CLOSED SET lead to such only
module _ {X : Type 0} (names : X → List Ref) (h : Heap X) (S : Set) (closed : IsClosed names S h) where
  abbrev pub InSet : ℕ → Type 0
  InSet n = IsTrue (S (tab n))

  pub set-there : (n : ℕ) → InSet n → n < length h.tables
  set-there n e =
      let v = closed.there (tab n) e in
      let b = of-some_back TableObj (slice_get h.tables n) v.0 v.1 in
      slice_get_within h.tables n b.0 b.1

  value-tables : (v : Value) → AllIn S (value_names v) → AllByRecursion InSet (table_in v)
  value-tables (Table t) a = (a.0, tt)
  value-tables Nil a = tt
  value-tables (Truth b) a = tt
  value-tables (Number n) a = tt
  value-tables (Text t) a = tt
  value-tables (Closure c) a = tt
  value-tables (Builtin b) a = tt
  value-tables (Markup m) a = tt

  entries-tables : (es : Entries) → AllIn S (flat_map entry_names es) → AllByRecursion InSet (flat_map (λ e. table_in e.1) es)
  entries-tables [] a = tt
  entries-tables (e ∷ es) a =
      let s = all-split (λ r. IsTrue (S r)) (entry_names e) (flat_map entry_names es) a in
      let p = all-split (λ r. IsTrue (S r)) (value_names e.0) (value_names e.1) s.0 in
      all-join InSet (table_in e.1) (flat_map (λ f. table_in f.1) es) (value-tables e.1 p.1) (entries-tables es s.1)

  pub set-shut : (n : ℕ) → InSet n → AllByRecursion InSet (links (table_at h n))
  set-shut n e =
      let v = closed.there (tab n) e in
      let x = look-table h n v.0 v.1 in
      let i : AllIn S (table_names (table_at h n)) = subst (λ z. AllIn S (obj_names names z)) (sym x) v.2 in
      let p = all-split (λ r. IsTrue (S r)) (flat_map entry_names (table_at h n).entries) (value_names (table_at h n).meta) i in
      all-join InSet (table_in (table_at h n).meta) (flat_map (λ e. table_in e.1) (table_at h n).entries) (value-tables (table_at h n).meta p.1) (entries-tables (table_at h n).entries p.0)
