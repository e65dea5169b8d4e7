-- What is in an order, and what becomes of it by what a table leads to.
use Rattle.std.proofs.Common.{◌≡◌, ℕ, zero, suc, ◌<◌, eqb, Bool, true, false, List, [], ◌∷◌, length, Some, slice_get, refl, sym, subst, arith, inl, inr, ◌⊎◌, if◌then◌else◌}
use Rattle.std.specs.List.{AllByRecursion, Contains, IsDistinct, flat_map}
use Rattle.std.proofs.lemmas.Bool.{eqb-true}
use Rattle.std.proofs.lemmas.Bool.Decides.{nat_tests}
use Rattle.lua_heap.specs.LuaTableEntries.{Contents}
use Rattle.lua_heap.specs.Value.{Value, Nil, Truth, Number, Text, Table, Closure, Builtin, Markup}
use Rattle.lua_heap.specs.Table.{Entries}
use Rattle.lua_heap.proofs.Names.{all-split, all-join, all-map, all-any}
use Rattle.lua_walk.specs.Order.{with_table, with_value, with_entries, with_links}
use Rattle.lua_walk.specs.Laws.{table_in, links}

-- IN AN ORDER
abbrev pub In : List ℕ → ℕ → Type 0
In [] t = ⊥
In (x ∷ xs) t = (t ≡ x) ⊎ In xs t

pub in-contains : (xs : List ℕ) (t : ℕ) → In xs t → Contains xs t
in-contains [] t h = absurd h
in-contains (x ∷ xs) t (inl e) = (0, omega arith, sym e)
in-contains (x ∷ xs) t (inr h) = let c = in-contains xs t h in (suc c.0, (let b : c.0 < length xs = c.1 in omega (arith, b)), c.2)

pub in-at : (P : ℕ → Type 0) (xs : List ℕ) (t : ℕ) → AllByRecursion P xs → In xs t → P t
in-at P [] t a h = absurd h
in-at P (x ∷ xs) t a (inl e) = subst P (sym e) a.0
in-at P (x ∷ xs) t a (inr h) = in-at P xs t a.1 h

-- ONE TABLE MORE
with-in_ : (x t : ℕ) (xs : List ℕ) (b : Bool) → eqb t x ≡ b → In (with_table xs t) t → In (if b then x ∷ xs else x ∷ with_table xs t) t
with-in_ x t xs true e h = inl (eqb-true t x e)
with-in_ x t xs false e h = inr h

pub with-in : (xs : List ℕ) (t : ℕ) → In (with_table xs t) t
with-in [] t = inl refl
with-in (x ∷ xs) t = with-in_ x t xs (eqb t x) refl (with-in xs t)

with-keeps_ : (x t y : ℕ) (xs : List ℕ) (b : Bool) → In (x ∷ xs) y → (In xs y → In (with_table xs t) y) → In (if b then x ∷ xs else x ∷ with_table xs t) y
with-keeps_ x t y xs true h f = h
with-keeps_ x t y xs false (inl e) f = inl e
with-keeps_ x t y xs false (inr h) f = inr (f h)

with-keeps : (xs : List ℕ) (t y : ℕ) → In xs y → In (with_table xs t) y
with-keeps [] t y h = absurd h
with-keeps (x ∷ xs) t y h = with-keeps_ x t y xs (eqb t x) h (with-keeps xs t y)

with-get_ : (x t n y : ℕ) (xs : List ℕ) (b : Bool) → slice_get (x ∷ xs) n ≡ Some y → ((k : ℕ) → slice_get xs k ≡ Some y → slice_get (with_table xs t) k ≡ Some y)
    → slice_get (if b then x ∷ xs else x ∷ with_table xs t) n ≡ Some y
with-get_ x t n y xs true h f = h
with-get_ x t zero y xs false h f = h
with-get_ x t (suc n) y xs false h f = f n h

with-get : (xs : List ℕ) (t n y : ℕ) → slice_get xs n ≡ Some y → slice_get (with_table xs t) n ≡ Some y
with-get [] t n y h = cc
with-get (x ∷ xs) t n y h = with-get_ x t n y xs (eqb t x) h (λ k. with-get xs t k y)

with-all_ : (P : ℕ → Type 0) (x t : ℕ) (xs : List ℕ) (b : Bool) → AllByRecursion P (x ∷ xs) → AllByRecursion P (with_table xs t) → AllByRecursion P (if b then x ∷ xs else x ∷ with_table xs t)
with-all_ P x t xs true a h = a
with-all_ P x t xs false a h = (a.0, h)

with-all : (P : ℕ → Type 0) (xs : List ℕ) (t : ℕ) → P t → AllByRecursion P xs → AllByRecursion P (with_table xs t)
with-all P [] t p a = (p, tt)
with-all P (x ∷ xs) t p a = with-all_ P x t xs (eqb t x) a (with-all P xs t p a.1)

other-way : (a b : ℕ) → eqb a b ≡ false → eqb b a ≡ false
other-way a b e = grind (arith, nat_tests)

with-once_ : (x t : ℕ) (xs : List ℕ) (b : Bool) → eqb t x ≡ b → IsDistinct eqb (x ∷ xs) → IsDistinct eqb (with_table xs t) → IsDistinct eqb (if b then x ∷ xs else x ∷ with_table xs t)
unfolding IsDistinct
with-once_ x t xs true e d h = d
with-once_ x t xs false e d h = (with-all (λ y. eqb x y ≡ false) xs t (other-way t x e) d.0, h)

with-once : (xs : List ℕ) (t : ℕ) → IsDistinct eqb xs → IsDistinct eqb (with_table xs t)
unfolding IsDistinct
with-once [] t d = (tt, tt)
with-once (x ∷ xs) t d = with-once_ x t xs (eqb t x) refl d (with-once xs t d.1)

-- WHAT A TABLE LEADS TO: whatever each table more keeps is kept
module _ (C : ℕ → Type 0) (Q : List ℕ → Type 0) (more : (order : List ℕ) (t : ℕ) → C t → Q order → Q (with_table order t)) where
  value-keeps : (v : Value) (order : List ℕ) → AllByRecursion C (table_in v) → Q order → Q (with_value order v)
  value-keeps (Table t) order a q = more order t a.0 q
  value-keeps Nil order a q = q
  value-keeps (Truth b) order a q = q
  value-keeps (Number n) order a q = q
  value-keeps (Text t) order a q = q
  value-keeps (Closure c) order a q = q
  value-keeps (Builtin b) order a q = q
  value-keeps (Markup m) order a q = q

  entries-keep : (es : Entries) (order : List ℕ) → AllByRecursion C (flat_map (λ e. table_in e.1) es) → Q order → Q (with_entries order es)
  entries-keep [] order a q = q
  entries-keep (e ∷ es) order a q =
      let s = all-split C (table_in e.1) (flat_map (λ f. table_in f.1) es) a in
      entries-keep es (with_value order e.1) s.1 (value-keeps e.1 order s.0 q)

  pub links-keep : (t : Contents Value) (order : List ℕ) → AllByRecursion C (links t) → Q order → Q (with_links order t)
  links-keep t order a q =
      let s = all-split C (table_in t.meta) (flat_map (λ e. table_in e.1) t.entries) a in
      entries-keep t.entries (with_value order t.meta) s.1 (value-keeps t.meta order s.0 q)

-- where nothing is asked of the tables
abbrev anything : ℕ → Type 0
anything n = Unit {0}

all-anything : (xs : List ℕ) → AllByRecursion anything xs
all-anything xs = all-any anything (λ n. tt) xs

entries-in_keep : (es : Entries) (order : List ℕ) (y : ℕ) → In order y → In (with_entries order es) y
entries-in_keep es order y h = entries-keep anything (λ xs. In xs y) (λ xs t c i. with-keeps xs t y i) es order (all-anything _) h

pub links-get : (t : Contents Value) (order : List ℕ) (n y : ℕ) → slice_get order n ≡ Some y → slice_get (with_links order t) n ≡ Some y
links-get t order n y h = links-keep anything (λ xs. slice_get xs n ≡ Some y) (λ xs u c e. with-get xs u n y e) t order (all-anything _) h

pub links-in_keep : (t : Contents Value) (order : List ℕ) (y : ℕ) → In order y → In (with_links order t) y
links-in_keep t order y h = links-keep anything (λ xs. In xs y) (λ xs u c i. with-keeps xs u y i) t order (all-anything _) h

pub links-once : (t : Contents Value) (order : List ℕ) → IsDistinct eqb order → IsDistinct eqb (with_links order t)
links-once t order d = links-keep anything (IsDistinct eqb) (λ xs u c e. with-once xs u e) t order (all-anything _) d

pub links-all : (P : ℕ → Type 0) (t : Contents Value) (order : List ℕ) → AllByRecursion P (links t) → AllByRecursion P order → AllByRecursion P (with_links order t)
links-all P t order a h = links-keep P (AllByRecursion P) (λ xs u c e. with-all P xs u c e) t order a h

-- whatever a table leads to is in the order after it
value-in : (v : Value) (order : List ℕ) → AllByRecursion (In (with_value order v)) (table_in v)
value-in (Table t) order = (with-in order t, tt)
value-in Nil order = tt
value-in (Truth b) order = tt
value-in (Number n) order = tt
value-in (Text t) order = tt
value-in (Closure c) order = tt
value-in (Builtin b) order = tt
value-in (Markup m) order = tt

entries-in : (es : Entries) (order : List ℕ) → AllByRecursion (In (with_entries order es)) (flat_map (λ e. table_in e.1) es)
entries-in [] order = tt
entries-in (e ∷ es) order =
    all-join (In (with_entries (with_value order e.1) es)) (table_in e.1) (flat_map (λ f. table_in f.1) es)
    (all-map (In (with_value order e.1)) (In (with_entries (with_value order e.1) es)) (λ y i. entries-in_keep es (with_value order e.1) y i) (table_in e.1) (value-in e.1 order))
    (entries-in es (with_value order e.1))

pub links-in : (t : Contents Value) (order : List ℕ) → AllByRecursion (In (with_links order t)) (links t)
links-in t order =
    all-join (In (with_links order t)) (table_in t.meta) (flat_map (λ e. table_in e.1) t.entries)
    (all-map (In (with_value order t.meta)) (In (with_links order t)) (λ y i. entries-in_keep t.entries (with_value order t.meta) y i) (table_in t.meta) (value-in t.meta order))
    (entries-in t.entries (with_value order t.meta))
