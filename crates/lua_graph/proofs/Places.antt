-- Tables by their places in the order of first reach; entries of a table one after another.
use Rattle.std.proofs.Common.{◌≡◌, ℕ, zero, suc, ◌+◌, Bool, true, false, List, [], ◌∷◌, ◌++◌, drop, refl, sym, ap, ◌∙◌, Option, Some, None, slice_get, eqb, subst, arith, ◌<◌, ◌≤◌, length, IfSome, cond}
use Rattle.std.specs.Prelude.{if◌then◌else◌}
use Rattle.std.specs.Prelude.{nat_lt, position}
use Rattle.std.specs.List.{AllByRecursion, list_any, position_or_len}
use Rattle.std.proofs.lemmas.Bool.Decides.{nat_tests}
use Rattle.std.proofs.lemmas.List.{length-map}
use Rattle.std.specs.Option.{option_map}
use Rattle.std.proofs.lemmas.Option.{none-some}
use Rattle.lua_store.proofs.LuaHeapPlaces.{get-map}
use Rattle.lua_store.specs.declared.ids.TableId.{TableId}
use Rattle.lua_store.specs.contracts.ids.TableIdPartialEq.TheImpl.{ghosts}
use Rattle.lua_walk.specs.LuaHeapHeap.{Heap, table_at}
use Rattle.lua_walk.specs.Order.{place_of, with_table, with_links, visit, go_on}
use Rattle.lua_graph.specs.Taken.{places}

place_step : (x t : TableId) (xs : List TableId) (b : Bool) → eqb t.at x.at ≡ b → position_or_len (ghosts.eq t) xs ≡ place_of (places xs) t.at
    → position_or_len (ghosts.eq t) (x ∷ xs) ≡ place_of (places (x ∷ xs)) t.at
place_step x t xs true e h = rw e refl
place_step x t xs false e h = rw e (omega (arith, h))

pub insert_place : (ts : List TableId) (t : TableId) → position_or_len (ghosts.eq t) ts ≡ place_of (places ts) t.at
insert_place [] t = refl
insert_place (x ∷ xs) t = place_step x t xs (eqb t.at x.at) refl (insert_place xs t)

push_out : (x t : TableId) (xs : List TableId) (b : Bool) → places (if b then x ∷ xs else x ∷ (xs ++ t ∷ [])) ≡ x.at ∷ places (if b then xs else xs ++ t ∷ [])
push_out x t xs true = refl
push_out x t xs false = refl

order_step : (x t : TableId) (xs : List TableId) (b : Bool) → eqb t.at x.at ≡ b → places (if list_any (ghosts.eq t) xs then xs else xs ++ t ∷ []) ≡ with_table (places xs) t.at
    → places (if list_any (ghosts.eq t) (x ∷ xs) then x ∷ xs else x ∷ (xs ++ t ∷ [])) ≡ with_table (places (x ∷ xs)) t.at
order_step x t xs true e h = rw e refl
order_step x t xs false e h = rw e (push_out x t xs (list_any (ghosts.eq t) xs) ∙ ap (λ l. x.at ∷ l) h)

pub insert_order : (ts : List TableId) (t : TableId) → places (if list_any (ghosts.eq t) ts then ts else ts ++ t ∷ []) ≡ with_table (places ts) t.at
insert_order [] t = refl
insert_order (x ∷ xs) t = order_step x t xs (eqb t.at x.at) refl (insert_order xs t)

abbrev or_this : {A : Type 0} → Option A → A → A
or_this (Some x) y = x
or_this None y = y

pub drop_at : {A : Type 0} (xs : List A) (n : ℕ) (x : A) → slice_get xs n ≡ Some x → drop n xs ≡ x ∷ drop (n + 1) xs
drop_at [] n x h = absurd (none-some x h)
drop_at {A} (y ∷ xs) zero x h = ap (λ (o : Option A). or_this o y ∷ xs) h
drop_at (y ∷ xs) (suc n) x h = let e : suc n + 1 ≡ suc (n + 1) = omega arith in drop_at xs n x h ∙ ap (λ k. x ∷ drop k (y ∷ xs)) (sym e)

pub drop_past : {A : Type 0} (xs : List A) (n : ℕ) → slice_get xs n ≡ None → drop n xs ≡ []
drop_past [] zero h = refl
drop_past [] (suc n) h = refl
drop_past (y ∷ xs) zero h = absurd (none-some y (sym h))
drop_past (y ∷ xs) (suc n) h = drop_past xs n h

pub there : {A : Type 0} (xs : List A) (n : ℕ) (x : A) → slice_get xs n ≡ Some x → n < length xs
there [] n x h = absurd (none-some x h)
there (y ∷ xs) zero x h = omega arith
there (y ∷ xs) (suc n) x h = let e = there xs n x h in omega (arith, e)

pub order_of : (P : TableId → Type 0) (ts : List TableId) (t : TableId) (b : Bool) → AllByRecursion P ts → P t → AllByRecursion P (if b then ts else ts ++ t ∷ [])
order_of P ts t true a h = a
order_of P [] t false a h = (h, tt)
order_of P (x ∷ xs) t false a h = (a.0, order_of P xs t false a.1 h)

nth_of : (P : TableId → Type 0) (ts : List TableId) (n : ℕ) (t : TableId) → slice_get ts n ≡ Some t → AllByRecursion P ts → P t
nth_of P [] n t e a = absurd (none-some t e)
nth_of P (x ∷ xs) zero t e a = subst P (ap (λ (o : Option TableId). or_this o x) e) a.0
nth_of P (x ∷ xs) (suc n) t e a = nth_of P xs n t e a.1

pub nth_some : (P : TableId → Type 0) (ts : List TableId) (n : ℕ) (o : Option TableId) → o ≡ slice_get ts n → AllByRecursion P ts → IfSome o P
nth_some P ts n None e a = tt
nth_some P ts n (Some t) e a = nth_of P ts n t (sym e) a

pub nth_place : (ts : List TableId) (n : ℕ) (o : Option TableId) → o ≡ slice_get ts n → option_map (λ (t : TableId). t.at) o ≡ slice_get (places ts) n
nth_place ts n o e = ap (option_map (λ (t : TableId). t.at)) e ∙ sym (get-map (λ (t : TableId). t.at) ts n)

-- a walk over the tables of the order, one visit on
pub visit_step : {X : Type 0} (h : Heap X) (n m at t : ℕ) (order next : List ℕ) → n ≡ suc m → slice_get order at ≡ Some t → next ≡ with_links order (table_at h t)
    → visit m h (at + 1) next ≡ visit n h at order
visit_step h n m at t order next e there is =
    ap (visit m h (at + 1)) is ∙ ap (λ o. go_on (λ t. visit m h (at + 1) (with_links order (table_at h t))) order o) (sym there) ∙ ap (λ k. visit k h at order) (sym e)

-- the place that a look-up finds, or how many there are
place-le_ : (t : ℕ) (xs : List ℕ) (b : Bool) → place_of xs t ≤ length xs → (if b then 0 else suc (place_of xs t)) ≤ suc (length xs)
place-le_ t xs true h = omega arith
place-le_ t xs false h = omega (arith, h)

place-le : (xs : List ℕ) (t : ℕ) → place_of xs t ≤ length xs
place-le [] t = omega arith
place-le (x ∷ xs) t = place-le_ t xs (eqb t x) (place-le xs t)

pub found_place : (ts : List TableId) (t : TableId) (n : ℕ) → Some n ≡ position (ghosts.eq t) ts → n ≡ place_of (places ts) t.at
found_place ts t n e = go (nat_lt (position_or_len (ghosts.eq t) ts) (length ts)) e ∙ insert_place ts t
  where
    go : (b : Bool) → Some n ≡ cond b (Some (position_or_len (ghosts.eq t) ts)) None → n ≡ position_or_len (ghosts.eq t) ts
    go true h = cc
    go false h = absurd (none-some n (sym h))

pub absent_place : (ts : List TableId) (t : TableId) → None ≡ position (ghosts.eq t) ts → length ts ≡ place_of (places ts) t.at
absent_place ts t e = go (nat_lt (position_or_len (ghosts.eq t) ts) (length ts)) refl e
  where
    go : (b : Bool) → nat_lt (position_or_len (ghosts.eq t) ts) (length ts) ≡ b → None ≡ cond b (Some (position_or_len (ghosts.eq t) ts)) None → length ts ≡ place_of (places ts) t.at
    go true f h = absurd (none-some (position_or_len (ghosts.eq t) ts) h)
    go false f h =
        let below = place-le (places ts) t.at in
        let same = insert_place ts t in
        let size = length-map ts (λ (x : TableId). x.at) in
        let above : length ts ≤ position_or_len (ghosts.eq t) ts = grind (arith, nat_tests, f) in
        omega (arith, below, same, size, above)
