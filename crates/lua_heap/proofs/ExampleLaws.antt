-- The small heaps compute; and what is reached in them is shown by a set, or step by step.
use Rattle.std.proofs.Common.{◌≡◌, zero, suc, true, false, [], ◌∷◌, Some, IsTrue, refl, subst, arith}
use Rattle.lua_table.specs.Entries.{Contents}
use Rattle.lua_heap.specs.Value.{Value, Table}
use Rattle.lua_heap.specs.Heap.{Ref, tab, cel, clo, mar, Obj, TableObj, look, table_at, is_shared}
use Rattle.lua_heap.specs.Related.{Map, none, more, nil, text, table, SameTable, SameObj, tables}
use Rattle.lua_heap.specs.Reach.{Set, AllIn, obj_names, with_shared, root, step, IsOwnSet, own_root}
use Rattle.lua_heap.specs.Examples.{Cells, names, a, through, forwards, backwards, crossed, SameCells, ValuesDiffer, KeysKeepTheirPlace, NextPassesCleared, BordersAreLeast, ItselfInItself, CellIsShared, ReachedButNotOwned, MarkupIsNamed, RingIsShifted, StandsCrossed, CellsAreContents}
use Rattle.lua_heap.proofs.Carried.{cells-carried, cells-image, cells-itself}
use Rattle.lua_heap.proofs.Places.{some_back}
use Rattle.lua_heap.proofs.Reached.{leads-reached, leads-owned}

pub values_differ : ValuesDiffer
values_differ = (refl, refl, refl, refl, refl, refl, refl)

pub keys_keep_their_place : KeysKeepTheirPlace
keys_keep_their_place = (refl, refl, refl, refl)

pub next_passes_cleared : NextPassesCleared
next_passes_cleared = (refl, refl, refl, refl)

pub borders_are_least : BordersAreLeast
borders_are_least = (refl, refl, refl, refl)

pub itself_in_itself : ItselfInItself
itself_in_itself = (refl, refl, refl, refl)

pub cell_is_shared : CellIsShared
cell_is_shared = (refl, refl, refl, refl, refl)

pub markup_is_named : MarkupIsNamed
markup_is_named = (refl, refl, refl, refl)

pub ring_is_shifted : RingIsShifted
ring_is_shifted = (refl, refl, refl, refl)

-- the set of table 0 alone
abbrev first : Set
first (tab zero) = true
first (tab (suc n)) = false
first (cel n) = false
first (clo n) = false
first (mar n) = false

first-own : IsOwnSet names first through
first-own = record { there = at }
  where
    at : (r : Ref) → IsTrue (first r) → (x : Obj Cells) × (look through r ≡ Some x) × (is_shared x ≡ false) × AllIn (with_shared first through) (obj_names names x)
    at (tab zero) e = (TableObj (table_at through 0), refl, refl, (refl, tt))
    at (tab (suc n)) e = cc
    at (cel n) e = cc
    at (clo n) e = cc
    at (mar n) e = cc

pub reached_but_not_owned : ReachedButNotOwned
reached_but_not_owned = (
  leads-reached names through (tab 0 ∷ []) (tab 2) (step (tab 1) (tab 2) (TableObj (table_at through 1)) (step (tab 0) (tab 1) (TableObj (table_at through 0)) (root (tab 0) (0, omega arith, refl)) refl (0, omega arith, refl)) refl (0, omega arith, refl)),
  leads-owned names through (tab 0 ∷ []) (tab 0) (own_root (tab 0) (0, omega arith, refl) refl),
  (λ o. let h : IsTrue (first (tab 2)) = o first first-own (refl, tt) in cc),
  (λ o. let h : IsTrue (first (tab 1)) = o first first-own (refl, tt) in cc),
)

crossed-twice : (q r : Ref) → crossed q ≡ Some r → crossed r ≡ Some q
crossed-twice (tab zero) r e = subst (λ x. crossed x ≡ Some (tab 0)) (some_back e) refl
crossed-twice (tab (suc zero)) r e = subst (λ x. crossed x ≡ Some (tab 1)) (some_back e) refl
crossed-twice (tab (suc (suc n))) r e = cc
crossed-twice (cel n) r e = cc
crossed-twice (clo n) r e = cc
crossed-twice (mar n) r e = cc

pub stands_crossed : StandsCrossed
stands_crossed = record { forth = crossed-twice; back = λ q r e. crossed-twice r q e; holds = at }
  where
    names_crossed : Map
    names_crossed = record { to = crossed; from = crossed }

    holds_at : (q r : Ref) → (x y : Contents Value) → look forwards q ≡ Some (TableObj x) → look backwards r ≡ Some (TableObj y) → SameTable names_crossed x y
        → (p : Ref) → r ≡ p → (c : Obj Cells) × (d : Obj Cells) × (look forwards q ≡ Some c) × (look backwards p ≡ Some d) × SameObj SameCells names_crossed c d
    holds_at q r x y e f g p h = (TableObj x, TableObj y, e, subst (λ z. look backwards z ≡ Some (TableObj y)) h f, tables x y g)

    at : (q r : Ref) → crossed q ≡ Some r → (c : Obj Cells) × (d : Obj Cells) × (look forwards q ≡ Some c) × (look backwards r ≡ Some d) × SameObj SameCells names_crossed c d
    at (tab zero) r e =
        holds_at (tab 0) (tab 1) (table_at forwards 0) (table_at backwards 1) refl refl
        (record { entries = more (a, Table 1) (a, Table 0) [] [] (record { key = text (97 ∷ []); value = table 1 0 refl }) none; meta = nil; frozen = refl }) r (some_back e)
    at (tab (suc zero)) r e =
        holds_at (tab 1) (tab 0) (table_at forwards 1) (table_at backwards 0) refl refl (record { entries = none; meta = nil; frozen = refl }) r (some_back e)
    at (tab (suc (suc n))) r e = cc
    at (cel n) r e = cc
    at (clo n) r e = cc
    at (mar n) r e = cc

pub cells_are_contents : CellsAreContents
cells_are_contents = (
  (λ m n S f xs ys e i. cells-carried m n S f xs ys e i),
  (λ m S f xs ys e. cells-image m S f xs ys e),
  (λ m S f xs i. cells-itself m S f xs i),
)
