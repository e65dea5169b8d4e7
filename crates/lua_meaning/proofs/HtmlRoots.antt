-- The root above an object is found with as much room as there are objects (`specs/HtmlNodes.antt`).
use Rattle.std.proofs.Common.{◌≡◌, ◌<◌, ◌≤◌, ◌||◌, ℕ, zero, suc, ◌+◌, eqb, Bool, true, false, List, [], ◌∷◌, length, Option, Some, None, refl, sym, ◌∙◌, ap, subst, arith, slice_index_or}
use Rattle.std.specs.List.{IsDistinct, AllByRecursion, list_any}
use Rattle.std.proofs.lemmas.Bool.{eqb-true, ne_eqb}
use Rattle.std.proofs.lemmas.Map.Steps.{length-le_from_distinct_below}
use Rattle.lua_walk.specs.LuaHeapHeap.{MarkupNode, no_markup}
use Rattle.mw_html.proofs.LuaHeapPlaces.{some_back, clash}
use Rattle.lua_meaning.specs.HtmlNodes.{root_above, root_by, RootsAreFound}

-- THE ROOT. An object is so far below a root.
abbrev parent_at : List MarkupNode → ℕ → Option ℕ
parent_at nodes at = (slice_index_or nodes at no_markup).parent

distinct-none : IsDistinct eqb []
unfolding IsDistinct
distinct-none = tt

-- numbers below n, each once, are n at most
below-one : (q x n : ℕ) (b c : Bool) → eqb q x ≡ b → (b || c) ≡ true → x < n → (c ≡ true → q < n) → q < n
below-one q x n true c e h lt f = subst (λ k. k < n) (sym (eqb-true q x e)) lt
below-one q x n false c e h lt f = f h

below-any : (xs : List ℕ) (n : ℕ) → AllByRecursion (λ v. v < n) xs → (q : ℕ) → list_any (eqb q) xs ≡ true → q < n
below-any [] n a q h = cc
below-any (x ∷ xs) n a q h = below-one q x n (eqb q x) (list_any (eqb q) xs) refl h a.0 (below-any xs n a.1 q)

few : (xs : List ℕ) (n : ℕ) → IsDistinct eqb xs → AllByRecursion (λ v. v < n) xs → length xs ≤ n
few xs n d a = length-le_from_distinct_below xs n d (below-any xs n a)

module _ (nodes : List MarkupNode) (root : ℕ) where
  abbrev IsBelow : ℕ → ℕ → Type 0
  IsBelow zero at = (parent_at nodes at ≡ None) × (at ≡ root)
  IsBelow (suc k) at = (p : ℕ) × (parent_at nodes at ≡ Some p) × IsBelow k p

  one-depth : (k l at : ℕ) → IsBelow k at → IsBelow l at → k ≡ l
  one-depth zero zero at a b = refl
  one-depth zero (suc l) at a b = clash b.1 a.0
  one-depth (suc k) zero at a b = clash a.1 b.0
  one-depth (suc k) (suc l) at a b = ap suc (one-depth k l b.0 (subst (IsBelow k) (some_back (sym a.1 ∙ b.1)) a.2) b.2)

  -- a root that a walk found
  found-above : (n at : ℕ) → ((p : ℕ) → root_by nodes n p ≡ Some root → (k : ℕ) × IsBelow k p) → (o : Option ℕ) → parent_at nodes at ≡ o
      → root_above (root_by nodes n) at o ≡ Some root → (k : ℕ) × IsBelow k at
  found-above n at f None is e = (0, (is, some_back e))
  found-above n at f (Some p) is e = let c = f p e in (suc c.0, (p, is, c.1))

  found-below : (n at : ℕ) → root_by nodes n at ≡ Some root → (k : ℕ) × IsBelow k at
  unfolding root_by
  found-below zero at e = cc
  found-below (suc n) at e = found-above n at (λ p f. found-below n p f) (parent_at nodes at) refl e

  -- objects that are farther below it
  abbrev Farther : ℕ → List ℕ → Type 0
  Farther k vs = AllByRecursion (λ (v : ℕ). (d : ℕ) × (k < d) × IsBelow d v) vs

  farther-still : (k : ℕ) (vs : List ℕ) → Farther (suc k) vs → Farther k vs
  farther-still k [] a = tt
  farther-still k (v ∷ vs) a = let b = a.0 in ((b.0, omega (arith, b.1), b.2), farther-still k vs a.1)

  farther-apart : (k at : ℕ) → IsBelow k at → (vs : List ℕ) → Farther k vs → AllByRecursion (λ y. eqb at y ≡ false) vs
  farther-apart k at is [] a = tt
  farther-apart k at is (v ∷ vs) a =
      let b = a.0 in
      (ne_eqb at v (λ e. let same = one-depth k b.0 v (subst (IsBelow k) e is) b.2 in omega (arith, same, b.1)), farther-apart k at is vs a.1)

  parent-there : (ns : List MarkupNode) (i p : ℕ) → parent_at ns i ≡ Some p → i < length ns
  parent-there [] i p f = cc
  parent-there (n ∷ ns) zero p f = omega arith
  parent-there (n ∷ ns) (suc i) p f = let l = parent-there ns i p f in omega (arith, l)

  -- so a walk over as many objects as there are comes to it
  comes-to : (k at : ℕ) → IsBelow k at → (vs : List ℕ) → Farther k vs → IsDistinct eqb vs → AllByRecursion (λ v. v < length nodes) vs
      → (room : ℕ) → length vs + room ≡ suc (length nodes) → root_by nodes room at ≡ Some root
  unfolding root_by IsDistinct
  comes-to k at is vs far d low zero e = let le = few vs (length nodes) d low in absurd (omega (arith, le, e))
  comes-to zero at is vs far d low (suc room) e = ap (root_above (root_by nodes room) at) is.0 ∙ ap Some is.1
  comes-to (suc k) at is vs far d low (suc room) e =
      ap (root_above (root_by nodes room) at) is.1
      ∙ comes-to k is.0 is.2 (at ∷ vs) ((suc k, omega arith, is), farther-still k vs far) (farther-apart (suc k) at is vs far, d) (parent-there nodes at is.0 is.1, low) room (omega (arith, e))

-- whatever room it was found with
pub found-of : RootsAreFound
found-of nodes n at root e = let b = found-below nodes root n at e in comes-to nodes root b.0 at b.1 [] tt distinct-none tt (suc (length nodes)) (omega arith)
