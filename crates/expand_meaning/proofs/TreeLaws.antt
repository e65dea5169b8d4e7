-- The first of the trees that nodes in preorder stand for.
use Rattle.std.proofs.Common.{◌≡◌, ℕ, zero, suc, ◌+◌, ◌≤◌, List, [], ◌∷◌, take, drop, length, refl, ap, ◌∙◌, arith}
use Rattle.std.proofs.lemmas.List.{length-take, length-drop}
use Rattle.wiki_markup.specs.Nodes.{Node}
use Rattle.wiki_markup.specs.Trees.{done}
use Rattle.expand_meaning.specs.Places.{planted, reach, trees_by, trees_at}

pub no_trees : (at : ℕ) → trees_at at [] ≡ done
unfolding trees_at trees_by
no_trees at = refl

short_take : (k : ℕ) (xs : List Node) → length (take k xs) ≤ length xs
short_take k xs = omega (arith, length-take k xs)

short_drop : (k : ℕ) (xs : List Node) → length (drop k xs) ≤ length xs
short_drop k xs = omega (arith, length-drop k xs)

-- more than enough is enough
pub trees_enough : (n m at : ℕ) (xs : List Node) → length xs ≤ n → length xs ≤ m → trees_by n at xs ≡ trees_by m at xs
unfolding trees_by
trees_enough zero zero at xs ln lm = refl
trees_enough zero (suc m) at [] ln lm = refl
trees_enough zero (suc m) at (x ∷ xs) ln lm = absurd (omega arith)
trees_enough (suc n) zero at [] ln lm = refl
trees_enough (suc n) zero at (x ∷ xs) ln lm = absurd (omega arith)
trees_enough (suc n) (suc m) at [] ln lm = refl
trees_enough (suc n) (suc m) at (x ∷ xs) ln lm =
    ap (λ t. planted x.kind t (trees_by n (at + 1 + reach at x) (drop (reach at x) xs))) (trees_enough n m (at + 1) (take (reach at x) xs) (omega (arith, short_take (reach at x) xs)) (omega (arith, short_take (reach at x) xs)))
    ∙ ap (λ t. planted x.kind (trees_by m (at + 1) (take (reach at x) xs)) t) (trees_enough n m (at + 1 + reach at x) (drop (reach at x) xs) (omega (arith, short_drop (reach at x) xs)) (omega (arith, short_drop (reach at x) xs)))

-- the first node, what stands in it, and what stands behind it
pub trees_first : (at : ℕ) (x : Node) (xs : List Node) → trees_at at (x ∷ xs) ≡ planted x.kind (trees_at (at + 1) (take (reach at x) xs)) (trees_at (at + 1 + reach at x) (drop (reach at x) xs))
unfolding trees_at trees_by
trees_first at x xs =
    ap (λ t. planted x.kind t (trees_by (length xs) (at + 1 + reach at x) (drop (reach at x) xs))) (trees_enough (length xs) (length (take (reach at x) xs)) (at + 1) (take (reach at x) xs) (short_take (reach at x) xs) (omega arith))
    ∙ ap (λ t. planted x.kind (trees_at (at + 1) (take (reach at x) xs)) t) (trees_enough (length xs) (length (drop (reach at x) xs)) (at + 1 + reach at x) (drop (reach at x) xs) (short_drop (reach at x) xs) (omega arith))
