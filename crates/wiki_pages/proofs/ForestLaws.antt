-- The trees of nodes in preorder, and how a forest is split.
use Rattle.std.proofs.Common.{◌≡◌, ℕ, zero, suc, ◌+◌, ◌-◌, ◌<◌, ◌≤◌, min, max, List, [], ◌∷◌, take, drop, length, Some, None, ◌⊎◌, inl, inr, sym, ap, ◌∙◌, arith}
use Rattle.std.proofs.lemmas.List.{length-take, take_all, take-take, drop-drop, drop-take}
use Rattle.std.proofs.lemmas.Bool.{cases_lt}
use Rattle.std.proofs.Math.ListN.{drop_of_length-le}
use Rattle.std.specs.List.{slice_get}
use Rattle.wiki_markup.specs.Nodes.{Node}
use Rattle.wiki_markup.specs.Trees.{done}
use Rattle.expand_texts.specs.ExpandMeaningPlaces.{planted, reach, trees_at}
use Rattle.expand_texts.proofs.ExpandMeaningTreeLaws.{trees_first, no_trees}
use Rattle.wiki_pages.specs.Stretches.{between}
use Rattle.wiki_pages.specs.Forests.{nodes_in, trees_in}
use Rattle.wiki_pages.specs.declared.forest.Forest.{Forest}
use Rattle.wiki_pages.specs.declared.forest.Nodes.{Nodes}

drop_here : (xs : List Node) (at : ℕ) (x : Node) → slice_get xs at ≡ Some x → drop at xs ≡ x ∷ drop (suc at) xs
drop_here [] zero x e = absurd cc
drop_here [] (suc at) x e = absurd cc
drop_here (y ∷ ys) zero x e = cc
drop_here (y ∷ ys) (suc at) x e = drop_here ys at x e

next_is : (at : ℕ) → suc at ≡ at + 1
next_is at = omega arith

some_left : (at end : ℕ) (x : Node) (ys : List Node) → at < end → take (end - at) (x ∷ ys) ≡ x ∷ take (end - (at + 1)) ys
some_left at end x ys h =
    let e : end - at ≡ suc (end - (at + 1)) = omega arith in
    ap (λ n. take n (x ∷ ys)) e

-- the nodes from a place on
pub between_first : (nodes : List Node) (at end : ℕ) (x : Node) → at < end → slice_get nodes at ≡ Some x → between at end nodes ≡ x ∷ between (at + 1) end nodes
between_first nodes at end x h e =
    ap (take (end - at)) (drop_here nodes at x e ∙ ap (λ n. x ∷ drop n nodes) (next_is at)) ∙ some_left at end x (drop (at + 1) nodes) h

pub between_over : (nodes : List Node) (at end : ℕ) → end ≤ at → between at end nodes ≡ []
between_over nodes at end h =
    let e : end - at ≡ 0 = omega arith in
    ap (λ n. take n (drop at nodes)) e

-- the place where a node's inside ends
abbrev pub cut_of : ℕ → ℕ → Node → ℕ
cut_of at end x = min (max x.end (at + 1)) end

-- a reach of k in m nodes, cut
within : (k m : ℕ) (ys : List Node) → k ≤ m → take k (take m ys) ≡ take k ys
within k m ys h = take-take k m ys h

beyond : (k m : ℕ) (ys : List Node) → m ≤ k → take k (take m ys) ≡ take m ys
beyond k m ys h = take_all k (take m ys) (omega (arith, length-take m ys))

left_within : (k m : ℕ) (ys : List Node) → k ≤ m → drop k (take m ys) ≡ take (m - k) (drop k ys)
left_within k m ys h =
    let e : m ≡ k + (m - k) = omega arith in
    ap (λ n. drop k (take n ys)) e ∙ drop-take k (m - k) ys

left_beyond : (k m : ℕ) (ys : List Node) → m ≤ k → drop k (take m ys) ≡ []
left_beyond k m ys h = drop_of_length-le (take m ys) (omega (arith, length-take m ys))

inside_by : (nodes : List Node) (at end : ℕ) (x : Node) → at < end → ((end - (at + 1)) < reach at x) ⊎ (reach at x ≤ end - (at + 1)) → take (reach at x) (between (at + 1) end nodes) ≡ between (at + 1) (cut_of at end x) nodes
inside_by nodes at end x h (inl l) =
    let e : end - (at + 1) ≡ cut_of at end x - (at + 1) = grind arith in
    beyond (reach at x) (end - (at + 1)) (drop (at + 1) nodes) (omega arith) ∙ ap (λ n. take n (drop (at + 1) nodes)) e
inside_by nodes at end x h (inr l) =
    let e : reach at x ≡ cut_of at end x - (at + 1) = grind arith in
    within (reach at x) (end - (at + 1)) (drop (at + 1) nodes) l ∙ ap (λ n. take n (drop (at + 1) nodes)) e

behind_by : (nodes : List Node) (at end : ℕ) (x : Node) → at < end → ((end - (at + 1)) < reach at x) ⊎ (reach at x ≤ end - (at + 1)) → trees_at (at + 1 + reach at x) (drop (reach at x) (between (at + 1) end nodes)) ≡ trees_at (cut_of at end x) (between (cut_of at end x) end nodes)
behind_by nodes at end x h (inl l) =
    let e : end ≤ cut_of at end x = grind arith in
    ap (trees_at (at + 1 + reach at x)) (left_beyond (reach at x) (end - (at + 1)) (drop (at + 1) nodes) (omega arith))
    ∙ no_trees (at + 1 + reach at x)
    ∙ sym (ap (trees_at (cut_of at end x)) (between_over nodes (cut_of at end x) end e) ∙ no_trees (cut_of at end x))
behind_by nodes at end x h (inr l) =
    let c : at + 1 + reach at x ≡ cut_of at end x = grind arith in
    let e : end - (at + 1) - reach at x ≡ end - (at + 1 + reach at x) = omega arith in
    ap (trees_at (at + 1 + reach at x)) (left_within (reach at x) (end - (at + 1)) (drop (at + 1) nodes) l ∙ ap (take (end - (at + 1) - reach at x)) (drop-drop (reach at x) (at + 1) nodes) ∙ ap (λ n. take n (drop (at + 1 + reach at x) nodes)) e)
    ∙ ap (λ p. trees_at p (between p end nodes)) c

pub split_is : (nodes : List Node) (at end : ℕ) (x : Node) → at < end → slice_get nodes at ≡ Some x → trees_at at (between at end nodes) ≡ planted x.kind (trees_at (at + 1) (between (at + 1) (cut_of at end x) nodes)) (trees_at (cut_of at end x) (between (cut_of at end x) end nodes))
split_is nodes at end x h e =
    ap (trees_at at) (between_first nodes at end x h e)
    ∙ trees_first at x (between (at + 1) end nodes)
    ∙ ap (λ ys. planted x.kind (trees_at (at + 1) ys) (trees_at (at + 1 + reach at x) (drop (reach at x) (between (at + 1) end nodes)))) (inside_by nodes at end x h (cases_lt (end - (at + 1)) (reach at x)))
    ∙ ap (λ t. planted x.kind (trees_at (at + 1) (between (at + 1) (cut_of at end x) nodes)) t) (behind_by nodes at end x h (cases_lt (end - (at + 1)) (reach at x)))

pub all_between : (nodes : List Node) (n : ℕ) → n ≡ length nodes → trees_at 0 (between 0 n nodes) ≡ trees_at 0 nodes
all_between nodes n e =
    let z : n - 0 ≡ length nodes = omega (arith, e) in
    ap (λ k. trees_at 0 (take k nodes)) z ∙ ap (trees_at 0) (take_all (length nodes) nodes (omega arith))

-- a forest without a node at its place
pub over_is : (f : Forest) → f.end ≤ f.at → trees_in f ≡ done
unfolding trees_in
over_is f h = ap (trees_at f.at) (between_over (nodes_in f.nodes) f.at f.end h) ∙ no_trees f.at

none_left : (nodes : List Node) (at : ℕ) → None ≡ slice_get nodes at → length nodes ≤ at
none_left [] at e = omega arith
none_left (x ∷ xs) zero e = absurd cc
none_left (x ∷ xs) (suc at) e = omega (arith, none_left xs at e)

-- a forest without a node at its place, in whichever way its nodes are held
pub past_is : (f : Forest) (nodes : Nodes) → f.nodes ≡ nodes → None ≡ slice_get (nodes_in nodes) f.at → trees_in f ≡ done
unfolding trees_in
past_is f nodes is e =
    ap (λ ns. trees_at f.at (take (f.end - f.at) ns)) (drop_of_length-le (nodes_in f.nodes) (none_left (nodes_in f.nodes) f.at (e ∙ ap (λ ns. slice_get (nodes_in ns) f.at) (sym is))))
    ∙ ap (trees_at f.at) (take_all (f.end - f.at) [] (omega arith))
    ∙ no_trees f.at

-- a stretch of the same nodes
pub stretch_is : (f g : Forest) (at end : ℕ) → nodes_in g.nodes ≡ nodes_in f.nodes → g.at ≡ at → g.end ≡ end → trees_at at (between at end (nodes_in f.nodes)) ≡ trees_in g
unfolding trees_in
stretch_is f g at end n a e = ap (λ ns. trees_at at (between at end ns)) (sym n) ∙ ap (λ p. trees_at p (between p end (nodes_in g.nodes))) (sym a) ∙ ap (λ p. trees_at g.at (between g.at p (nodes_in g.nodes))) (sym e)

pub first_is : (f inside rest : Forest) (x : Node) (cut : ℕ) → f.at < f.end → slice_get (nodes_in f.nodes) f.at ≡ Some x → cut ≡ cut_of f.at f.end x
    → nodes_in inside.nodes ≡ nodes_in f.nodes → inside.at ≡ f.at + 1 → inside.end ≡ cut
    → nodes_in rest.nodes ≡ nodes_in f.nodes → rest.at ≡ cut → rest.end ≡ f.end → trees_in f ≡ planted x.kind (trees_in inside) (trees_in rest)
unfolding trees_in
first_is f inside rest x cut h e c ni ai ei nr ar er =
    split_is (nodes_in f.nodes) f.at f.end x h e
    ∙ ap (λ t. planted x.kind t (trees_at (cut_of f.at f.end x) (between (cut_of f.at f.end x) f.end (nodes_in f.nodes)))) (stretch_is f inside (f.at + 1) (cut_of f.at f.end x) ni ai (ei ∙ c))
    ∙ ap (λ t. planted x.kind (trees_in inside) t) (stretch_is f rest (cut_of f.at f.end x) f.end nr (ar ∙ c) er)
