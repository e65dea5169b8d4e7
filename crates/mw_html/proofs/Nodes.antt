-- A node, and what stands in it.
use Rattle.std.proofs.Common.{◌≡◌, ℕ, zero, suc, ◌-◌, ◌<◌, List, [], ◌∷◌, length, map, refl, sym, ap, subst, arith, slice_index_or}
use Rattle.std.specs.List.{AllByRecursion}
use Rattle.mw_html.specs.declared.sheet.Sheet.{Sheet}
use Rattle.lua_heap.specs.Heap.{MarkupChild, MarkupNode, no_markup}
use Rattle.mw_html.specs.Render.{Piece, given, begins, and_then, opening, inside, node, child, children}
use Rattle.mw_html.specs.Sheet.{Leads}
use Rattle.mw_html.proofs.Pieces.{leads_on}

pub node_is : (nodes : List MarkupNode) (room at : ℕ) → node nodes (suc room) at
    ≡ and_then begins (and_then (given (opening (slice_index_or nodes at no_markup))) (inside (node nodes room) (slice_index_or nodes at no_markup)))
unfolding node
node_is nodes room at = refl

pub node_on : (nodes : List MarkupNode) (room at : ℕ) (n : MarkupNode) (s t u v : Sheet)
    → (room ≡ 0 → ⊥) → slice_index_or nodes at no_markup ≡ n → Leads s t begins → Leads t u (given (opening n))
    → Leads u v (inside (node nodes (room - 1)) n) → Leads s v (node nodes room at)
node_on nodes zero at n s t u v some is f g h = absurd (some refl)
node_on nodes (suc room) at n s t u v some is f g h =
    let k : Leads u v (inside (node nodes room) n) = subst (λ r. Leads u v (inside (node nodes r) n)) (omega arith) h in
    subst (Leads s v) (sym (node_is nodes room at)) (subst (λ m. Leads s v (and_then begins (and_then (given (opening m)) (inside (node nodes room) m)))) (sym is)
    (leads_on s t v _ _ f (leads_on t u v _ _ g k)))

pub children_on : (gives : ℕ → Piece) (c : MarkupChild) (cs list : List MarkupChild) (s t u w : Sheet)
    → ((x : Sheet) → Leads t x (children gives (c ∷ cs)) → Leads s x (children gives list)) → Leads t u (child gives c)
    → Leads u w (children gives cs) → Leads s w (children gives list)
children_on gives c cs list s t u w f g h = f w (leads_on t u w _ _ g h)

-- an item that is there, as it is seen, whatever is read past the end
pub read : {A B : Type 0} (f : A → B) (xs : List A) (at : ℕ) (x : A) (d : B) → at < length xs → x ≡ slice_index_or xs at x → slice_index_or (map f xs) at d ≡ f x
read f [] at x d h e = absurd (omega (arith, h))
read f (y ∷ ys) zero x d h e = ap f (sym e)
read f (y ∷ ys) (suc at) x d h e = read f ys at x d (omega (arith, h)) e

pub found : {A : Type 0} (P : A → Type 0) (xs : List A) (at : ℕ) (x : A) → AllByRecursion P xs → at < length xs → x ≡ slice_index_or xs at x → P x
found P [] at x a h e = absurd (omega (arith, h))
found P (y ∷ ys) zero x a h e = subst P (sym e) a.0
found P (y ∷ ys) (suc at) x a h e = found P ys at x a.1 (omega (arith, h)) e
