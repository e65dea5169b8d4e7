-- A rendering by other numbers.
use Rattle.std.proofs.Common.{◌≡◌, ℕ, zero, suc, List, Some, refl, ◌∙◌, ap, slice_index_or}
use Rattle.lua_heap.specs.Heap.{MarkupChild, MarkupNode, mar, no_markup}
use Rattle.lua_heap.specs.Related.{Map, Each, none, more, SameChild, child_text, child_node}
use Rattle.lua_heap.proofs.StandingLaws.{markup_stands}
use Rattle.mw_html.specs.Render.{Piece, given, begins, and_then, children, opening, inside, node}
use Rattle.mw_html.specs.Laws.{SameTag, IsRenumbered, RenumberedIsRendered, StandsIsRendered}

children-same : (m : Map) (f g : ℕ → Piece) → ((a b : ℕ) → m.to (mar a) ≡ Some (mar b) → f a ≡ g b) → (cs ds : List MarkupChild) → Each (SameChild m) cs ds → children f cs ≡ children g ds
children-same m f g same _ _ none = refl
children-same m f g same _ _ (more _ _ cs ds (child_text bytes) rest) = ap (and_then (given bytes)) (children-same m f g same cs ds rest)
children-same m f g same _ _ (more _ _ cs ds (child_node a b e) rest) =
    ap (λ p. and_then p (children f cs)) (same a b e) ∙ ap (and_then (g b)) (children-same m f g same cs ds rest)

-- the same tag is opened alike, and is given alike where what is in it is
opening-same : (m : Map) (a b : MarkupNode) → SameTag m a b → opening a ≡ opening b
opening-same m a b t = rw (t.name, t.closed, t.attrs, t.styles) refl

inside-same : (m : Map) (f g : ℕ → Piece) → ((a b : ℕ) → m.to (mar a) ≡ Some (mar b) → f a ≡ g b) → (a b : MarkupNode) → SameTag m a b → inside f a ≡ inside g b
inside-same m f g same a b t = rw (t.name, t.closed, children-same m f g same a.children b.children t.children) refl

node-same : (m : Map) (ns ms : List MarkupNode) → IsRenumbered m ns ms → (room a b : ℕ) → m.to (mar a) ≡ Some (mar b) → node ns room a ≡ node ms room b
unfolding node
node-same m ns ms is zero a b e = refl
node-same m ns ms is (suc room) a b e =
    let t = is a b e in
    ap (λ o. and_then begins (and_then (given o) (inside (node ns room) (slice_index_or ns a no_markup)))) (opening-same m _ _ t)
    ∙ ap (λ i. and_then begins (and_then (given (opening (slice_index_or ms b no_markup))) i)) (inside-same m (node ns room) (node ms room) (λ x y. node-same m ns ms is room x y) _ _ t)

pub renumbered_is_rendered : RenumberedIsRendered
renumbered_is_rendered m ns ms is a b e = node-same m ns ms is 201 a b e

pub stands_is_rendered : {X Y : Type 0} (R : Map → X → Y → Type 0) → StandsIsRendered R
stands_is_rendered R m h s st a b e = renumbered_is_rendered m h.markup s.markup
    (λ x y f. let t = (markup_stands R m h s x y st f).0 in record { name = t.name; closed = t.closed; attrs = t.attrs; styles = t.styles; children = t.children }) a b e
