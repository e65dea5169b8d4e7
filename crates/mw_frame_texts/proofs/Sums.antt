-- Costs that are taken part by part.
use Rattle.std.proofs.Common.{◌≡◌, ◌∙◌, ap, sym, arith, ℕ, suc, ◌+◌, ◌<◌, List, ◌∷◌, length, length-append, drop, get_or, drop-cons}
use Rattle.mw_frames.specs.WkBaseDeclaredLeftLeft.{Left}
use Rattle.mw_frames.specs.Costs.{Took, SoFar}
use Rattle.mw_frames.proofs.Sums.{took-more}
use Rattle.mw_frame_texts.specs.declared.attributes.AttrText.{AttrText}
use Rattle.mw_frame_texts.specs.Written.{attr_written, attrs_written}

-- an attribute of a list, and those behind it
attr-step : (xs : List AttrText) (i : ℕ) (x : AttrText) → i < length xs → x ≡ get_or xs i x → drop i xs ≡ x ∷ drop (i + 1) xs
attr-step xs i x h e =
    let next : suc i ≡ i + 1 = omega arith in
    drop-cons xs i x h ∙ ap (λ y. y ∷ drop (suc i) xs) (sym e) ∙ ap (λ n. x ∷ drop n xs) next

pub attr-taken : (l m k : Left) (xs : List AttrText) (i : ℕ) (x : AttrText) (all : ℕ) → i < length xs → x ≡ get_or xs i x
    → SoFar l m (length (attrs_written (drop i xs))) all → Took (length (attr_written x)) m k → SoFar l k (length (attrs_written (drop (i + 1) xs))) all
attr-taken l m k xs i x all h e s t =
    took-more l m k (length (attrs_written (drop i xs))) (length (attrs_written (drop (i + 1) xs))) all (length (attr_written x)) s
    (ap (λ ys. length (attrs_written ys)) (attr-step xs i x h e) ∙ length-append (attr_written x) (attrs_written (drop (i + 1) xs))) t
