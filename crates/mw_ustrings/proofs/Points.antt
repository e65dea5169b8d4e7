-- The arguments of `char`, one after another: that each is the number of a code point, and the bytes of all.
use Rattle.std.proofs.Common.{◌≡◌, ◌∙◌, ap, sym, subst, refl, arith, ℕ, suc, ◌+◌, ◌<◌, ℤ, List, [], ◌∷◌, ◌++◌, append_assoc, append-nil, length, drop, Option, Some, None, Ok, Err, drop-cons}
use Rattle.std.specs.Prelude.{codes}
use Rattle.std.specs.Option.{unwrap_or}
use Rattle.std.proofs.lemmas.List.{drop_all}
use Rattle.mw_text.specs.MwUstringTexts.{text_of_codes}
use Rattle.mw_frame_texts.specs.LuaHeapValue.{Value, Nil}
use Rattle.mw_frame_texts.specs.LuaStoreSeen.{StoreView}
use Rattle.mw_frame_texts.specs.LuaBasicDeclaredStopStop.{Stop}
use Rattle.mw_frame_texts.specs.LuaBasicSeen.{Refuses}
use Rattle.mw_frame_texts.specs.LuaMeaningScope.{Bytes}
use Rattle.mw_frame_texts.specs.LuaMeaningValues.{number_in}
use Rattle.mw_frame_texts.specs.LuaMeaningMessages.{bad_argument}
use Rattle.mw_frame_texts.specs.LuaMeaningArguments.{Argument, some_number, some_value, a_number}
use Rattle.mw_frame_texts.specs.LuaMeaningTag.{and_then}
use Rattle.mw_frame_texts.proofs.Charged.{refuses_first}
use Rattle.mw_ustrings.specs.CodePoints.{number_bytes, point_bytes, points_bytes}
use Rattle.mw_ustrings.proofs.ReadArguments.{refuses_through}
use Rattle.mw_frame_texts.specs.LuaMeaningUstring.{point_text, points_text}

abbrev point_at : ℕ → List Value → Argument Bytes
point_at n given = point_text n (a_number n (codes "char") given)

-- the arguments from a place on, before which these bytes were made
abbrev SoFar : Bytes → ℕ → List Value → Argument Bytes → Type 0
SoFar made at vs whole = and_then (Ok made) (points_text (suc at) (drop at vs)) ≡ whole

nothing_made : (vs : List Value) → SoFar [] 0 vs (points_text 1 vs)
nothing_made vs = go (points_text 1 vs)
  where
    go : (r : Argument Bytes) → and_then (Ok []) r ≡ r
    go (Ok b) = refl
    go (Err m) = refl

unrolled : (at : ℕ) (vs : List Value) → at < length vs → points_text (suc at) (drop at vs) ≡ and_then (point_at (suc at) (drop at vs)) (points_text (suc (suc at)) (drop (suc at) vs))
unrolled at vs lt = ap (points_text (suc at)) (drop-cons vs at Nil lt) ∙ ap (λ ws. and_then (point_at (suc at) ws) (points_text (suc (suc at)) (drop (suc at) vs))) (sym (drop-cons vs at Nil lt))

then_more : (a b : Bytes) (r : Argument Bytes) → and_then (Ok a) (and_then (Ok b) r) ≡ and_then (Ok (a ++ b)) r
then_more a b (Ok c) = ap Ok (sym (append_assoc a b c))
then_more a b (Err m) = refl

-- one more
one_made : (made more next : Bytes) (at : ℕ) (vs given : List Value) (whole : Argument Bytes) → at < length vs → given ≡ drop at vs → point_at (at + 1) given ≡ Ok more → next ≡ made ++ more
    → SoFar made at vs whole → SoFar next (at + 1) vs whole
one_made made more next at vs given whole lt is found made_is so =
    let one : at + 1 ≡ suc at = omega arith in
    let point : point_at (suc at) (drop at vs) ≡ Ok more = subst (λ n. point_at n (drop at vs) ≡ Ok more) one (subst (λ ws. point_at (at + 1) ws ≡ Ok more) is found) in
    let rest = points_text (suc (suc at)) (drop (suc at) vs) in
    ap (λ n. and_then (Ok next) (points_text (suc n) (drop n vs))) one
    ∙ ap (λ b. and_then (Ok b) rest) made_is
    ∙ sym (then_more made more rest)
    ∙ ap (λ x. and_then (Ok made) (and_then x rest)) (sym point)
    ∙ ap (and_then (Ok made)) (sym (unrolled at vs lt))
    ∙ so

-- one that is none; `given` are the arguments from it on
none_made : (made : Bytes) (at : ℕ) (vs given : List Value) (whole : Argument Bytes) (s t : StoreView) (e : Stop) → at < length vs → given ≡ drop at vs → Refuses (point_at (at + 1) given) s t e
    → SoFar made at vs whole → Refuses whole s t e
none_made made at vs given whole s t e lt is none so =
    let one : at + 1 ≡ suc at = omega arith in
    let first = subst (λ n. Refuses (point_at n (drop at vs)) s t e) one (subst (λ ws. Refuses (point_at (at + 1) ws) s t e) is none) in
    let here = refuses_first (point_at (suc at) (drop at vs)) (points_text (suc (suc at)) (drop (suc at) vs)) s t e first in
    let all = subst (λ x. Refuses x s t e) (sym (unrolled at vs lt)) here in
    subst (λ x. Refuses x s t e) so (refuses_through (and_then (Ok made)) (λ m. refl) (points_text (suc at) (drop at vs)) s t e all)

-- all of them
all_made : (made : Bytes) (at : ℕ) (vs : List Value) (whole : Argument Bytes) → length vs ≡ at → SoFar made at vs whole → whole ≡ Ok made
all_made made at vs whole is so =
    let none : drop at vs ≡ [] = drop_all at vs (omega (arith, is)) in
    sym so ∙ ap (λ ws. and_then (Ok made) (points_text (suc at) ws)) none ∙ ap Ok (append-nil made)

-- WHAT ALL OF THEM GIVE is the bytes of the code points
number_is : (n : ℕ) (given : List Value) (o : Option ℤ) (made : Bytes) → point_text n (some_number n (codes "char") given o) ≡ Ok made → number_bytes o ≡ made
number_is n given None made e = absurd cc
number_is n given (Some z) made e = go (text_of_codes (z ∷ [])) e
  where
    go : (t : Option Bytes) → some_value (bad_argument n (codes "char") (codes "out of range")) t ≡ Ok made → unwrap_or t [] ≡ made
    go (Some bytes) h = cc
    go None h = absurd cc

both_are : (a b : Argument Bytes) (made : Bytes) → and_then a b ≡ Ok made → (x : Bytes) × (y : Bytes) × (a ≡ Ok x) × (b ≡ Ok y) × (made ≡ x ++ y)
both_are (Ok x) (Ok y) made e = (x, y, refl, refl, cc)
both_are (Ok x) (Err m) made e = absurd cc
both_are (Err m) b made e = absurd cc

made_is : (n : ℕ) (vs : List Value) (made : Bytes) → points_text n vs ≡ Ok made → made ≡ points_bytes vs
made_is n [] made e = cc
made_is n (v ∷ vs) made e =
    let p = both_are _ _ made e in
    p.4 ∙ sym (ap (λ bytes. bytes ++ p.1) (number_is n (v ∷ vs) (number_in v) p.0 p.2)) ∙ ap (λ bytes. point_bytes v ++ bytes) (made_is (suc n) vs p.1 p.3)

-- ONE AFTER ANOTHER is checked
abbrev pub CheckedTo : ℕ → List Value → Argument Bytes → Type 0
CheckedTo at vs whole = (made : Bytes) × SoFar made at vs whole

pub none_checked : (vs : List Value) → CheckedTo 0 vs (points_text 1 vs)
none_checked vs = ([], nothing_made vs)

pub one_checked : (more : Bytes) (at : ℕ) (vs given : List Value) (whole : Argument Bytes) → at < length vs → given ≡ drop at vs → point_at (at + 1) given ≡ Ok more
    → CheckedTo at vs whole → CheckedTo (at + 1) vs whole
one_checked more at vs given whole lt is found (made, so) = (made ++ more, one_made made more (made ++ more) at vs given whole lt is found refl so)

pub one_refused : (at : ℕ) (vs given : List Value) (whole : Argument Bytes) (s t : StoreView) (e : Stop) → at < length vs → given ≡ drop at vs → Refuses (point_at (at + 1) given) s t e
    → CheckedTo at vs whole → Refuses whole s t e
one_refused at vs given whole s t e lt is none (made, so) = none_made made at vs given whole s t e lt is none so

pub all_checked : (at : ℕ) (vs : List Value) → length vs ≡ at → CheckedTo at vs (points_text 1 vs) → points_text 1 vs ≡ Ok (points_bytes vs)
all_checked at vs is (made, so) =
    let whole = all_made made at vs (points_text 1 vs) is so in
    whole ∙ ap Ok (made_is 1 vs made whole)
