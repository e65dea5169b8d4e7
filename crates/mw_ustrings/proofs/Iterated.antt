-- Iterators of code points that may run out of memory: what comes next, and what is taken for it.
use Rattle.std.proofs.Common.{◌≡◌, ◌∙◌, ap, sym, subst, arith, ℕ, ◌+◌, List, [], ◌∷◌, length, length-append, Option, Some, None, Ok, encode_utf8_all}
use Rattle.std.specs.Prelude.{Result}
use Rattle.std.specs.Char.{encode_utf8}
use Rattle.std.specs.Iterator.{Count}
use Rattle.unicode_normalization.specs.declared.decompose.Decompositions.{Decompositions}
use Rattle.unicode_normalization.specs.declared.recompose.Recompositions.{Recompositions}
use Rattle.unicode_normalization.specs.Decompositions.{DecomposesTo, DecompositionSteps}
use Rattle.unicode_normalization.specs.Recompositions.{ComposesTo, RecompositionSteps}
use Rattle.unicode_normalization.specs.Iter.{IsFirstOf, YieldsFirstOk}
use Rattle.lua_number.specs.WkBaseDeclaredLeftLeft.{Left}
use Rattle.mw_frame_texts.specs.LuaBasicDeclaredStopStop.{Stop}
use Rattle.mw_frame_texts.specs.LuaBasicDeclaredStopStopTheVariants as stop
use Rattle.mw_frame_texts.specs.MwFramesCosts.{Took, Unpaid, SoFar}
use Rattle.mw_frame_texts.proofs.MwFramesSums.{took-more, lacked_then}
use Rattle.mw_ustrings.specs.CodePoints.{GivesPoints}

module _ {S E : Type 0} (HasLeft : S → List ℕ → Type 0) (steps : S → Option (Result ℕ E) → S → Type 0) (first : (s : S) (r : Option (Result ℕ E)) (t : S) → steps s r t → YieldsFirstOk HasLeft s r t) where
  -- an iterator of the kit gives what it has left
  gives_left : (s : S) (cs : List ℕ) → HasLeft s cs → GivesPoints steps s cs
  gives_left s [] h = λ x t step. let e = ((first s (Some (Ok x)) t step).at [] h).1 in cc
  gives_left s (c ∷ cs) h = (
    λ t step. let e = ((first s None t step).at (c ∷ cs) h).0 in cc,
    λ x t step.
        let here = (first s (Some (Ok x)) t step).at (c ∷ cs) h in
        let e = here.1 in
        let head : x ≡ c = cc in
        let tail : here.0 ≡ cs = cc in
        (head, gives_left t cs (subst (HasLeft t) tail here.2)),
  )

module _ {I : Type 0} (E : Type 0) (can : I → Type 0) (steps : I → Option ℕ → I → Type 0) (left : I → Count) where
  pub decomposed_gives : (s : Decompositions I) (cs : List ℕ) → DecomposesTo steps s cs → GivesPoints (DecompositionSteps {E = E} can steps left) s cs
  decomposed_gives = gives_left (DecomposesTo steps) (DecompositionSteps can steps left) (λ _ _ _ step. step.first)

  pub composed_gives : (s : Recompositions I) (cs : List ℕ) → ComposesTo steps s cs → GivesPoints (RecompositionSteps {E = E} can steps left) s cs
  composed_gives = gives_left (ComposesTo steps) (RecompositionSteps can steps left) (λ _ _ _ step. step.first)

module _ {S E : Type 0} (steps : S → Option (Result ℕ E) → S → Type 0) where
  pub gives_next : (s t : S) (x : ℕ) (cs : List ℕ) → steps s (Some (Ok x)) t → GivesPoints steps s cs → IsFirstOf (GivesPoints steps) cs t x
  gives_next s t x [] step h = absurd (h x t step)
  gives_next s t x (c ∷ cs) step h = let parts = h.1 x t step in (cs, let e = parts.0 in cc, parts.1)

  pub gives_end : (s t : S) (cs : List ℕ) → steps s None t → GivesPoints steps s cs → cs ≡ []
  gives_end s t [] step h = cc
  gives_end s t (c ∷ cs) step h = absurd (h.0 t step)

-- the bytes of a code point, and of those behind it
point_then : (x size : ℕ) (cs behind : List ℕ) → cs ≡ x ∷ behind → size ≡ length (encode_utf8 x) → length (encode_utf8_all cs) ≡ size + length (encode_utf8_all behind)
point_then x size cs behind is e =
    ap (λ ys. length (encode_utf8_all ys)) is ∙ length-append (encode_utf8 x) (encode_utf8_all behind) ∙ ap (λ n. n + length (encode_utf8_all behind)) (sym e)

pub point_taken : (l m k : Left) (x size all : ℕ) (cs behind : List ℕ) → cs ≡ x ∷ behind → size ≡ length (encode_utf8 x) → SoFar l m (length (encode_utf8_all cs)) all → Took size m k
    → SoFar l k (length (encode_utf8_all behind)) all
point_taken l m k x size all cs behind is e so took =
    took-more l m k (length (encode_utf8_all cs)) (length (encode_utf8_all behind)) all size so (point_then x size cs behind is e) took

-- one is not there, so the sum is not
sum_unpaid : (l m k : Left) (a rest all step : ℕ) (e : Stop) → SoFar l m a all → a ≡ step + rest → Unpaid step m k e → Unpaid all l k e
sum_unpaid l m k a rest all step stop.Spent (n, t, is) s u = let both = lacked_then n step l m k t u in (omega (arith, both.0, is, s), both.1)
sum_unpaid l m k a rest all step (stop.Raised v level) so s u = absurd u
sum_unpaid l m k a rest all step stop.NoMemory so s u = absurd u

pub point_unpaid : (l m k : Left) (x size all : ℕ) (e : Stop) (cs behind : List ℕ) → cs ≡ x ∷ behind → size ≡ length (encode_utf8 x) → SoFar l m (length (encode_utf8_all cs)) all → Unpaid size m k e
    → Unpaid all l k e
point_unpaid l m k x size all e cs behind is same so u =
    sum_unpaid l m k (length (encode_utf8_all cs)) (length (encode_utf8_all behind)) all size e so (point_then x size cs behind is same) u

-- none is left
pub all_taken : (l m : Left) (all : ℕ) (cs : List ℕ) → cs ≡ [] → SoFar l m (length (encode_utf8_all cs)) all → Took all l m
all_taken l m all cs none (n, t, is) =
    let nothing : length (encode_utf8_all cs) ≡ 0 = ap (λ ys. length (encode_utf8_all ys)) none in
    let same : n ≡ all = omega (arith, nothing, is) in
    subst (λ i. Took i l m) same t
