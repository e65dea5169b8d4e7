-- Both alphabets keep to their places: within the text, and at the boundaries of UTF-8.
use Rattle.std.proofs.Common.{◌≡◌, ℕ, zero, suc, ◌+◌, ◌-◌, ◌<◌, ◌≤◌, Bool, true, false, cond, not, ◌==◌, List, [], ◌∷◌, length, take, drop, slice_index, refl, sym, ◌∙◌, ap, subst, arith, length-drop}
use Rattle.std.proofs.lemmas.Bool.Decides.{nat_tests}
use Rattle.std.specs.Str.{IsUtf8, IsCharBoundary}
use Rattle.std.proofs.lemmas.Str.{IsUtf8-nil, IsUtf8-between, IsUtf8-drop, IsCharBoundary-start, IsCharBoundary-from_take, IsCharBoundary-from_rest}
use Rattle.std.proofs.lemmas.List.{drop-drop}
use Rattle.lua_pattern.specs.Letters.{Letters, Symbol, IsFirst, IsAlphabet}
use Rattle.lua_pattern.specs.Texts.{bytes, points, goes_on, point_starts}
use Rattle.lua_pattern.specs.Lawful.{bytes_lawful, points_lawful}
use Rattle.lua_pattern.specs.Way.{begins}
use Rattle.lua_pattern.specs.Places.{Repeats, KeepsPlaces}

both : (b c : Bool) → cond b c false ≡ true → (b ≡ true) × (c ≡ true)
both true c e = (refl, e)
both false c e = absurd (cc)

same : (w b : ℕ) → (w == b) ≡ true → w ≡ b
same w b e = grind (arith, nat_tests)

-- a word with which a text begins is its head
pub begins_take : (word text : List ℕ) → begins word text ≡ true → (take (length word) text ≡ word) × (length word ≤ length text)
begins_take [] text e = (refl, omega arith)
begins_take (w ∷ ws) [] e = absurd (cc)
begins_take (w ∷ ws) (b ∷ bs) e =
    let parts : ((w == b) ≡ true) × (begins ws bs ≡ true) = both (w == b) (begins ws bs) e in
    let eq : w ≡ b = same w b parts.0 in
    let rest : (take (length ws) bs ≡ ws) × (length ws ≤ length bs) = begins_take ws bs parts.1 in
    let short : length ws ≤ length bs = rest.1 in
    (ap (λ x. x ∷ take (length ws) bs) (sym eq) ∙ ap (λ t. w ∷ t) rest.0, omega (arith, short))

-- Behind a symbol the text has not ended before.
step_within : (a : Letters) → IsAlphabet a → (subject : List ℕ) (at : ℕ) (c : Symbol) (cs : List Symbol) → at ≤ length subject →
    a.symbols (drop at subject) ≡ c ∷ cs → at + c.size ≤ length subject
step_within a law subject at c cs le e =
    let f : IsFirst a (drop at subject) c cs = law.first (drop at subject) c cs e in
    let l : length (drop at subject) ≡ length subject - at = length-drop at subject in
    let some : 0 < c.size = f.some in
    let within : c.size ≤ length (drop at subject) = f.within in
    omega (arith, l, some, within, le)

again_within : (subject : List ℕ) (at from to : ℕ) → at ≤ length subject → Repeats subject from to at →
    at + length (take (to - from) (drop from subject)) ≤ length subject
again_within subject at from to le e =
    let word : List ℕ = take (to - from) (drop from subject) in
    let short : length word ≤ length (drop at subject) = (begins_take word (drop at subject) e).1 in
    let l : length (drop at subject) ≡ length subject - at = length-drop at subject in
    omega (arith, l, short, le)

-- Over any alphabet the places within a text are such.
pub within_keeps : (a : Letters) → IsAlphabet a → (subject : List ℕ) → KeepsPlaces a subject (λ p. p ≤ length subject)
within_keeps a law subject = record {
  step = λ at c cs le e. step_within a law subject at c cs le e;
  again = λ at from to le lf lt e. again_within subject at from to le e;
  zero = omega arith;
}

pub bytes_keep : (subject : List ℕ) → KeepsPlaces bytes subject (λ p. p ≤ length subject)
bytes_keep = within_keeps bytes bytes_lawful

not_inner : (b : ℕ) → not (goes_on b) ≡ true → 128 ≤ b → 192 ≤ b
not_inner b e ge = grind (arith, nat_tests)

head_high : (text : List ℕ) (i : ℕ) → point_starts (drop i text) ≡ true → i < length text → 128 ≤ slice_index text i → 192 ≤ slice_index text i
head_high [] i e lt ge = absurd (omega (arith, lt))
head_high (b ∷ bs) zero e lt ge = not_inner b e ge
head_high (b ∷ bs) (suc i) e lt ge = head_high bs i e (omega (arith, lt)) ge

-- A place where a code point begins is a boundary.
starts_boundary : (text : List ℕ) (i : ℕ) → i ≤ length text → point_starts (drop i text) ≡ true → IsCharBoundary text i
starts_boundary text i le e = (le, head_high text i e)

word_utf8 : (subject : List ℕ) → IsUtf8 subject → (from to n : ℕ) → IsCharBoundary subject from → IsCharBoundary subject to → to - from ≡ n →
    IsUtf8 (take n (drop from subject))
word_utf8 subject u from to zero bf bt h = IsUtf8-nil
word_utf8 subject u from to (suc n) bf bt h =
    let Q : ℕ → Type 0 = λ k. IsUtf8 (take k (drop from subject)) in
    subst Q h (IsUtf8-between subject from to u (omega (arith, h)) bf bt)

points_again : (subject : List ℕ) → IsUtf8 subject → (at from to : ℕ) → IsCharBoundary subject at → IsCharBoundary subject from → IsCharBoundary subject to →
    Repeats subject from to at → IsCharBoundary subject (at + length (take (to - from) (drop from subject)))
points_again subject u at from to ba bf bt e =
    let word : List ℕ = take (to - from) (drop from subject) in
    let text : List ℕ = drop at subject in
    let head : (take (length word) text ≡ word) × (length word ≤ length text) = begins_take word text e in
    let Q : List ℕ → Type 0 = λ l. IsUtf8 l in
    let whole : IsUtf8 (take (length word) text) = subst Q (sym head.0) (word_utf8 subject u from to (to - from) bf bt refl) in
    IsCharBoundary-from_rest subject at (length word) ba.0
    (IsCharBoundary-from_take text (length word) (IsUtf8-drop subject at u ba) head.1 whole)

pub points_keep : (subject : List ℕ) → IsUtf8 subject → KeepsPlaces points subject (IsCharBoundary subject)
points_keep subject u = record {
  step = λ at c cs b e.
      let f : IsFirst points (drop at subject) c cs = points_lawful.first (drop at subject) c cs e in
      starts_boundary subject (at + c.size) (step_within points points_lawful subject at c cs b.0 e)
      (ap point_starts (sym (drop-drop c.size at subject)) ∙ f.next);
  again = points_again subject u;
  zero = IsCharBoundary-start subject u;
}
