-- A needle in UTF-8 is found where code points begin, and so is what stands behind it.
use Rattle.std.proofs.Common.{◌≡◌, ℕ, zero, suc, ◌+◌, ◌<◌, ◌≤◌, true, List, [], ◌∷◌, length, take, drop, slice_index, Option, Some, None, sym, ap, subst, ◌∙◌, arith}
use Rattle.std.specs.Prelude.{MatchOption}
use Rattle.std.specs.Str.{IsUtf8, IsCharBoundary}
use Rattle.std.proofs.lemmas.Str.{IsUtf8-drop, IsCharBoundary-start, IsCharBoundary-from_take, IsCharBoundary-from_rest}
use Rattle.lua_string.specs.LuaPatternWay.{begins}
use Rattle.lua_string.specs.LuaPatternKeeps.{begins_take}
use Rattle.lua_string.specs.Finds.{place_of}
use Rattle.memchr.specs.Find.{FindsNeedle}
use Rattle.lua_string.proofs.Plain.{place_found, occurs_begins}

-- the places at both ends of a word that a text has
abbrev pub Between : List ℕ → List ℕ → ℕ → Type 0
Between text needle k = IsCharBoundary text k × IsCharBoundary text (k + length needle)

index_drop : (text : List ℕ) (k : ℕ) (n : ℕ) → slice_index (drop k text) n ≡ slice_index text (k + n)
index_drop text zero n = let e : 0 + n ≡ n = omega arith in ap (slice_index text) (sym e)
index_drop [] (suc k) n = let e : suc k + n ≡ suc (k + n) = omega arith in ap (slice_index []) (sym e)
index_drop (b ∷ bs) (suc k) n = let e : suc k + n ≡ suc (k + n) = omega arith in index_drop bs k n ∙ ap (slice_index (b ∷ bs)) (sym e)

head_same : (needle text : List ℕ) → take (length needle) text ≡ needle → 0 < length needle → slice_index text 0 ≡ slice_index needle 0
head_same [] text e h = absurd (omega (arith, h))
head_same (n ∷ ns) [] e h = ap (λ l. slice_index l 0) e
head_same (n ∷ ns) (b ∷ bs) e h = ap (λ l. slice_index l 0) e

begins_between : (needle text : List ℕ) (k : ℕ) → IsUtf8 needle → IsUtf8 text → 0 < length needle → k ≤ length text → begins needle (drop k text) ≡ true → Between text needle k
begins_between needle text k un ut some le is =
    let head : (take (length needle) (drop k text) ≡ needle) × (length needle ≤ length (drop k text)) = begins_take needle (drop k text) is in
    let z : k + 0 ≡ k = omega arith in
    let same : slice_index text k ≡ slice_index needle 0 =
    ap (slice_index text) (sym z) ∙ sym (index_drop text k 0) ∙ head_same needle (drop k text) head.0 some in
    let P : ℕ → Type 0 = λ b. 128 ≤ b → 192 ≤ b in
    let high : 128 ≤ slice_index text k → 192 ≤ slice_index text k = subst P (sym same) ((IsCharBoundary-start needle un).1 some) in
    let at : IsCharBoundary text k = (le, λ lt. high) in
    let Q : List ℕ → Type 0 = λ l. IsUtf8 l in
    (at, IsCharBoundary-from_rest text k (length needle) le (IsCharBoundary-from_take (drop k text) (length needle) (IsUtf8-drop text k ut at) head.1 (subst Q (sym head.0) un)))

none_between : (text : List ℕ) (k : ℕ) → IsUtf8 text → Some k ≡ place_of [] text → Between text [] k
none_between [] k u e = first k u e
  where
    first : (k : ℕ) → IsUtf8 [] → Some k ≡ Some 0 → Between [] [] k
    first k u e = let z : k ≡ 0 = cc in subst (λ (n : ℕ). Between [] [] n) (sym z) (IsCharBoundary-start [] u, IsCharBoundary-start [] u)
none_between (c ∷ cs) k u e =
    let z : k ≡ 0 = cc in subst (λ (n : ℕ). Between (c ∷ cs) [] n) (sym z) (IsCharBoundary-start (c ∷ cs) u, IsCharBoundary-start (c ∷ cs) u)

pub found_between : (text needle : List ℕ) (r : Option ℕ) → IsUtf8 text → IsUtf8 needle → FindsNeedle text needle 0 r → MatchOption r (Unit {0}) (λ k. Between text needle k)
found_between text needle None ut un h = tt
found_between text [] (Some k) ut un h = none_between text k ut (place_found text [] (Some k) h)
found_between text (n ∷ ns) (Some k) ut un h =
    begins_between (n ∷ ns) text k un ut (omega arith) (omega (arith, h.0.high)) (occurs_begins text (n ∷ ns) k h.1)
