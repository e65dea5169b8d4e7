-- The first place at which a text has a needle.
use Rattle.std.proofs.Common.{◌≡◌, ℕ, zero, suc, ◌+◌, ◌-◌, ◌<◌, ◌≤◌, Bool, true, false, cond, if◌then◌else◌, List, [], ◌∷◌, ◌++◌, length, take, drop, Option, Some, None, refl, sym, ◌∙◌, ap, subst, arith, eq-eqb, true≢false, length-drop}
use Rattle.std.specs.Option.{option_map}
use Rattle.std.specs.Prelude.{MatchOption}
use Rattle.std.proofs.lemmas.List.{take-append-drop}
use Rattle.memchr.specs.Find.{OccursAt, FindsNeedle}
use Rattle.memchr.proofs.lemmas.MatchLemmas.{OccursAt-part, OccursAt-from_part}
use Rattle.lua_pattern.specs.Way.{begins}
use Rattle.lua_pattern.specs.Keeps.{begins_take}
use Rattle.lua_string.specs.Finds.{place_of}

begins_itself : (word rest : List ℕ) → begins word (word ++ rest) ≡ true
begins_itself [] rest = refl
begins_itself (w ∷ ws) rest = ap (λ v. cond v (begins ws (ws ++ rest)) false) (eq-eqb w w refl) ∙ begins_itself ws rest

pub occurs_begins : (text needle : List ℕ) (k : ℕ) → OccursAt text needle k → begins needle (drop k text) ≡ true
occurs_begins text needle k o =
    let rest : List ℕ = drop (length needle) (drop k text) in
    ap (begins needle) (sym (take-append-drop (length needle) (drop k text)) ∙ ap (λ l. l ++ rest) (OccursAt-part text needle k o)) ∙ begins_itself needle rest

begins_occurs : (text needle : List ℕ) (k : ℕ) → k ≤ length text → begins needle (drop k text) ≡ true → OccursAt text needle k
begins_occurs text needle k le e =
    let h : (take (length needle) (drop k text) ≡ needle) × (length needle ≤ length (drop k text)) = begins_take needle (drop k text) e in
    let short : length needle ≤ length (drop k text) = h.1 in
    let l : length (drop k text) ≡ length text - k = length-drop k text in
    OccursAt-from_part text needle k (omega (arith, l, short, le)) h.0

-- No place has it; or this is the first that has.
abbrev IsPlace : List ℕ → List ℕ → Option ℕ → Type 0
IsPlace needle text r =
    MatchOption r ((k : ℕ) → k ≤ length text → begins needle (drop k text) ≡ false)
    (λ k. (k ≤ length text) × (begins needle (drop k text) ≡ true) × ((j : ℕ) → j < k → begins needle (drop j text) ≡ false))

both_ways : {A : Type 0} (b : Bool) → b ≡ true → b ≡ false → A
both_ways b t f = absurd (true≢false (sym t ∙ f))

only_place : (needle text : List ℕ) (r : Option ℕ) → IsPlace needle text r → r ≡ place_of needle text
only_place needle [] None h = ap (λ v. if v then Some 0 else None) (sym (h 0 (omega arith)))
only_place needle [] (Some k) h =
    let z : k ≡ 0 = omega (arith, h.0) in
    let P : ℕ → Type 0 = λ n. begins needle (drop n []) ≡ true in
    ap Some z ∙ ap (λ v. if v then Some 0 else None) (sym (subst P z h.1))
only_place needle (c ∷ cs) None h =
    let later : None ≡ place_of needle cs = only_place needle cs None (λ k le. h (suc k) (omega (arith, le))) in
    ap (option_map suc) later ∙ ap (λ v. if v then Some 0 else option_map suc (place_of needle cs)) (sym (h 0 (omega arith)))
only_place needle (c ∷ cs) (Some zero) h = ap (λ v. if v then Some 0 else option_map suc (place_of needle cs)) (sym h.1)
only_place needle (c ∷ cs) (Some (suc k)) h =
    let later : Some k ≡ place_of needle cs = only_place needle cs (Some k) (omega (arith, h.0), h.1, λ j lt. h.2 (suc j) (omega (arith, lt))) in
    ap (option_map suc) later ∙ ap (λ v. if v then Some 0 else option_map suc (place_of needle cs)) (sym (h.2 0 (omega arith)))

not_there : (text needle : List ℕ) (k : ℕ) → k ≤ length text → (OccursAt text needle k → ⊥) → begins needle (drop k text) ≡ false
not_there text needle k le never = go (begins needle (drop k text)) refl
  where
    go : (b : Bool) → begins needle (drop k text) ≡ b → begins needle (drop k text) ≡ false
    go true e = absurd (never (begins_occurs text needle k le e))
    go false e = e

pub place_found : (text needle : List ℕ) (r : Option ℕ) → FindsNeedle text needle 0 r → r ≡ place_of needle text
place_found text needle None h = only_place needle text None (λ k le. not_there text needle k le (h k (omega arith) (omega (arith, le))))
place_found text needle (Some k) h =
    only_place needle text (Some k) (
      omega (arith, h.0.high),
      occurs_begins text needle k h.1,
      λ j lt. not_there text needle j (omega (arith, lt, h.0.high)) (h.0.before j (omega arith) lt),
    )

-- A needle that is found lies within the text.
pub found_within : (text needle : List ℕ) (r : Option ℕ) → FindsNeedle text needle 0 r → MatchOption r (Unit {0}) (λ k. k + length needle ≤ length text)
found_within text needle None h = tt
found_within text needle (Some k) h = h.1.fits
