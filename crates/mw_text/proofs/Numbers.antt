-- The digits of a reference by number.
use Rattle.std.proofs.Common.{◌≡◌, ℕ, suc, ◌+◌, ◌-◌, ◌*◌, ◌^◌, ◌<◌, ◌≤◌, ◌⊎◌, min, if◌then◌else◌, List, [], ◌∷◌, length, sym, ap, ◌∙◌, subst, arith, inl, inr, ⊎_elim}
use Rattle.std.proofs.lemmas.Bool.{cases_lt, lt-ltb, le-ltb}
use Rattle.std.proofs.lemmas.Nat.{mul-le}
use Rattle.std.specs.Char.{digit_value}
use Rattle.mw_text.specs.Decode.{digits_of, number_from}

abbrev pub capped : ℕ → ℕ
capped n = min n (2 ^ 32 - 1)

-- two numbers that a number of 32 bits can't tell apart
abbrev Alike : ℕ → ℕ → Type 0
Alike a b = (a ≡ b) ⊎ ((2 ^ 32 - 1 ≤ a) × (2 ^ 32 - 1 ≤ b))

alike_capped : (a b : ℕ) → Alike a b → capped a ≡ capped b
alike_capped a b h = ⊎_elim (λ e. ap capped e) (λ p. grind (arith, p.0, p.1)) h

product_grows : (a radix : ℕ) → 0 < radix → a ≤ a * radix
product_grows a radix h =
    let le : a * 1 ≤ a * radix = mul-le a 1 a radix (omega arith) (omega (arith, h)) in
    let one : a * 1 ≡ a = omega arith in
    omega (arith, le, one)

alike_on : (radix a b d : ℕ) → 0 < radix → Alike a b → Alike (a * radix + d) (b * radix + d)
alike_on radix a b d r h =
    ⊎_elim (λ e. inl (ap (λ n. n * radix + d) e))
    (λ p. let ga : a ≤ a * radix = product_grows a radix r in
    let gb : b ≤ b * radix = product_grows b radix r in
    inr (omega (arith, p.0, ga), omega (arith, p.1, gb))) h

alike_numbers : (radix a b : ℕ) (ds : List ℕ) → 0 < radix → Alike a b → Alike (number_from radix a ds) (number_from radix b ds)
alike_numbers radix a b [] r h = h
alike_numbers radix a b (d ∷ ds) r h = alike_numbers radix (a * radix + digit_value d) (b * radix + digit_value d) ds r (alike_on radix a b (digit_value d) r h)

capped_alike : (n : ℕ) → Alike (capped n) n
capped_alike n = ⊎_elim (λ lt. inl (grind (arith, lt))) (λ ge. inr (grind (arith, ge), ge)) (cases_lt n (2 ^ 32 - 1))

capped_sum : (a d : ℕ) → Alike (capped (capped a + d)) (a + d)
capped_sum a d =
    ⊎_elim (λ lt. let e : capped a ≡ a = grind (arith, lt) in subst (λ (n : ℕ). Alike (capped (n + d)) (a + d)) (sym e) (capped_alike (a + d)))
    (λ ge. inr (grind (arith, ge), omega (arith, ge))) (cases_lt a (2 ^ 32 - 1))

-- what is left of the digits, and the number so far
pub record Reads (radix : ℕ) (whole rest : List ℕ) (number : ℕ) : Type 0 where
  pub value : capped (number_from radix number (digits_of radix rest)) ≡ capped (number_from radix 0 (digits_of radix whole))
  pub count : length whole - length rest + length (digits_of radix rest) ≡ length (digits_of radix whole)
  pub within : length rest ≤ length whole
  pub fits : number < 2 ^ 32

capped_fits : (n : ℕ) → capped n < 2 ^ 32
capped_fits n = grind (arith)

module _ (radix : ℕ) (whole rest : List ℕ) (number : ℕ) where
  digit_here : (b : ℕ) (behind : List ℕ) → rest ≡ b ∷ behind → digit_value b < radix → digits_of radix rest ≡ b ∷ digits_of radix behind
  digit_here b behind e d = ap (digits_of radix) e ∙ ap (λ v. if v then b ∷ digits_of radix behind else []) (lt-ltb (digit_value b) radix d)

  no_digit_here : (b : ℕ) (behind : List ℕ) → rest ≡ b ∷ behind → (digit_value b < radix → ⊥) → digits_of radix rest ≡ []
  no_digit_here b behind e d =
      let le : radix ≤ digit_value b = ⊎_elim (λ lt. absurd (d lt)) (λ ge. ge) (cases_lt (digit_value b) radix) in
      ap (digits_of radix) e ∙ ap (λ v. if v then b ∷ digits_of radix behind else []) (le-ltb (digit_value b) radix le)

  pub reads_on : (b digit product now : ℕ) (behind : List ℕ) → Reads radix whole rest number → 0 < radix → rest ≡ b ∷ behind → digit_value b < radix
      → digit_value b ≡ digit → product ≡ capped (number * radix) → now ≡ capped (product + digit) → Reads radix whole behind now
  reads_on b digit product now behind h r e d v p n =
      let ds = digits_of radix behind in
      let same : now ≡ capped (capped (number * radix) + digit_value b) = n ∙ ap (λ k. capped (k + digit)) p ∙ ap (λ k. capped (capped (number * radix) + k)) (sym v) in
      let a : Alike (capped (capped (number * radix) + digit_value b)) (number * radix + digit_value b) = capped_sum (number * radix) (digit_value b) in
      let l : length rest ≡ suc (length behind) = ap length e in
      let k : length (digits_of radix rest) ≡ suc (length ds) = ap length (digit_here b behind e d) in
      let c : length whole - length rest + length (digits_of radix rest) ≡ length (digits_of radix whole) = h.count in
      let w : length rest ≤ length whole = h.within in
      record {
        value = ap (λ m. capped (number_from radix m ds)) same
            ∙ alike_capped (number_from radix (capped (capped (number * radix) + digit_value b)) ds) (number_from radix (number * radix + digit_value b) ds)
            (alike_numbers radix (capped (capped (number * radix) + digit_value b)) (number * radix + digit_value b) ds r a)
            ∙ sym (ap (λ x. capped (number_from radix number x)) (digit_here b behind e d)) ∙ h.value;
        count = omega (arith, l, k, c, w);
        within = omega (arith, l, w);
        fits = subst (λ (k : ℕ). k < 2 ^ 32) (sym n) (capped_fits (product + digit));
      }

  last : Reads radix whole rest number → digits_of radix rest ≡ [] → number ≡ capped (number_from radix 0 (digits_of radix whole))
  last h e =
      let lt : number < 2 ^ 32 = h.fits in
      let small : number ≡ capped number = grind (arith, lt) in
      small ∙ ap (λ x. capped (number_from radix number x)) (sym e) ∙ h.value

  pub number_stops : (b : ℕ) (behind : List ℕ) → Reads radix whole rest number → rest ≡ b ∷ behind → (digit_value b < radix → ⊥)
      → number ≡ capped (number_from radix 0 (digits_of radix whole))
  number_stops b behind h e d = last h (no_digit_here b behind e d)

  pub number_ends : Reads radix whole rest number → rest ≡ [] → number ≡ capped (number_from radix 0 (digits_of radix whole))
  number_ends h e = last h (ap (digits_of radix) e)
