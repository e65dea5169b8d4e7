-- Digits read one by one, and the point moved.
use Rattle.std.proofs.Common.{◌≡◌, ℕ, zero, suc, ◌+◌, ◌-◌, ◌*◌, ◌^◌, ◌<◌, ◌≤◌, ◌⊎◌, Bool, true, false, List, [], ◌∷◌, ◌++◌, length, take, drop, get_or, min, refl, sym, ap, subst, ◌∙◌, inl, inr, arith, drop-cons, le_refl, leb, append-nil, length-append}
use Rattle.std.specs.Prelude.{ℤ, pos, neg_ℤ, ◌-ℤ◌, Option, Some, None, SomeIff, nat_lt, ◌==◌, ◌&&◌, option_map, unwrap_or}
use Rattle.std.specs.Char.{digit_value}
use Rattle.std.specs.List.{list_all, before_first}
use Rattle.std.specs.Str.Parse.{digits_value, digits_value_after}
use Rattle.std.proofs.Math.Nat.{mul-le-mul_left, mul-le-mul_right, one-le-pow, pow-le-pow_right}
use Rattle.std.proofs.lemmas.Bool.Decides.{nat_tests, leb_tells}
use Rattle.std.proofs.lemmas.List.{take-append-le, drop-append-le, take_min, drop_min, take_all, drop_all}
use Rattle.std.proofs.Math.Seq.{take-append-add, drop-append-add}
use Rattle.std.proofs.lemmas.Bool.{cond-true, cond-false}
use Rattle.std.proofs.lemmas.Int.{ints}
use borrow.Author.Tests.{ltb-true, eqb-true}
use Rattle.wk_base.specs.Space.{trim}
use Rattle.lua_number.specs.Numerals.{in_range, behind, are_digits, signed, is_exponent_mark, is_point, exponent_of, is_zero_digit, whole_part, moved_point, decimal_value, decimal_of, natural, has_hex_mark, numeral_of, digits_of_base, unsigned, is_minus, trimmed, signed_value, read_numeral_of, read_number_of, read_in_base_of}
use Rattle.lua_number.specs.Words.{in_word}

pub word_is : (o : Option ℕ) (n : ℕ) → SomeIff o (n < 2 ^ 64) n → o ≡ in_word (Some n)
word_is None n h = by_test (nat_lt n (2 ^ 64)) refl
  where
    by_test : (b : Bool) → nat_lt n (2 ^ 64) ≡ b → None ≡ in_word (Some n)
    by_test true e = absurd (h (grind (arith, nat_tests, e)))
    by_test false e = rw e refl
word_is (Some x) n h = let lt : n < 2 ^ 64 = h.0 in ap Some h.1 ∙ grind (arith, nat_tests)

-- Digits that follow make a number no smaller.
after_grows : (b n : ℕ) (ds : List ℕ) → 1 ≤ b → n ≤ digits_value_after b n ds
after_grows b n [] h = le_refl n
after_grows b n (c ∷ cs) h = omega (arith, mul-le-mul_left n h, after_grows b (n * b + digit_value c) cs h)

pub too_large : (b v total i : ℕ) (ds : List ℕ) → 1 ≤ b → i < length ds → digits_value_after b v (drop i ds) ≡ total → (v * b + digit_value (get_or ds i 0) < 2 ^ 64 → ⊥) → total < 2 ^ 64 → ⊥
too_large b v total i ds h lt e over below =
    let step : digits_value_after b (v * b + digit_value (get_or ds i 0)) (drop (suc i) ds) ≡ total = rw (drop-cons ds i 0) at e in
    let grown : v * b + digit_value (get_or ds i 0) ≤ digits_value_after b (v * b + digit_value (get_or ds i 0)) (drop (suc i) ds) = after_grows b _ (drop (suc i) ds) h in
    over (omega arith)

pub all_read : (b v total i : ℕ) (ds : List ℕ) → length ds ≤ i → digits_value_after b v (drop i ds) ≡ total → v ≡ total
all_read b v total i ds le e = rw (drop_all i ds le) at e

after_append : (b n : ℕ) (xs ys : List ℕ) → digits_value_after b n (xs ++ ys) ≡ digits_value_after b (digits_value_after b n xs) ys
after_append b n [] ys = refl
after_append b n (x ∷ xs) ys = after_append b (n * b + digit_value x) xs ys

pub both_none : (front back : List ℕ) → (digits_value 10 front < 2 ^ 64 → ⊥) → digits_value 10 (front ++ back) < 2 ^ 64 → ⊥
both_none front back over below =
    let grown : digits_value 10 front ≤ digits_value_after 10 (digits_value 10 front) back = after_grows 10 (digits_value 10 front) back (omega arith) in
    over (omega (arith, after_append 10 0 front back))

pub both_some : (o : Option ℕ) (v : ℕ) (front back : List ℕ) → v ≡ digits_value 10 front → SomeIff o (digits_value_after 10 v back < 2 ^ 64) (digits_value_after 10 v back) → SomeIff o (digits_value 10 (front ++ back) < 2 ^ 64) (digits_value 10 (front ++ back))
both_some o v front back e h =
    let same : digits_value_after 10 v back ≡ digits_value 10 (front ++ back) = ap (λ n. digits_value_after 10 n back) e ∙ sym (after_append 10 0 front back) in
    subst (λ (n : ℕ). SomeIff o (n < 2 ^ 64) n) same h

zeros_grow : (n zeros : ℕ) → n ≤ n * 10 ^ zeros
zeros_grow n zeros = omega (arith, mul-le-mul_left n (one-le-pow zeros 10 (omega arith)))

pub none_with_zeros : (o : Option ℕ) → o ≡ None → (n count : ℕ) → SomeIff o (n < 2 ^ 64) n → n * 10 ^ count < 2 ^ 64 → ⊥
none_with_zeros None e n count h lt = h (omega (arith, zeros_grow n count))
none_with_zeros (Some x) e n count h lt = absurd (let same : Some x ≡ None = e in cc)

-- Two parts of the digits round the point.
pub take_both : (p : ℕ) (w f : List ℕ) → take (min p (length w)) w ++ take (min (p - min p (length w)) (length f)) f ≡ take p (w ++ f)
take_both p w f = by_order (leb_tells p (length w))
  where
    by_order : ((leb p (length w) ≡ true) × (p ≤ length w)) ⊎ ((leb p (length w) ≡ false) × (length w < p)) → take (min p (length w)) w ++ take (min (p - min p (length w)) (length f)) f ≡ take p (w ++ f)
    by_order (inl h) =
        let low : min p (length w) ≡ p = omega arith in
        let none : min (p - p) (length f) ≡ 0 = omega arith in
        rw (low, none) (append-nil (take p w) ∙ sym (take-append-le p w f h.1))
    by_order (inr h) =
        let low : min p (length w) ≡ length w = omega arith in
        let sum : p ≡ length w + (p - length w) = omega arith in
        rw low (rw (take_min (p - length w) f) (ap (λ x. x ++ take (p - length w) f) (take_all (length w) w (le_refl _)) ∙ sym (ap (λ n. take n (w ++ f)) sum ∙ take-append-add w f (p - length w))))

pub drop_both : (p : ℕ) (w f : List ℕ) → drop (min p (length w)) w ++ drop (min (p - min p (length w)) (length f)) f ≡ drop p (w ++ f)
drop_both p w f = by_order (leb_tells p (length w))
  where
    by_order : ((leb p (length w) ≡ true) × (p ≤ length w)) ⊎ ((leb p (length w) ≡ false) × (length w < p)) → drop (min p (length w)) w ++ drop (min (p - min p (length w)) (length f)) f ≡ drop p (w ++ f)
    by_order (inl h) =
        let low : min p (length w) ≡ p = omega arith in
        let none : min (p - p) (length f) ≡ 0 = omega arith in
        rw (low, none) (sym (drop-append-le p w f h.1))
    by_order (inr h) =
        let low : min p (length w) ≡ length w = omega arith in
        let sum : p ≡ length w + (p - length w) = omega arith in
        rw low (rw (drop_min (p - length w) f) (ap (λ x. x ++ drop (p - length w) f) (drop_all (length w) w (le_refl _)) ∙ sym (ap (λ n. drop n (w ++ f)) sum ∙ drop-append-add w f (p - length w))))

pub power_large : (v zeros : ℕ) → (v ≡ 0 → ⊥) → 20 ≤ zeros → v * 10 ^ zeros < 2 ^ 64 → ⊥
power_large v zeros nonzero ge lt =
    let one : 1 ≤ v = omega (arith, nonzero) in
    omega (arith, pow-le-pow_right {n = 10} (omega arith) {i = 20} {j = zeros} ge, mul-le-mul_right (10 ^ zeros) one)

same_take : (p : ℕ) (w f : List ℕ) (a b : ℕ) → a ≡ min p (length w) → b ≡ min (p - a) (length f) → take a w ++ take b f ≡ take p (w ++ f)
same_take p w f a b ea eb =
    ap (λ x. take x w ++ take b f) ea ∙ ap (λ y. take (min p (length w)) w ++ take y f) (eb ∙ ap (λ x. min (p - x) (length f)) ea) ∙ take_both p w f

same_drop : (p : ℕ) (w f : List ℕ) (a b : ℕ) → a ≡ min p (length w) → b ≡ min (p - a) (length f) → drop a w ++ drop b f ≡ drop p (w ++ f)
same_drop p w f a b ea eb =
    ap (λ x. drop x w ++ drop b f) ea ∙ ap (λ y. drop (min p (length w)) w ++ drop y f) (eb ∙ ap (λ x. min (p - x) (length f)) ea) ∙ drop_both p w f

pub whole_yes : (p : ℕ) (w f : List ℕ) (a b : ℕ) → a ≡ min p (length w) → b ≡ min (p - a) (length f) → list_all is_zero_digit (drop a w ++ drop b f) ≡ true → Some (digits_value 10 (take a w ++ take b f) * 10 ^ (p - a - b)) ≡ whole_part (w ++ f) p
whole_yes p w f a b ea eb z =
    let tests : list_all is_zero_digit (drop p (w ++ f)) ≡ true = ap (list_all is_zero_digit) (sym (same_drop p w f a b ea eb)) ∙ z in
    let behind : p - a - b ≡ p - length (w ++ f) = omega (arith, length-append w f) in
    ap (λ n. Some (digits_value 10 (take a w ++ take b f) * 10 ^ n)) behind ∙ ap (λ ds. Some (digits_value 10 ds * 10 ^ (p - length (w ++ f)))) (same_take p w f a b ea eb) ∙ sym (cond-true _ _ _ tests)

pub whole_no : (p : ℕ) (w f : List ℕ) (a b : ℕ) → a ≡ min p (length w) → b ≡ min (p - a) (length f) → list_all is_zero_digit (drop a w ++ drop b f) ≡ false → None ≡ whole_part (w ++ f) p
whole_no p w f a b ea eb z =
    let tests : list_all is_zero_digit (drop p (w ++ f)) ≡ false = ap (list_all is_zero_digit) (sym (same_drop p w f a b ea eb)) ∙ z in
    sym (cond-false _ _ _ tests)

pub whole_value : (p : ℕ) (w f : List ℕ) (a b : ℕ) (wf wb ff fb : List ℕ) (v o : Option ℕ) → a ≡ min p (length w) → b ≡ min (p - a) (length f) → wf ≡ take a w → wb ≡ drop a w → ff ≡ take b f → fb ≡ drop b f → list_all is_zero_digit (wb ++ fb) ≡ true → SomeIff v (digits_value 10 (wf ++ ff) < 2 ^ 64) (digits_value 10 (wf ++ ff)) → ((n : ℕ) → SomeIff v (n < 2 ^ 64) n → SomeIff o (n * 10 ^ (p - a - b) < 2 ^ 64) (n * 10 ^ (p - a - b))) → o ≡ in_word (whole_part (w ++ f) p)
whole_value p w f a b wf wb ff fb v o ea eb ewf ewb eff efb z hv ho =
    let front : wf ++ ff ≡ take a w ++ take b f = ap (λ x. x ++ ff) ewf ∙ ap (λ y. take a w ++ y) eff in
    let back : wb ++ fb ≡ drop a w ++ drop b f = ap (λ x. x ++ fb) ewb ∙ ap (λ y. drop a w ++ y) efb in
    word_is o (digits_value 10 (wf ++ ff) * 10 ^ (p - a - b)) (ho (digits_value 10 (wf ++ ff)) hv) ∙ ap (λ ds. in_word (Some (digits_value 10 ds * 10 ^ (p - a - b)))) front
    ∙ ap in_word (whole_yes p w f a b ea eb (ap (list_all is_zero_digit) (sym back) ∙ z))

pub no_whole_value : (p : ℕ) (w f : List ℕ) (a b : ℕ) (wb fb : List ℕ) → a ≡ min p (length w) → b ≡ min (p - a) (length f) → wb ≡ drop a w → fb ≡ drop b f → list_all is_zero_digit (wb ++ fb) ≡ false → None ≡ in_word (whole_part (w ++ f) p)
no_whole_value p w f a b wb fb ea eb ewb efb z =
    let back : wb ++ fb ≡ drop a w ++ drop b f = ap (λ x. x ++ fb) ewb ∙ ap (λ y. drop a w ++ y) efb in
    ap in_word (whole_no p w f a b ea eb (ap (list_all is_zero_digit) (sym back) ∙ z))

-- A point so far behind the digits that only 0 is a number of 64 bits.
abbrev zero_alone : ℕ → Option ℕ
zero_alone zero = Some 0
zero_alone (suc n) = None

huge : (v k : ℕ) → 20 ≤ k → in_word (Some (v * 10 ^ k)) ≡ zero_alone v
huge zero k h = let none : 0 * 10 ^ k ≡ 0 = omega arith in ap (λ n. in_word (Some n)) none
huge (suc v) k h = cond-false (nat_lt (suc v * 10 ^ k) (2 ^ 64)) _ _ (over (nat_lt (suc v * 10 ^ k) (2 ^ 64)) refl)
  where
    over : (b : Bool) → nat_lt (suc v * 10 ^ k) (2 ^ 64) ≡ b → nat_lt (suc v * 10 ^ k) (2 ^ 64) ≡ false
    over true e = absurd (power_large (suc v) k (λ z. omega arith) h (ltb-true _ _ e))
    over false e = e

far : (ds : List ℕ) (p : ℕ) → length ds + 20 ≤ p → in_word (whole_part ds p) ≡ zero_alone (digits_value 10 ds)
far ds p h =
    let tests : list_all is_zero_digit (drop p ds) ≡ true = ap (list_all is_zero_digit) (drop_all p ds (omega arith)) in
    ap in_word (cond-true _ _ _ tests ∙ ap (λ xs. Some (digits_value 10 xs * 10 ^ (p - length ds))) (take_all p ds (omega arith))) ∙ huge (digits_value 10 ds) (p - length ds) (omega arith)

pub far_point : (ds : List ℕ) (p : ℕ) → length ds < 2 ^ 63 → in_word (whole_part ds (min p (2 ^ 64 - 1))) ≡ in_word (whole_part ds p)
far_point ds p short = by_order (leb_tells p (2 ^ 64 - 1))
  where
    by_order : ((leb p (2 ^ 64 - 1) ≡ true) × (p ≤ 2 ^ 64 - 1)) ⊎ ((leb p (2 ^ 64 - 1) ≡ false) × (2 ^ 64 - 1 < p)) → in_word (whole_part ds (min p (2 ^ 64 - 1))) ≡ in_word (whole_part ds p)
    by_order (inl h) = let e : min p (2 ^ 64 - 1) ≡ p = omega arith in ap (λ n. in_word (whole_part ds n)) e
    by_order (inr h) = far ds (min p (2 ^ 64 - 1)) (omega arith) ∙ sym (far ds p (omega arith))

pub decimal_some : (w f : List ℕ) (x : Option ℤ) (point : ℕ) (r : Option ℕ) → length w + length f < 2 ^ 63 → Some point ≡ option_map (λ e. min (moved_point (length w) e) (2 ^ 64 - 1)) x → are_digits 10 (w ++ f) ≡ true → r ≡ in_word (whole_part (w ++ f) point) → r ≡ in_word (decimal_value w f x)
decimal_some w f None point r short e d h = absurd (let same : Some point ≡ None = e in cc)
decimal_some w f (Some x) point r short e d h =
    let same : point ≡ min (moved_point (length w) x) (2 ^ 64 - 1) = cc in
    h ∙ ap (λ n. in_word (whole_part (w ++ f) n)) same ∙ far_point (w ++ f) (moved_point (length w) x) (omega (arith, length-append w f)) ∙ ap in_word (sym (cond-true _ _ _ d))

pub decimal_parts : (text m w f : List ℕ) (b x : Option (List ℕ)) (r : Option ℕ) → m ≡ before_first is_exponent_mark text → x ≡ behind is_exponent_mark text → w ≡ before_first is_point m → b ≡ behind is_point m → f ≡ unwrap_or b [] → r ≡ in_word (decimal_value w f (exponent_of x)) → r ≡ in_word (decimal_of text)
unfolding decimal_of
decimal_parts text m w f b x r em ex ew eb ef h =
    let part : f ≡ unwrap_or (behind is_point (before_first is_exponent_mark text)) [] = ef ∙ ap (λ y. unwrap_or y []) (eb ∙ ap (behind is_point) em) in
    let whole : w ≡ before_first is_point (before_first is_exponent_mark text) = ew ∙ ap (before_first is_point) em in
    h ∙ ap (λ y. in_word (decimal_value w f (exponent_of y))) ex ∙ ap (λ y. in_word (decimal_value w y (exponent_of (behind is_exponent_mark text)))) part ∙ ap (λ y. in_word (decimal_value y (unwrap_or (behind is_point (before_first is_exponent_mark text)) []) (exponent_of (behind is_exponent_mark text)))) whole

minus : (n : ℕ) → pos 0 -ℤ pos n ≡ neg_ℤ (pos n)
minus n = omega (arith, ints)

pub base_marked : (base : ℕ) (text : List ℕ) → (base == 16 && has_hex_mark text) ≡ true → natural base (drop 2 text) ≡ digits_of_base base text
unfolding digits_of_base
base_marked base text e = sym (ap (natural base) (cond-true _ _ _ e))

pub base_plain : (base : ℕ) (text : List ℕ) → (base == 16 && has_hex_mark text) ≡ false → natural base text ≡ digits_of_base base text
unfolding digits_of_base
base_plain base text e = sym (ap (natural base) (cond-false _ _ _ e))

pub numeral_hex : (text : List ℕ) → has_hex_mark text ≡ true → natural 16 (drop 2 text) ≡ numeral_of text
unfolding numeral_of
numeral_hex text e = sym (cond-true _ _ _ e)

pub numeral_decimal : (text : List ℕ) → has_hex_mark text ≡ false → decimal_of text ≡ numeral_of text
unfolding numeral_of
numeral_decimal text e = sym (cond-false _ _ _ e)

pub numeral_read : (text : List ℕ) (r : Option ℤ) → r ≡ in_range (option_map (signed false) (numeral_of text)) → r ≡ read_numeral_of text
unfolding read_numeral_of
numeral_read text r e = e

signed_read : (read : List ℕ → Option ℕ) (t u : List ℕ) (m : Bool) (r : Option ℤ) → u ≡ unsigned t → m ≡ is_minus t → r ≡ in_range (option_map (signed m) (read u)) → r ≡ signed_value read t
signed_read read t u m r eu em e = e ∙ ap (λ x. in_range (option_map (signed m) (read x))) eu ∙ ap (λ b. in_range (option_map (signed b) (read (unsigned t)))) em

pub number_read : (text t u : List ℕ) (m : Bool) (r : Option ℤ) → t ≡ trim text → u ≡ unsigned t → m ≡ is_minus t → r ≡ in_range (option_map (signed m) (numeral_of u)) → r ≡ read_number_of text
unfolding read_number_of trimmed
number_read text t u m r et eu em e = signed_read numeral_of t u m r eu em e ∙ ap (signed_value numeral_of) et

pub base_ten : (text : List ℕ) (base : ℕ) → base ≡ 10 → read_number_of text ≡ read_in_base_of text base
unfolding read_in_base_of
base_ten text base e = sym (cond-true (base == 10) _ _ (ap (λ b. b == 10) e))

pub base_read : (base : ℕ) (text t u : List ℕ) (m : Bool) (r : Option ℤ) → (base ≡ 10 → ⊥) → t ≡ trim text → u ≡ unsigned t → m ≡ is_minus t → r ≡ in_range (option_map (signed m) (digits_of_base base u)) → r ≡ read_in_base_of text base
unfolding read_in_base_of trimmed
base_read base text t u m r other et eu em e =
    signed_read (digits_of_base base) t u m r eu em e ∙ ap (signed_value (digits_of_base base)) et ∙ sym (cond-false (base == 10) _ _ (by_test (base == 10) refl))
  where
    by_test : (b : Bool) → (base == 10) ≡ b → (base == 10) ≡ false
    by_test true h = absurd (other (eqb-true _ _ h))
    by_test false h = h
