-- The digits of a number read back.
use Rattle.std.proofs.Common.{◌≡◌, ℕ, suc, ◌+◌, ◌-◌, ◌*◌, ◌^◌, ◌<◌, Bool, true, false, List, [], ◌∷◌, length, take, drop, refl, ap, ◌∙◌, arith, append-nil, le_refl}
use Rattle.std.specs.Prelude.{ℤ, pos, negsuc, neg_ℤ, FitsSigned, Some, None, nat_lt, ◌==◌, ◌&&◌, ◌||◌, not, if◌then◌else◌, option_map, position, unwrap_or, reverse}
use Rattle.std.specs.Int.{w64}
use Rattle.std.specs.Char.{digit_value, is_ascii_digit}
use Rattle.std.specs.Fmt.{decimal, signed_decimal}
use Rattle.std.specs.List.{list_all, before_first, position_or_len}
use Rattle.std.specs.Str.{all_ascii_digits}
use Rattle.std.specs.Str.Parse.{digits_value}
use Rattle.std.proofs.lemmas.Bool.Decides.{nat_tests}
use Rattle.std.proofs.lemmas.Bool.{le-ltb, lt-ltb, cond-true, cond-false, and_parts, not-true}
use Rattle.std.proofs.lemmas.Fmt.{decimal_nonempty, digits_decimal, digits_value-decimal}
use Rattle.std.proofs.lemmas.List.{take_all, drop_all, reverse-append, reverse-reverse}
use Rattle.std.proofs.lemmas.List.Folds.{list_all-append}
use Rattle.wk_base.proofs.Numbers.{digits_model}
use Rattle.wk_base.specs.Space.{is_white, trim_start, trim_end, trim}
use Rattle.lua_number.specs.Whole.{fits}
use Rattle.lua_number.specs.Numerals.{in_range, behind, are_digits, is_minus, unsigned, signed, is_exponent_mark, is_point, is_zero_digit, exponent_of, whole_part, decimal_value, decimal_of, has_hex_mark, numeral_of, trimmed, signed_value, read_number_of}
use Rattle.lua_number.proofs.Operations.{does_fit}

and_no : (a b : Bool) → b ≡ false → (a && b) ≡ false
and_no true b e = e
and_no false b e = refl

times_one : (n : ℕ) → n * 1 ≡ n
times_one n = omega arith

-- What a digit is not.
digit_no_space : (c : ℕ) → is_ascii_digit c ≡ true → is_white c ≡ false
digit_no_space c h = grind (arith, nat_tests)

digit_no_mark : (c : ℕ) → is_ascii_digit c ≡ true → is_exponent_mark c ≡ false
digit_no_mark c h = grind (arith, nat_tests)

digit_no_point : (c : ℕ) → is_ascii_digit c ≡ true → is_point c ≡ false
digit_no_point c h = grind (arith, nat_tests)

digit_no_hex : (c : ℕ) → is_ascii_digit c ≡ true → (c == 120 || c == 88) ≡ false
digit_no_hex c h = grind (arith, nat_tests)

digit_no_minus : (c : ℕ) → is_ascii_digit c ≡ true → (c == 45) ≡ false
digit_no_minus c h = grind (arith, nat_tests)

digit_no_sign : (c : ℕ) → is_ascii_digit c ≡ true → (c == 45 || c == 43) ≡ false
digit_no_sign c h = grind (arith, nat_tests)

digit_below : (c : ℕ) → is_ascii_digit c ≡ true → nat_lt (digit_value c) 10 ≡ true
digit_below c h = grind (arith, nat_tests)

abbrev Digits : List ℕ → Type 0
Digits ds = all_ascii_digits ds ≡ true

first_is : (c : ℕ) (cs : List ℕ) → Digits (c ∷ cs) → is_ascii_digit c ≡ true
first_is c cs h = (and_parts _ _ h).0

rest_are : (c : ℕ) (cs : List ℕ) → Digits (c ∷ cs) → Digits cs
rest_are c cs h = (and_parts _ _ h).1

-- Where no byte passes, all stands before the first that does, and nothing behind it.
none_passes : (p : ℕ → Bool) → ((c : ℕ) → is_ascii_digit c ≡ true → p c ≡ false) → (ds : List ℕ) → Digits ds → position_or_len p ds ≡ length ds
none_passes p h [] d = refl
none_passes p h (c ∷ cs) d =
    cond-true (not (p c)) (1 + position_or_len p cs) 0 (ap not (h c (first_is c cs d))) ∙ ap (λ n. 1 + n) (none_passes p h cs (rest_are c cs d)) ∙ omega arith

before_all : (p : ℕ → Bool) → ((c : ℕ) → is_ascii_digit c ≡ true → p c ≡ false) → (ds : List ℕ) → Digits ds → before_first p ds ≡ ds
before_all p h ds d = ap (λ n. take n ds) (none_passes p h ds d) ∙ take_all (length ds) ds (le_refl _)

behind_none : (p : ℕ → Bool) → ((c : ℕ) → is_ascii_digit c ≡ true → p c ≡ false) → (ds : List ℕ) → Digits ds → behind p ds ≡ None
behind_none p h ds d =
    let none : position p ds ≡ None = cond-false (nat_lt (position_or_len p ds) (length ds)) (Some (position_or_len p ds)) None (ap (λ n. nat_lt n (length ds)) (none_passes p h ds d) ∙ le-ltb (length ds) (length ds) (le_refl _)) in
    ap (option_map (λ k. drop (k + 1) ds)) none

all_below : (ds : List ℕ) → Digits ds → list_all (λ c. nat_lt (digit_value c) 10) ds ≡ true
all_below [] d = refl
all_below (c ∷ cs) d = ap (λ b. b && list_all (λ x. nat_lt (digit_value x) 10) cs) (digit_below c (first_is c cs d)) ∙ all_below cs (rest_are c cs d)

digits_are : (ds : List ℕ) → Digits ds → 0 < length ds → are_digits 10 ds ≡ true
digits_are ds d h = ap (λ b. b && list_all (λ c. nat_lt (digit_value c) 10) ds) (lt-ltb 0 (length ds) h) ∙ all_below ds d

no_hex : (ds : List ℕ) → Digits ds → has_hex_mark ds ≡ false
no_hex [] d = refl
no_hex (c ∷ []) d = and_no (c == 48) _ refl
no_hex (c ∷ x ∷ xs) d = and_no (c == 48) _ (digit_no_hex x (first_is x xs (rest_are c (x ∷ xs) d)))

-- The digits as a numeral.
plain_decimal : (ds : List ℕ) → Digits ds → 0 < length ds → decimal_of ds ≡ Some (digits_value 10 ds)
unfolding decimal_of
plain_decimal ds d h =
    let mantissa : before_first is_exponent_mark ds ≡ ds = before_all is_exponent_mark digit_no_mark ds d in
    let same : length ds + 0 - length ds ≡ 0 = omega arith in
    let none : 10 ^ (length ds + 0 - length ds) ≡ 1 = ap (λ n. 10 ^ n) same in
    ap (λ m. decimal_value (before_first is_point m) (unwrap_or (behind is_point m) []) (exponent_of (behind is_exponent_mark ds))) mantissa
    ∙ ap (λ w. decimal_value w (unwrap_or (behind is_point ds) []) (exponent_of (behind is_exponent_mark ds))) (before_all is_point digit_no_point ds d)
    ∙ ap (λ f. decimal_value ds (unwrap_or f []) (exponent_of (behind is_exponent_mark ds))) (behind_none is_point digit_no_point ds d)
    ∙ ap (λ x. decimal_value ds [] (exponent_of x)) (behind_none is_exponent_mark digit_no_mark ds d)
    ∙ ap (λ xs. if are_digits 10 xs then whole_part xs (length ds + 0) else None) (append-nil ds)
    ∙ cond-true (are_digits 10 ds) _ _ (digits_are ds d h)
    ∙ cond-true (list_all is_zero_digit (drop (length ds + 0) ds)) _ _ (ap (list_all is_zero_digit) (drop_all (length ds + 0) ds (omega arith)))
    ∙ ap (λ xs. Some (digits_value 10 xs * 10 ^ (length ds + 0 - length ds))) (take_all (length ds + 0) ds (omega arith))
    ∙ ap (λ n. Some (digits_value 10 ds * n)) none
    ∙ ap Some (times_one (digits_value 10 ds))

plain_numeral : (ds : List ℕ) → Digits ds → 0 < length ds → numeral_of ds ≡ Some (digits_value 10 ds)
unfolding numeral_of
plain_numeral ds d h = cond-false (has_hex_mark ds) _ _ (no_hex ds d) ∙ plain_decimal ds d h

-- What has no white space is as it was once it is trimmed.
abbrev solid : List ℕ → Bool
solid = list_all (λ c. not (is_white c))

solid_reverse : (xs : List ℕ) → solid xs ≡ true → solid (reverse xs) ≡ true
solid_reverse [] s = refl
solid_reverse (c ∷ cs) s =
    let parts = and_parts (not (is_white c)) (solid cs) s in
    ap solid (reverse-append (c ∷ []) cs) ∙ list_all-append (λ b. not (is_white b)) (reverse cs) (c ∷ [])
    ∙ ap (λ b. b && (not (is_white c) && true)) (solid_reverse cs parts.1) ∙ ap (λ b. b && true) parts.0

solid_start : (xs : List ℕ) → solid xs ≡ true → trim_start xs ≡ xs
solid_start [] s = refl
solid_start (c ∷ cs) s = cond-false (is_white c) (trim_start cs) (c ∷ cs) (not-true _ (and_parts (not (is_white c)) (solid cs) s).0)

solid_trim : (xs : List ℕ) → solid xs ≡ true → trim xs ≡ xs
solid_trim xs s = ap trim_end (solid_start xs s) ∙ ap reverse (solid_start (reverse xs) (solid_reverse xs s)) ∙ reverse-reverse xs

-- Digits have no white space and no sign.
digits_solid : (ds : List ℕ) → Digits ds → solid ds ≡ true
digits_solid [] d = refl
digits_solid (c ∷ cs) d = ap (λ b. not b && solid cs) (digit_no_space c (first_is c cs d)) ∙ digits_solid cs (rest_are c cs d)

digits_trimmed : (ds : List ℕ) → Digits ds → trimmed ds ≡ ds
unfolding trimmed
digits_trimmed ds d = solid_trim ds (digits_solid ds d)

minus_trimmed : (ds : List ℕ) → Digits ds → trimmed (45 ∷ ds) ≡ 45 ∷ ds
unfolding trimmed
minus_trimmed ds d = solid_trim (45 ∷ ds) (digits_solid ds d)

digits_unsigned : (ds : List ℕ) → Digits ds → unsigned ds ≡ ds
digits_unsigned [] d = refl
digits_unsigned (c ∷ cs) d = cond-false (c == 45 || c == 43) cs (c ∷ cs) (digit_no_sign c (first_is c cs d))

digits_no_minus : (ds : List ℕ) → Digits ds → is_minus ds ≡ false
digits_no_minus [] d = refl
digits_no_minus (c ∷ cs) d = digit_no_minus c (first_is c cs d)

plain_number : (ds : List ℕ) → Digits ds → 0 < length ds → read_number_of ds ≡ in_range (Some (pos (digits_value 10 ds)))
unfolding read_number_of
plain_number ds d h =
    ap (signed_value numeral_of) (digits_trimmed ds d)
    ∙ ap (λ b. in_range (option_map (signed b) (numeral_of (unsigned ds)))) (digits_no_minus ds d)
    ∙ ap (λ xs. in_range (option_map (signed false) (numeral_of xs))) (digits_unsigned ds d)
    ∙ ap (λ n. in_range (option_map (signed false) n)) (plain_numeral ds d h)

minus_number : (ds : List ℕ) → Digits ds → 0 < length ds → read_number_of (45 ∷ ds) ≡ in_range (Some (neg_ℤ (pos (digits_value 10 ds))))
unfolding read_number_of
minus_number ds d h = ap (signed_value numeral_of) (minus_trimmed ds d) ∙ ap (λ n. in_range (option_map (signed true) n)) (plain_numeral ds d h)

pub read_printed : (n : ℤ) → FitsSigned w64 n → read_number_of (signed_decimal n) ≡ Some n
read_printed (pos n) f =
    let below : n < 2 ^ 64 = omega (arith, f.sfits) in
    plain_number (decimal n) (digits_decimal digits_model n below) (decimal_nonempty n below) ∙ ap (λ v. in_range (Some (pos v))) (digits_value-decimal digits_model n below) ∙ cond-true (fits (pos n)) _ _ (does_fit (pos n) f)
read_printed (negsuc n) f =
    let below : suc n < 2 ^ 64 = omega (arith, f.sfits) in
    minus_number (decimal (suc n)) (digits_decimal digits_model (suc n) below) (decimal_nonempty (suc n) below) ∙ ap (λ v. in_range (Some (neg_ℤ (pos v)))) (digits_value-decimal digits_model (suc n) below) ∙ cond-true (fits (negsuc n)) _ _ (does_fit (negsuc n) f)
