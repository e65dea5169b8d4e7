-- What `parse` reads as a number, and the number that a text is.
use Rattle.std.proofs.Common.{◌≡◌, ℕ, ◌<◌, ◌≤◌, ◌^◌, Bool, true, false, List, length, refl, arith, ◌&&◌, nat_lt, nat_le, if◌then◌else◌}
use Rattle.std.specs.Prelude.{Some, None}
use Rattle.std.specs.Bool.{then_some}
use Rattle.std.specs.Option.{option_and_then}
use Rattle.std.specs.Str.{all_ascii_digits}
use Rattle.std.specs.Str.Parse.{digits_value, without_leading_plus, IsNumeral}
use Rattle.std.proofs.lemmas.Bool.{and_parts, lt-leb, ltb-true}
use Rattle.wk_base.proofs.Numbers.{digits_model}
use Rattle.wiki_words.specs.Command.{number_between, between}

is_more : (ds : List ℕ) → 0 < length ds → nat_lt 0 (length ds) ≡ true
is_more ds some = grind arith

-- a text that parses
pub parsed : (least most : ℕ) (text : List ℕ) → IsNumeral 10 (without_leading_plus text) → between least most (digits_value 10 (without_leading_plus text)) ≡ number_between least most text
parsed least most text numeral =
    let digits : all_ascii_digits (without_leading_plus text) ≡ true = digits_model.from _ numeral.1 in
    rw (is_more _ numeral.0, digits) refl

beyond : (least most n : ℕ) → nat_le n most ≡ false → None ≡ between least most n
beyond least most n e = go (nat_le least n) (nat_le n most) e
  where
    go : (a b : Bool) → b ≡ false → None ≡ then_some (a && b) n
    go false b e = refl
    go true b e = rw e refl

-- a text that doesn't: it is no number, or one that is too great
pub unparsed : (least most : ℕ) (text : List ℕ) → most < 2 ^ 64 → (IsNumeral 10 (without_leading_plus text) × (digits_value 10 (without_leading_plus text) < 2 ^ 64) → ⊥) → None ≡ number_between least most text
unparsed least most text small not = go (without_leading_plus text) (nat_lt 0 (length (without_leading_plus text)) && all_ascii_digits (without_leading_plus text)) refl not
  where
    go : (ds : List ℕ) (given : Bool) → (nat_lt 0 (length ds) && all_ascii_digits ds) ≡ given → (IsNumeral 10 ds × (digits_value 10 ds < 2 ^ 64) → ⊥) → None ≡ option_and_then (between least most) (if given then Some (digits_value 10 ds) else None)
    go ds false e h = refl
    go ds true e h =
        let digits : all_ascii_digits ds ≡ true = (and_parts (nat_lt 0 (length ds)) (all_ascii_digits ds) e).1 in
        let some : 0 < length ds = ltb-true 0 (length ds) (and_parts (nat_lt 0 (length ds)) (all_ascii_digits ds) e).0 in
        let great : 2 ^ 64 ≤ digits_value 10 ds = omega (arith, λ (l : digits_value 10 ds < 2 ^ 64). h ((some, digits_model.to ds digits), l)) in
        beyond least most (digits_value 10 ds) (lt-leb (digits_value 10 ds) most (omega (arith, great, small)))
