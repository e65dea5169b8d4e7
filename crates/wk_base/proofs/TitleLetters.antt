-- What a name keeps when its first letter becomes a capital.
use Rattle.std.proofs.Common.{◌≡◌, ℕ, zero, suc, ◌+◌, ◌-◌, ◌<◌, ◌≤◌, ◌==◌, Bool, false, cond, nat_lt, nat_le, List, [], ◌∷◌, ◌++◌, ◌⊎◌, inl, inr, IsUtf8, refl, sym, ap, subst, ◌∙◌, arith}
use Rattle.std.proofs.lemmas.Bool.{cond_both, cond-true, cond-false, or_from, or_parts, and_right, ne_eqb, eqb-true, lt-ltb, le-ltb, lt-leb, ltb-true, ltb-false, not-false, not_from_true, false_from_ne_true}
use Rattle.std.proofs.lemmas.Str.{IsUtf8-from_is_utf8, is_utf8-from_IsUtf8, IsUtf8-append, IsUtf8-from_ascii, IsUtf8-past_char, encode_ascii}
use Rattle.std.specs.Char.{to_ascii_uppercase, to_ascii_lowercase}
use Rattle.std.specs.Str.{str_to_ascii_lowercase, bytes_eq, IsAscii}
use Rattle.std.specs.Prelude.{find}
use Rattle.wk_base.specs.Space.{is_white}
use Rattle.wk_base.specs.Titles.{is_forbidden, is_bad, as_space, with_capital, namespace_named, prefixed_namespaces, prefix_of}

letter_cases : (c : ℕ) → (to_ascii_uppercase c ≡ c) ⊎ ((97 ≤ c) × (c < 123) × (to_ascii_uppercase c ≡ c - 32))
letter_cases c =
    cond_both (nat_lt c 97) c (cond (nat_lt c 123) (c - 32) c) (λ u. (u ≡ c) ⊎ ((97 ≤ c) × (c < 123) × (u ≡ c - 32)))
    (λ _. inl refl)
    (λ low. cond_both (nat_lt c 123) (c - 32) c (λ u. (u ≡ c) ⊎ ((97 ≤ c) × (c < 123) × (u ≡ c - 32)))
    (λ high. inr (ltb-false c 97 low, ltb-true c 123 high, refl)) (λ _. inl refl))

-- What holds of a byte and of every capital holds of the byte's capital.
capital_keeps : (f : ℕ → Bool) (c : ℕ) → ((u : ℕ) → 65 ≤ u → u < 91 → f u ≡ false) → f c ≡ false → f (to_ascii_uppercase c) ≡ false
capital_keeps f c capitals here = go (letter_cases c)
  where
    go : (to_ascii_uppercase c ≡ c) ⊎ ((97 ≤ c) × (c < 123) × (to_ascii_uppercase c ≡ c - 32)) → f (to_ascii_uppercase c) ≡ false
    go (inl same) = subst (λ (u : ℕ). f u ≡ false) (sym same) here
    go (inr (low, high, e)) = subst (λ (u : ℕ). f u ≡ false) (sym e) (capitals (c - 32) (omega arith) (omega arith))

pub white_capital : (c : ℕ) → is_white c ≡ false → is_white (to_ascii_uppercase c) ≡ false
white_capital c =
    capital_keeps is_white c
    (λ u low high. or_from _ _ (ne_eqb u 32 (λ e. omega arith)) (and_right (nat_le 9 u) (nat_le u 13) (lt-leb u 13 (omega arith))))

pub colon_capital : (c : ℕ) → (c == 58) ≡ false → (to_ascii_uppercase c == 58) ≡ false
colon_capital c = capital_keeps (λ u. u == 58) c (λ u low high. ne_eqb u 58 (λ e. omega arith))

forbidden_capital : (c : ℕ) → is_forbidden c ≡ false → is_forbidden (to_ascii_uppercase c) ≡ false
forbidden_capital c =
    capital_keeps is_forbidden c
    (λ u low high. or_from _ _ (or_from _ _ (le-ltb u 32 (omega arith)) (ne_eqb u 127 (λ e. omega arith)))
    (or_from _ _ (ne_eqb u 35 (λ e. omega arith)) (or_from _ _ (ne_eqb u 60 (λ e. omega arith))
    (or_from _ _ (ne_eqb u 62 (λ e. omega arith)) (or_from _ _ (ne_eqb u 91 (λ e. omega arith))
    (or_from _ _ (ne_eqb u 93 (λ e. omega arith)) (or_from _ _ (ne_eqb u 123 (λ e. omega arith))
    (or_from _ _ (ne_eqb u 124 (λ e. omega arith)) (or_from _ _ (ne_eqb u 125 (λ e. omega arith)) refl)))))))))

pub plain_capital : (c : ℕ) → as_space c ≡ c → as_space (to_ascii_uppercase c) ≡ to_ascii_uppercase c
plain_capital c plain =
    let other : (c == 95) ≡ false =
    false_from_ne_true (c == 95) (λ e. omega (arith, eqb-true c 95 e, sym (cond-true (c == 95) 32 c e) ∙ plain)) in
    cond-false _ _ _ (capital_keeps (λ u. u == 95) c (λ u low high. ne_eqb u 95 (λ e. omega arith)) other)

pub capital_twice : (c : ℕ) → to_ascii_uppercase (to_ascii_uppercase c) ≡ to_ascii_uppercase c
capital_twice c = go (letter_cases c)
  where
    go : (to_ascii_uppercase c ≡ c) ⊎ ((97 ≤ c) × (c < 123) × (to_ascii_uppercase c ≡ c - 32))
        → to_ascii_uppercase (to_ascii_uppercase c) ≡ to_ascii_uppercase c
    go (inl same) = ap to_ascii_uppercase same
    go (inr (low, high, e)) = ap to_ascii_uppercase e ∙ cond-true _ _ _ (lt-ltb (c - 32) 97 (omega arith)) ∙ sym e

lower_capital : (c : ℕ) → to_ascii_lowercase (to_ascii_uppercase c) ≡ to_ascii_lowercase c
lower_capital c = go (letter_cases c)
  where
    go : (to_ascii_uppercase c ≡ c) ⊎ ((97 ≤ c) × (c < 123) × (to_ascii_uppercase c ≡ c - 32))
        → to_ascii_lowercase (to_ascii_uppercase c) ≡ to_ascii_lowercase c
    go (inl same) = ap to_ascii_lowercase same
    go (inr (low, high, e)) =
        let back : c - 32 + 32 ≡ c = omega arith in
        ap to_ascii_lowercase e
        ∙ cond-false _ _ _ (le-ltb (c - 32) 65 (omega arith)) ∙ cond-true _ _ _ (lt-ltb (c - 32) 91 (omega arith)) ∙ back
        ∙ sym (cond-false _ _ _ (le-ltb c 65 (omega arith)) ∙ cond-false _ _ _ (le-ltb c 91 (omega arith)))

ascii_one : (u : ℕ) → u < 128 → IsAscii (u ∷ [])
ascii_one u small zero = small
ascii_one u small (suc i) = omega arith

utf8_capital : (c : ℕ) (cs : List ℕ) → IsUtf8 (c ∷ cs) → IsUtf8 (to_ascii_uppercase c ∷ cs)
utf8_capital c cs text = go (letter_cases c)
  where
    go : (to_ascii_uppercase c ≡ c) ⊎ ((97 ≤ c) × (c < 123) × (to_ascii_uppercase c ≡ c - 32)) → IsUtf8 (to_ascii_uppercase c ∷ cs)
    go (inl same) = subst (λ (u : ℕ). IsUtf8 (u ∷ cs)) (sym same) text
    go (inr (low, high, e)) =
        let small : c < 128 = omega arith in
        let rest = IsUtf8-past_char (c ∷ cs) cs c text (sym (ap (λ (t : List ℕ). t ++ cs) (encode_ascii c small))) in
        subst (λ (u : ℕ). IsUtf8 (u ∷ cs)) (sym e)
        (IsUtf8-append ((c - 32) ∷ []) cs (IsUtf8-from_ascii ((c - 32) ∷ []) (ascii_one (c - 32) (omega arith))) rest)

pub bad_capital : (name : List ℕ) → is_bad name ≡ false → is_bad (with_capital name) ≡ false
bad_capital [] good = good
bad_capital (c ∷ cs) good =
    let all = or_parts _ _ good in
    let front = or_parts _ _ all.0 in
    let rest = or_parts _ _ all.1 in
    let text = IsUtf8-from_is_utf8 (c ∷ cs) (not-false _ front.0) in
    or_from _ _
    (or_from _ _ (not_from_true _ (is_utf8-from_IsUtf8 (to_ascii_uppercase c ∷ cs) (utf8_capital c cs text))) (colon_capital c front.1))
    (or_from _ _ (forbidden_capital c rest.0) rest.1)

pub named_capital : (c : ℕ) (cs : List ℕ) → namespace_named (to_ascii_uppercase c ∷ cs) ≡ namespace_named (c ∷ cs)
unfolding namespace_named
named_capital c cs =
    ap (λ (l : List ℕ). find (λ ns. bytes_eq l (str_to_ascii_lowercase (prefix_of ns))) prefixed_namespaces)
    (ap (λ (u : ℕ). u ∷ str_to_ascii_lowercase cs) (lower_capital c))
