-- The steps of `decode`, the two ways of `truncate`, and both ends of `trim`.
use Rattle.std.proofs.Common.{◌≡◌, ℕ, zero, suc, ◌-◌, ◌<◌, ◌≤◌, Bool, true, false, true≢false, if◌then◌else◌, ℤ, pos, negsuc, unsigned_abs, List, [], ◌∷◌, ◌++◌, length, take, drop, reverse, chars, encode_utf8_all, IsUtf8, refl, sym, ap, ◌∙◌, arith, append_assoc}
use Rattle.std.specs.Prelude.{int_lt}
use Rattle.std.proofs.lemmas.Bool.{le-leb, lt-leb, ltb-true}
use Rattle.std.proofs.lemmas.List.{reverse-reverse}
use Rattle.std.proofs.lemmas.Str.{encodes-chars, encodes-append}
use Rattle.mw_text.specs.Decode.{head, decoded_behind, decoded}
use Rattle.mw_text.specs.Joined.{room, shortened, truncated}
use Rattle.mw_text.specs.Trim.{skipped, looked, trimmed, trim_tries}

-- ---- decode

behind_is : (n : ℕ) (bs : List ℕ) → decoded_behind n bs ≡ decoded (drop n bs)
behind_is zero bs = refl
behind_is (suc n) [] = refl
behind_is (suc n) (b ∷ bs) = behind_is n bs

pub decode_on : (b : ℕ) (behind rest made new after target : List ℕ) → rest ≡ b ∷ behind → new ≡ made ++ (head b behind).0 → after ≡ drop (head b behind).1 behind
    → made ++ decoded rest ≡ target → new ++ decoded after ≡ target
decode_on b behind rest made new after target e n a h =
    let p = head b behind in
    ap (λ t. t ++ decoded after) n ∙ append_assoc made p.0 (decoded after)
    ∙ ap (λ t. made ++ (p.0 ++ decoded t)) a ∙ ap (λ t. made ++ (p.0 ++ t)) (sym (behind_is p.1 behind)) ∙ ap (λ t. made ++ decoded t) (sym e) ∙ h

-- ---- truncate

pub copy_is : (s : List ℕ) → IsUtf8 s → s ≡ encode_utf8_all (chars s)
copy_is s u = sym (encodes-chars s u)

pub both_is : (a b : List ℕ) → IsUtf8 a → IsUtf8 b → a ++ b ≡ encode_utf8_all (chars a ++ chars b)
both_is a b ua ub = ap (λ t. t ++ b) (copy_is a ua) ∙ ap (λ t. encode_utf8_all (chars a) ++ t) (copy_is b ub) ∙ sym (encodes-append (chars a) (chars b))

pub both_made : (a b nothing one made : List ℕ) → nothing ≡ [] → one ≡ nothing ++ a → made ≡ one ++ b → made ≡ a ++ b
both_made a b nothing one made z o m = m ∙ ap (λ t. t ++ b) (o ∙ ap (λ t. t ++ a) z)

module _ (cs e : List ℕ) (adjust : Bool) (n : ℤ) where
  pub stays_whole : length cs ≤ unsigned_abs n → cs ≡ truncated cs n e adjust
  stays_whole le = ap (λ b. if b then cs else shortened cs e adjust n) (sym (le-leb _ _ le))

  cut : unsigned_abs n < length cs → shortened cs e adjust n ≡ truncated cs n e adjust
  cut lt = ap (λ b. if b then cs else shortened cs e adjust n) (sym (lt-leb _ _ lt))

  from_front : (k : ℤ) → int_lt k (pos 0) ≡ false → shortened cs e adjust k ≡ take (room adjust (unsigned_abs k) e) cs ++ e
  from_front (pos k) h = refl
  from_front (negsuc k) h = absurd (true≢false h)

  from_back : (k : ℤ) → int_lt k (pos 0) ≡ true → shortened cs e adjust k ≡ e ++ drop (length cs - room adjust (unsigned_abs k) e) cs
  from_back (pos k) h = absurd (omega (arith, ltb-true k 0 h))
  from_back (negsuc k) h = refl

  pub cut_front : (front : List ℕ) (kept : ℕ) → unsigned_abs n < length cs → int_lt n (pos 0) ≡ false → kept ≡ room adjust (unsigned_abs n) e
      → front ≡ take kept cs → front ++ e ≡ truncated cs n e adjust
  cut_front front kept lt h k f = ap (λ t. t ++ e) (f ∙ ap (λ x. take x cs) k) ∙ sym (from_front n h) ∙ cut lt

  pub cut_back : (back : List ℕ) (kept from count : ℕ) → unsigned_abs n < length cs → int_lt n (pos 0) ≡ true → kept ≡ room adjust (unsigned_abs n) e
      → count ≡ length cs → from ≡ count - kept → back ≡ drop from cs → e ++ back ≡ truncated cs n e adjust
  cut_back back kept from count lt h k c f b =
      ap (λ t. e ++ t) (b ∙ ap (λ x. drop x cs) (f ∙ ap (λ x. x - kept) c ∙ ap (λ x. length cs - x) k)) ∙ sym (from_back n h) ∙ cut lt

-- ---- trim

pub middle_is : (goes : ℕ → Bool) (budget left now : ℕ) (cs rest kept : List ℕ) → IsUtf8 kept
    → rest ≡ skipped goes cs → looked goes cs ≤ budget → left ≡ budget - looked goes cs
    → reverse (chars kept) ≡ skipped goes (reverse rest) → looked goes (reverse rest) ≤ left → now ≡ left - looked goes (reverse rest)
    → (kept ≡ encode_utf8_all (trimmed goes cs)) × (trim_tries goes cs ≤ budget) × (now ≡ budget - trim_tries goes cs)
middle_is goes budget left now cs rest kept u r l n s m k =
    let looks : looked goes (reverse rest) ≡ looked goes (reverse (skipped goes cs)) = ap (λ t. looked goes (reverse t)) r in
    let points : chars kept ≡ trimmed goes cs =
    sym (reverse-reverse (chars kept)) ∙ ap reverse (s ∙ ap (λ t. skipped goes (reverse t)) r) in
    (copy_is kept u ∙ ap encode_utf8_all points, omega (arith, looks, l, n, m), omega (arith, looks, l, n, m, k))
