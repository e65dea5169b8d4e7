-- Both alphabets are such.
use Rattle.std.proofs.Common.{◌≡◌, ℕ, zero, suc, ◌+◌, ◌<◌, ◌≤◌, true, false, cond, not, List, [], ◌∷◌, length, drop, refl, sym, ◌∙◌, ap, arith}
use Rattle.lua_pattern.specs.Letters.{Symbol, IsFirst, IsAlphabet}
use Rattle.bstr.specs.Utf8.{decoded, or_replacement}
use Rattle.lua_pattern.specs.Texts.{point_code, bytes, byte_symbols, points, goes_on, later_bytes, point, later_points, point_symbols, point_starts}

bytes_first : (text : List ℕ) (c : Symbol) (cs : List Symbol) → byte_symbols text ≡ c ∷ cs → IsFirst bytes text c cs
bytes_first [] c cs e = absurd (cc)
bytes_first (b ∷ bs) c cs e =
    let one : Symbol = record { code = b; size = 1 } in
    let h : one ≡ c = cc in
    let t : byte_symbols bs ≡ cs = cc in
    let s : c.size ≡ 1 = sym (ap (λ (d : Symbol). d.size) h) in
    record {
      some = omega (arith, s);
      within = omega (arith, s);
      rest = sym t ∙ ap (λ n. byte_symbols (drop n (b ∷ bs))) (sym s);
      inner = λ k lt gt. absurd (omega (arith, s, lt, gt));
      next = refl;
    }

pub bytes_lawful : IsAlphabet bytes
bytes_lawful = record { none = refl; first = bytes_first }

-- the symbols behind the bytes with which a code point goes on
pub later_are_points : (bs : List ℕ) → later_points bs ≡ point_symbols (drop (later_bytes bs) bs)
later_are_points [] = refl
later_are_points (b ∷ bs) =
    elim (goes_on b) as (λ v. cond v (later_points bs) (point b bs ∷ later_points bs) ≡ point_symbols (drop (cond v (suc (later_bytes bs)) 0) (b ∷ bs))) [
      | true ↦ later_are_points bs
      | false ↦ refl
    ]

later_fit : (bs : List ℕ) → later_bytes bs ≤ length bs
later_fit [] = omega arith
later_fit (b ∷ bs) =
    let h : later_bytes bs ≤ length bs = later_fit bs in
    elim (goes_on b) as (λ v. cond v (suc (later_bytes bs)) 0 ≤ suc (length bs)) [ true ↦ omega (arith, h) | false ↦ omega arith ]

later_start_none : (bs : List ℕ) (k : ℕ) → k < later_bytes bs → point_starts (drop k bs) ≡ false
later_start_none [] k lt = absurd (omega (arith, lt))
later_start_none (b ∷ bs) zero lt =
    elim (goes_on b) as (λ v. 0 < cond v (suc (later_bytes bs)) 0 → not v ≡ false) [
      | true ↦ λ h. refl
      | false ↦ λ h. absurd (omega (arith, h))
    ] lt
later_start_none (b ∷ bs) (suc k) lt =
    later_start_none bs k
    (elim (goes_on b) as (λ v. suc k < cond v (suc (later_bytes bs)) 0 → k < later_bytes bs) [
      | true ↦ λ h. omega (arith, h)
      | false ↦ λ h. absurd (omega (arith, h))
    ] lt)

later_end : (bs : List ℕ) → point_starts (drop (later_bytes bs) bs) ≡ true
later_end [] = refl
later_end (b ∷ bs) =
    elim (goes_on b) as (λ v. goes_on b ≡ v → point_starts (drop (cond v (suc (later_bytes bs)) 0) (b ∷ bs)) ≡ true) [
      | true ↦ λ h. later_end bs
      | false ↦ λ h. ap not h
    ] refl

inside : (b : ℕ) (bs : List ℕ) (k : ℕ) → 0 < k → k < suc (later_bytes bs) → point_starts (drop k (b ∷ bs)) ≡ false
inside b bs zero lt gt = absurd (omega (arith, lt))
inside b bs (suc k) lt gt = later_start_none bs k (omega (arith, gt))

points_first : (text : List ℕ) (c : Symbol) (cs : List Symbol) → point_symbols text ≡ c ∷ cs → IsFirst points text c cs
points_first [] c cs e = absurd (cc)
points_first (b ∷ bs) c cs e =
    let h : point b bs ≡ c = cc in
    let t : later_points bs ≡ cs = cc in
    let s : c.size ≡ suc (later_bytes bs) = sym (ap (λ (d : Symbol). d.size) h) in
    let f : later_bytes bs ≤ length bs = later_fit bs in
    record {
      some = omega (arith, s);
      within = omega (arith, s, f);
      rest = sym t ∙ later_are_points bs ∙ ap (λ n. point_symbols (drop n (b ∷ bs))) (sym s);
      inner = λ k lt gt. inside b bs k lt (omega (arith, s, gt));
      next = ap (λ n. point_starts (drop n (b ∷ bs))) s ∙ later_end bs;
    }

pub points_lawful : IsAlphabet points
points_lawful = record { none = refl; first = points_first }

-- the first code point, cut off
pub point_cut : (text : List ℕ) (c w : ℕ) → 0 < length text → c ≡ or_replacement (decoded text).char → w ≡ 1 + later_bytes (drop 1 text) →
    point_symbols text ≡ record { code = c; size = w } ∷ point_symbols (drop w text)
unfolding point_code
point_cut [] c w lt ec ew = absurd (omega (arith, lt))
point_cut (b ∷ bs) c w lt ec ew =
    let s : suc (later_bytes bs) ≡ w = omega (arith, ew) in
    ap (λ cs. point b bs ∷ cs) (later_are_points bs)
    ∙ ap (λ d. record { code = d; size = suc (later_bytes bs) } ∷ point_symbols (drop (suc (later_bytes bs)) (b ∷ bs))) (sym ec)
    ∙ ap (λ n. record { code = c; size = n } ∷ point_symbols (drop n (b ∷ bs))) s
