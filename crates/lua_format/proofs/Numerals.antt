-- Digits that are written from the last one on.
use Rattle.std.proofs.Common.{◌≡◌, ℕ, zero, suc, ◌+◌, ◌-◌, ◌*◌, ◌/◌, ◌%◌, ◌^◌, ◌<◌, ◌≤◌, ◌==◌, Bool, true, false, if◌then◌else◌, List, [], ◌∷◌, ◌++◌, length, drop, slice_set, replicate, refl, sym, ap, ◌∙◌, arith, append_assoc}
use Rattle.std.proofs.lemmas.List.{drop_all}
use Rattle.std.proofs.lemmas.Bool.{eqb-false}
use Rattle.std.proofs.Math.Nat.{div-lt_iff_lt-mul, pow-succ'}
use Rattle.std.specs.Fmt.{digits, digits_onto, digit_glyph}
use Rattle.lua_format.specs.Written.{written}

drop_set : (bytes : List ℕ) (i g : ℕ) → i < length bytes → drop i (slice_set bytes i g) ≡ g ∷ drop (suc i) bytes
drop_set [] i g lt = absurd (omega (arith, lt))
drop_set (b ∷ bs) zero g lt = refl
drop_set (b ∷ bs) (suc i) g lt = drop_set bs i g (omega (arith, lt))

pub digits_begin : (bytes : List ℕ) (n base : ℕ) (upper : Bool) → length bytes ≡ 24 → written 24 base upper n (drop 24 bytes) ≡ digits base upper n
unfolding written digits
digits_begin bytes n base upper e = ap (digits_onto 64 base upper n) (drop_all 24 bytes (omega (arith, e)))

-- one digit more: it is the first, or there are others before it
digit_more : (bytes : List ℕ) (start base left : ℕ) (upper : Bool) → 0 < start → written start base upper left (drop start bytes)
    ≡ (if left / base == 0 then digit_glyph upper (left % base) ∷ drop start bytes else written (start - 1) base upper (left / base) (digit_glyph upper (left % base) ∷ drop start bytes))
unfolding written
digit_more bytes start base left upper lt =
    let e : start + 40 ≡ suc (start - 1 + 40) = omega (arith, lt) in ap (λ k. digits_onto k base upper left (drop start bytes)) e

stands : (bytes : List ℕ) (start g : ℕ) → 0 < start → start ≤ length bytes → drop (start - 1) (slice_set bytes (start - 1) g) ≡ g ∷ drop start bytes
stands bytes start g lt le =
    let e : suc (start - 1) ≡ start = omega (arith, lt) in drop_set bytes (start - 1) g (omega (arith, lt, le)) ∙ ap (λ k. g ∷ drop k bytes) e

pub digits_end : (bytes : List ℕ) (start base left g n : ℕ) (upper : Bool) → length bytes ≡ 24 → 3 ≤ start → start ≤ 24 → g ≡ digit_glyph upper (left % base) → (left / base == 0) ≡ true
    → written start base upper left (drop start bytes) ≡ digits base upper n → drop (start - 1) (slice_set bytes (start - 1) g) ≡ digits base upper n
digits_end bytes start base left g n upper el low high eg z is =
    stands bytes start g (omega (arith, low)) (omega (arith, high, el)) ∙ ap (λ d. d ∷ drop start bytes) eg
    ∙ ap (λ b. if b then digit_glyph upper (left % base) ∷ drop start bytes else written (start - 1) base upper (left / base) (digit_glyph upper (left % base) ∷ drop start bytes)) (sym z)
    ∙ sym (digit_more bytes start base left upper (omega (arith, low))) ∙ is

pub digits_go_on : (bytes : List ℕ) (start base left g n : ℕ) (upper : Bool) → length bytes ≡ 24 → 3 ≤ start → start ≤ 24 → g ≡ digit_glyph upper (left % base) → (left / base == 0) ≡ false
    → written start base upper left (drop start bytes) ≡ digits base upper n
    → written (start - 1) base upper (left / base) (drop (start - 1) (slice_set bytes (start - 1) g)) ≡ digits base upper n
digits_go_on bytes start base left g n upper el low high eg z is =
    ap (written (start - 1) base upper (left / base)) (stands bytes start g (omega (arith, low)) (omega (arith, high, el)) ∙ ap (λ d. d ∷ drop start bytes) eg)
    ∙ ap (λ b. if b then digit_glyph upper (left % base) ∷ drop start bytes else written (start - 1) base upper (left / base) (digit_glyph upper (left % base) ∷ drop start bytes)) (sym z)
    ∙ sym (digit_more bytes start base left upper (omega (arith, low))) ∙ is

-- what is left fits before what is written
pub digits_fit : (start base left : ℕ) → 3 ≤ start → 8 ≤ base → left < 8 ^ (start - 2) → left / base < 8 ^ (start - 1 - 2)
digits_fit start base left low ge lt =
    let k : ℕ = start - 1 - 2 in
    let e : start - 2 ≡ suc k = omega (arith, low) in
    let p : 8 ^ (start - 2) ≡ 8 * 8 ^ k = ap (λ m. 8 ^ m) e ∙ pow-succ' 8 k in
    let wide : 8 * 8 ^ k ≤ base * 8 ^ k = grind (arith, ge) in
    (div-lt_iff_lt-mul {k = base} {x = left} {y = 8 ^ k} (omega (arith, ge))).1 (omega (arith, lt, p, wide))

pub digits_room : (start m : ℕ) → 3 ≤ start → m < 8 ^ (start - 1 - 2) → (m == 0) ≡ false → 3 ≤ start - 1
digits_room (suc (suc (suc zero))) m low lt z = absurd (eqb-false m 0 z (omega (arith, lt)))
digits_room (suc (suc (suc (suc n)))) m low lt z = omega arith
digits_room (suc (suc zero)) m low lt z = absurd (omega (arith, low))
digits_room (suc zero) m low lt z = absurd (omega (arith, low))
digits_room zero m low lt z = absurd (omega (arith, low))

-- one copy more
pub copy_more : (made new whole : List ℕ) (b count turn : ℕ) → new ≡ made ++ b ∷ [] → turn < count → made ++ replicate (count - turn) b ≡ whole
    → new ++ replicate (count - (turn + 1)) b ≡ whole
copy_more made new whole b count turn e lt is =
    let k : suc (count - (turn + 1)) ≡ count - turn = omega (arith, lt) in
    ap (λ l. l ++ replicate (count - (turn + 1)) b) e ∙ append_assoc made (b ∷ []) (replicate (count - (turn + 1)) b)
    ∙ ap (λ n. made ++ replicate n b) k ∙ is
