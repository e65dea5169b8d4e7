-- Registers one after another.
use Rattle.std.proofs.Common.{◌≡◌, ◌∙◌, ℕ, suc, ◌-◌, ◌<◌, ◌≤◌, Bool, sym, ap, List, [], ◌∷◌, length, arith}
use Rattle.lua_cells.specs.declared.registers.Registers.{Registers}
use Rattle.lua_cells.specs.Registers.{newest_ended, closed}

-- the newest one ends
abbrev pub IsEnded : Registers → Registers → Type 0
IsEnded r s = s ≡ newest_ended 1 r.idle r.needed

closing_of : (n : ℕ) (bs : List Bool) (needed : Bool) → n < length bs → closed n (newest_ended 1 bs needed) ≡ newest_ended (length bs - n) bs needed
closing_of n [] needed h = absurd (omega (arith, h))
closing_of n (b ∷ bs) needed h = let next : suc (length bs) - n ≡ suc (length bs - n) = omega (arith, h) in sym (ap (λ k. newest_ended k (b ∷ bs) needed) next)

pub closing_step : (n : ℕ) (r s t : Registers) → closed n s ≡ closed n r → n < length s.idle → IsEnded s t → closed n t ≡ closed n r
closing_step n r s t so h e = ap (closed n) e ∙ closing_of n s.idle s.needed h ∙ so

pub closing_end : (n : ℕ) (r s : Registers) → closed n s ≡ closed n r → length s.idle ≤ n → s ≡ closed n r
closing_end n r s so h = let none : length s.idle - n ≡ 0 = omega (arith, h) in sym (ap (λ k. newest_ended k s.idle s.needed) none) ∙ so

fewer_of : (bs : List Bool) (needed : Bool) (n : ℕ) → n < length bs → length (newest_ended 1 bs needed).idle < length bs
fewer_of [] needed n h = absurd (omega (arith, h))
fewer_of (b ∷ bs) needed n h = omega arith

pub fewer : (n : ℕ) (s t : Registers) → n < length s.idle → IsEnded s t → length t.idle < length s.idle
fewer n s t h e = let less = fewer_of s.idle s.needed n h in let same : length t.idle ≡ length (newest_ended 1 s.idle s.needed).idle = ap (λ k. length k.idle) e in omega (arith, less, same)
