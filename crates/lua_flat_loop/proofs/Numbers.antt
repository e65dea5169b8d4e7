-- The next index of a counting loop.
use Rattle.std.proofs.Common.{◌≡◌, ◌∙◌, Bool, true, false, refl, sym, ap}
use Rattle.std.specs.Prelude.{ℤ, ◌+ℤ◌, Ok, Err, if◌then◌else◌}
use Rattle.lua_number.specs.declared.arithmetic.NumberFault.TheVariants.{OutOfRange}
use Rattle.lua_number.specs.Whole.{fits, sum_of}
use Rattle.lua_code.specs.LuaMeaningLoops.{is_within}
use Rattle.lua_flat.specs.Does.{fits_within}

sum_by : (b : Bool) (z n : ℤ) → Ok n ≡ (if b then Ok z else Err OutOfRange) → (n ≡ z) × (b ≡ true)
sum_by true z n e = let q : n ≡ z = cc in (q, refl)
sum_by false z n e = absurd cc

pub goes_on : (index step limit n : ℤ) → Ok n ≡ sum_of index step → is_within n limit step ≡ true → (n ≡ index +ℤ step) × (fits_within (fits (index +ℤ step)) (is_within (index +ℤ step) limit step) ≡ true)
goes_on index step limit n e w =
    let s = sum_by (fits (index +ℤ step)) (index +ℤ step) n e in
    (s.0, ap (λ (b : Bool). fits_within b (is_within (index +ℤ step) limit step)) s.1 ∙ ap (λ (z : ℤ). is_within z limit step) (sym s.0) ∙ w)

pub is_over : (index step limit n : ℤ) → Ok n ≡ sum_of index step → is_within n limit step ≡ false → fits_within (fits (index +ℤ step)) (is_within (index +ℤ step) limit step) ≡ false
is_over index step limit n e w =
    let s = sum_by (fits (index +ℤ step)) (index +ℤ step) n e in
    ap (λ (b : Bool). fits_within b (is_within (index +ℤ step) limit step)) s.1 ∙ ap (λ (z : ℤ). is_within z limit step) (sym s.0) ∙ w
