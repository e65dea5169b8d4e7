-- A generic loop is over where its iterator's first result is nil, and a counting loop where its next index is out of range.
use Rattle.std.proofs.Common.{◌≡◌, ◌∙◌, ℕ, List, Bool, true, false, refl, sym, ap}
use Rattle.std.specs.Prelude.{ℤ, ◌+ℤ◌, Result, Ok, Err, if◌then◌else◌}
use Rattle.lua_number.specs.declared.arithmetic.NumberFault.{NumberFault}
use Rattle.lua_number.specs.declared.arithmetic.NumberFault.TheVariants.{OutOfRange}
use Rattle.lua_number.specs.Whole.{fits, sum_of}
use Rattle.lua_code.specs.LuaHeapValue.{is_nil}
use Rattle.lua_code.specs.LuaMeaningValues.{first}
use Rattle.lua_basic.specs.LuaStoreDeclaredValueValue.{Value}
use Rattle.lua_basic.specs.LuaStoreSeen.{seen}
use Rattle.lua_stack.specs.LuaSlotsPoints.{Move}
use Rattle.lua_stack.specs.LuaSlotsErrors.{choose}
use Rattle.lua_stack.specs.Lists.{first_stored}
use Rattle.lua_stack.specs.Seen.{values_seen}
use Rattle.lua_stack.proofs.Openings.{first_seen}

pub over : (texts : List (List ℕ)) (vs : List Value) (v : Value) (a b : Move) → v ≡ first_stored vs → true ≡ is_nil (seen texts v) → choose (is_nil (first (values_seen texts vs))) a b ≡ a
over texts vs v a b e t = ap (λ z. choose (is_nil z) a b) (sym (ap (seen texts) e ∙ first_seen texts vs)) ∙ ap (λ z. choose z a b) (sym t)

-- the next index of a counting loop, where it is in range, and where it isn't
ok_same : (x y : ℤ) → let left : Result ℤ NumberFault = Ok x in left ≡ Ok y → x ≡ y
ok_same x y e = cc

in_range : (t : Bool) (z n : ℤ) (f : ℤ → Move) (b m : Move) → (if t then Ok z else Err OutOfRange) ≡ Ok n → f n ≡ m → choose t (f z) b ≡ m
in_range true z n f b m e w = ap f (ok_same z n e) ∙ w
in_range false z n f b m e w = absurd cc

out_of_range : (t : Bool) (z : ℤ) (a b : Move) (fault : NumberFault) → (if t then Ok z else Err OutOfRange) ≡ Err fault → choose t a b ≡ b
out_of_range true z a b fault e = absurd cc
out_of_range false z a b fault e = refl

-- the numbers as a call tells them (`i`, `l`, `t`, `m`) are the numbers that they are
pub counted : (index limit step n i l t m : ℤ) (r : Result ℤ NumberFault) (from : ℤ → ℤ → ℤ → Move) (b mv : Move) → i ≡ index → l ≡ limit → t ≡ step → m ≡ n
    → r ≡ sum_of i t → r ≡ Ok n → from m l t ≡ mv → choose (fits (index +ℤ step)) (from (index +ℤ step) limit step) b ≡ mv
counted index limit step n i l t m r from b mv p q u v e w h =
    in_range (fits (index +ℤ step)) (index +ℤ step) n (λ z. from z limit step) b mv (ap (λ z. sum_of z step) (sym p) ∙ ap (λ z. sum_of i z) (sym u) ∙ sym e ∙ w)
    (ap (λ z. from z limit step) (sym v) ∙ ap (λ z. from m z step) (sym q) ∙ ap (λ z. from m l z) (sym u) ∙ h)

pub over_count : (index step i t : ℤ) (r : Result ℤ NumberFault) (a b mv : Move) (fault : NumberFault) → i ≡ index → t ≡ step → r ≡ sum_of i t → r ≡ Err fault → b ≡ mv → choose (fits (index +ℤ step)) a b ≡ mv
over_count index step i t r a b mv fault p u e w h =
    out_of_range (fits (index +ℤ step)) (index +ℤ step) a b fault (ap (λ z. sum_of z step) (sym p) ∙ ap (λ z. sum_of i z) (sym u) ∙ sym e ∙ w) ∙ h
