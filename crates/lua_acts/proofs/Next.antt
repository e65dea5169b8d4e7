-- The next place of a walk by `ipairs`, and its value.
use Rattle.std.proofs.Common.{◌≡◌, ◌∙◌, Bool, true, false, refl, sym, ap, [], ◌∷◌}
use Rattle.std.specs.Prelude.{ℤ, pos, ◌+ℤ◌, Result, Ok, Err, if◌then◌else◌}
use Rattle.lua_number.specs.declared.arithmetic.NumberFault.{NumberFault}
use Rattle.lua_number.specs.declared.arithmetic.NumberFault.TheVariants.{OutOfRange}
use Rattle.lua_number.specs.Whole.{fits, sum_of}
use Rattle.lua_code.specs.LuaHeapValue.{Value, Nil, Truth, Number, Text, Table, Closure, Builtin, Markup, is_nil}
use Rattle.lua_code.specs.LuaSlotsCallBacks.{place_and_value}
use Rattle.lua_state.specs.LuaSlotsErrors.{choose}
use Rattle.lua_state.specs.LuaSlotsPoints.{Move}

pub no_value : (n : ℤ) (v : Value) → true ≡ is_nil v → place_and_value n v ≡ Nil ∷ []
no_value n Nil e = refl
no_value n (Truth b) e = absurd cc
no_value n (Number m) e = absurd cc
no_value n (Text t) e = absurd cc
no_value n (Table t) e = absurd cc
no_value n (Closure c) e = absurd cc
no_value n (Builtin b) e = absurd cc
no_value n (Markup m) e = absurd cc

pub some_value : (n : ℤ) (v : Value) → false ≡ is_nil v → place_and_value n v ≡ Number n ∷ v ∷ []
some_value n Nil e = absurd cc
some_value n (Truth b) e = refl
some_value n (Number m) e = refl
some_value n (Text t) e = refl
some_value n (Table t) e = refl
some_value n (Closure c) e = refl
some_value n (Builtin b) e = refl
some_value n (Markup m) e = refl

-- the number of the next place, where it is in range; `i` is the place as a call tells it
ok_same : (x y : ℤ) → let left : Result ℤ NumberFault = Ok x in left ≡ Ok y → x ≡ y
ok_same x y e = cc

by_range : (t : Bool) (z n : ℤ) (f : ℤ → Move) (b : Move) → (if t then Ok z else Err OutOfRange) ≡ Ok n → choose t (f z) b ≡ f n
by_range true z n f b e = ap f (ok_same z n e)
by_range false z n f b e = absurd cc

beyond : (t : Bool) (z : ℤ) (a b : Move) (fault : NumberFault) → (if t then Ok z else Err OutOfRange) ≡ Err fault → choose t a b ≡ b
beyond true z a b fault e = absurd cc
beyond false z a b fault e = refl

pub in_range : (place n i : ℤ) (r : Result ℤ NumberFault) (f : ℤ → Move) (b : Move) → i ≡ place → r ≡ sum_of i (pos 1) → r ≡ Ok n → choose (fits (place +ℤ pos 1)) (f (place +ℤ pos 1)) b ≡ f n
in_range place n i r f b p e w = by_range (fits (place +ℤ pos 1)) (place +ℤ pos 1) n f b (ap (λ z. sum_of z (pos 1)) (sym p) ∙ sym e ∙ w)

pub out_of_range : (place i : ℤ) (r : Result ℤ NumberFault) (a b : Move) (fault : NumberFault) → i ≡ place → r ≡ sum_of i (pos 1) → r ≡ Err fault → choose (fits (place +ℤ pos 1)) a b ≡ b
out_of_range place i r a b fault p e w = beyond (fits (place +ℤ pos 1)) (place +ℤ pos 1) a b fault (ap (λ z. sum_of z (pos 1)) (sym p) ∙ sym e ∙ w)
