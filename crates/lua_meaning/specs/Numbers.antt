-- FUNCTIONS OF `math` (manual 5.6), over whole numbers of 64 bits. They cost nothing but their call.
use Rattle.std.specs.Prelude.{ℤ, List, [], ◌∷◌, Option, Result, Ok, Err, codes}
use Rattle.lua_format.specs.LuaNumberDeclaredArithmeticNumberFault.{NumberFault}
use Rattle.lua_format.specs.LuaNumberWhole.{power_of}
use Rattle.mw_text.specs.LuaStringWhole.{abs_of, fmod_of, max_of, min_of}
use Rattle.lua_walk.specs.LuaHeapValue.{Value, Number}
use Rattle.lua_walk.specs.LuaHeapHeap.{Heap}
use Rattle.lua_meaning.specs.Scope.{Bytes}
use Rattle.lua_meaning.specs.Values.{rest}
use Rattle.lua_meaning.specs.Messages.{bad_argument, expected, number_fault}
use Rattle.lua_meaning.specs.Arguments.{Plain, gives, fails, with_argument, some_value, a_number}
use Rattle.lua_meaning.specs.Checks.{numbers_from}

-- a number, or the message of its fault
abbrev pub gives_number : {X : Type 0} → Heap X → Result ℤ NumberFault → Plain X
gives_number h (Ok n) = gives h (Number n ∷ [])
gives_number h (Err e) = fails h (number_fault e)

-- of one number
abbrev pub of_number : {X : Type 0} → Bytes → (ℤ → Result ℤ NumberFault) → List Value → Heap X → Plain X
of_number function calculate args h = with_argument h (a_number 1 function args) (λ n. gives_number h (calculate n))

abbrev pub itself : ℤ → Result ℤ NumberFault
itself n = Ok n

-- `math.abs(n)`; `math.ceil(n)` and `math.floor(n)`, which are n
abbrev pub abs : {X : Type 0} → List Value → Heap X → Plain X
abs args h = of_number (codes "abs") abs_of args h

abbrev pub ceil : {X : Type 0} → List Value → Heap X → Plain X
ceil args h = of_number (codes "ceil") itself args h

abbrev pub floor : {X : Type 0} → List Value → Heap X → Plain X
floor args h = of_number (codes "floor") itself args h

-- of two numbers
abbrev pub of_two : {X : Type 0} → Bytes → (ℤ → ℤ → Result ℤ NumberFault) → List Value → Heap X → Plain X
of_two function calculate args h =
    with_argument h (a_number 1 function args) (λ a.
    with_argument h (a_number 2 function (rest args)) (λ b. gives_number h (calculate a b)))

-- `math.fmod(a, b)`; `math.pow(a, b)`, as a ^ b
abbrev pub fmod : {X : Type 0} → List Value → Heap X → Plain X
fmod args h = of_two (codes "fmod") fmod_of args h

abbrev pub pow : {X : Type 0} → List Value → Heap X → Plain X
pow args h = of_two (codes "pow") power_of args h

-- of all arguments, of which there must be one
abbrev pub of_all : {X : Type 0} → Bytes → (List ℤ → Option ℤ) → List Value → Heap X → Plain X
of_all function choose args h =
    with_argument h (numbers_from 1 function args) (λ ns.
    with_argument h (some_value (bad_argument 1 function (expected (codes "number") [])) (choose ns)) (λ n. gives h (Number n ∷ [])))

-- `math.max(..)`, `math.min(..)`
abbrev pub max : {X : Type 0} → List Value → Heap X → Plain X
max args h = of_all (codes "max") max_of args h

abbrev pub min : {X : Type 0} → List Value → Heap X → Plain X
min args h = of_all (codes "min") min_of args h
