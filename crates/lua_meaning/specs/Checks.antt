-- CHECKS OF ARGUMENTS (manual 5) beside those of `Arguments`: the fourth one, texts that may be left out, numbers from 0 to 255, and all
-- arguments as numbers.
use Rattle.std.specs.Prelude.{ℕ, ◌+◌, ℤ, unsigned_abs, List, [], ◌∷◌, ◌++◌, Ok, Err, if◌then◌else◌, codes, decimal}
use Rattle.mw_text.specs.LuaStringTexts.{is_code}
use Rattle.lua_walk.specs.LuaHeapValue.{Value, Nil}
use Rattle.lua_meaning.specs.Scope.{Bytes}
use Rattle.lua_meaning.specs.Values.{rest, third}
use Rattle.lua_meaning.specs.Messages.{bad_argument, expected}
use Rattle.lua_meaning.specs.Arguments.{Argument, a_number, a_text}

abbrev pub fourth : List Value → Value
fourth vs = third (rest vs)

-- a text that may be left out, or be nil
abbrev pub text_or : Bytes → ℕ → Bytes → List Value → Argument Bytes
text_or default n function [] = Ok default
text_or default n function (Nil ∷ vs) = Ok default
text_or default n function given = a_text n function given

-- an argument that must be absent or nil
abbrev pub a_nil : ℕ → Bytes → List Value → Argument Value
a_nil n function [] = Ok Nil
a_nil n function (Nil ∷ vs) = Ok Nil
a_nil n function given = Err (bad_argument n function (expected (codes "nil") given))

-- a pattern, or a set, that has this fault
abbrev pub malformed : ℕ → Bytes
malformed n = codes "malformed pattern (" ++ decimal n ++ codes ")"

-- a number that the function does not take
abbrev pub out_of_range : ℕ → Bytes → Bytes
out_of_range n function = bad_argument n function (codes "out of range")

-- the code of a byte
abbrev pub code_in : ℕ → Bytes → Argument ℤ → Argument ℕ
code_in n function (Err message) = Err message
code_in n function (Ok z) = if is_code z then Ok (unsigned_abs z) else Err (out_of_range n function)

abbrev pub a_code : ℕ → Bytes → List Value → Argument ℕ
a_code n function given = code_in n function (a_number n function given)

-- ALL ARGUMENTS, from number n on: each is read in turn, and the first that is none ends the reading
abbrev pub and_those : {A : Type 0} → Argument A → Argument (List A) → Argument (List A)
and_those (Err message) more = Err message
and_those (Ok x) (Err message) = Err message
and_those (Ok x) (Ok xs) = Ok (x ∷ xs)

abbrev pub codes_from : ℕ → Bytes → List Value → Argument (List ℕ)
codes_from n function [] = Ok []
codes_from n function (v ∷ vs) = and_those (a_code n function (v ∷ vs)) (codes_from (n + 1) function vs)

abbrev pub numbers_from : ℕ → Bytes → List Value → Argument (List ℤ)
numbers_from n function [] = Ok []
numbers_from n function (v ∷ vs) = and_those (a_number n function (v ∷ vs)) (numbers_from (n + 1) function vs)
