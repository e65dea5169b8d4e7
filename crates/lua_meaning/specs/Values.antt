-- VALUES AND LISTS OF VALUES (manual 2.2, 2.2.1, 2.4.3 and 2.5).
use Rattle.std.specs.Prelude.{ℤ, Bool, true, false, List, [], ◌∷◌, Option, Some, None, codes}
use Rattle.std.specs.Fmt.{signed_decimal}
use Rattle.lua_format.specs.LuaNumberNumerals.{read_number_of}
use Rattle.lua_walk.specs.LuaHeapValue.{Value, Nil, Truth, Number, Text, Table, Closure, Builtin, Markup}
use Rattle.lua_meaning.specs.Scope.{Bytes}

-- the name of a value's kind, as `type` gives it (manual 5.1); an object of mw.html is a table
abbrev pub kind_of : Value → Bytes
kind_of Nil = codes "nil"
kind_of (Truth b) = codes "boolean"
kind_of (Number n) = codes "number"
kind_of (Text t) = codes "string"
kind_of (Table t) = codes "table"
kind_of (Closure c) = codes "function"
kind_of (Builtin b) = codes "function"
kind_of (Markup m) = codes "table"

-- LISTS ARE ADJUSTED (manual 2.4.3 and 2.5): what is absent is nil.
abbrev pub first : List Value → Value
first [] = Nil
first (v ∷ vs) = v

abbrev pub rest : List Value → List Value
rest [] = []
rest (v ∷ vs) = vs

abbrev pub second : List Value → Value
second vs = first (rest vs)

abbrev pub third : List Value → Value
third vs = second (rest vs)

-- CONVERSIONS (manual 2.2.1). A text is read as a number where it is one, and a number is written in its digits.
abbrev pub number_in : Value → Option ℤ
number_in (Number n) = Some n
number_in (Text t) = read_number_of t
number_in _ = None

abbrev pub text_in : Value → Option Bytes
text_in (Number n) = Some (signed_decimal n)
text_in (Text t) = Some t
text_in _ = None

-- functions of Lua and of the library
abbrev pub is_function : Value → Bool
is_function (Closure c) = true
is_function (Builtin b) = true
is_function _ = false
