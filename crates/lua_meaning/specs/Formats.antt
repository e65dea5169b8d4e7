-- `string.format` (manual 5.4). It costs first the bytes of its arguments that are strings, also of those that no directive takes, and then
-- the text that it gives.
use Rattle.std.specs.Prelude.{◌+◌, List, [], map, drop, Result, Ok, Err, codes}
use Rattle.lua_format.specs.declared.value.FormatValue.{FormatValue}
use Rattle.lua_format.specs.declared.value.FormatValue.TheVariants as given
use Rattle.lua_format.specs.declared.value.Want.{Want}
use Rattle.lua_format.specs.declared.value.Want.TheVariants as want
use Rattle.lua_format.specs.declared.value.FormatFault.{FormatFault}
use Rattle.lua_format.specs.declared.value.FormatFault.TheVariants as fault
use Rattle.lua_format.specs.Format.{formatted}
use Rattle.lua_walk.specs.LuaHeapValue.{Value, Number, Text}
use Rattle.lua_walk.specs.LuaHeapHeap.{Heap}
use Rattle.lua_meaning.specs.Scope.{Bytes}
use Rattle.lua_meaning.specs.Values.{rest}
use Rattle.lua_meaning.specs.Messages.{bad_argument, expected}
use Rattle.lua_meaning.specs.Arguments.{Plain, gives_text, fails, text_charge, with_argument, with_charge, a_text}
use Rattle.lua_meaning.specs.Checks.{out_of_range}

abbrev pub format_value : Value → FormatValue
format_value (Number n) = given.Number n
format_value (Text t) = given.Text t
format_value v = given.Other

abbrev pub wanted_kind : Want → Bytes
wanted_kind want.Number = codes "number"
wanted_kind want.Text = codes "string"

-- the message of a fault: the values begin at argument 2. (A definition wants no memory.)
abbrev pub format_message : List Value → FormatFault → Bytes
format_message values (fault.Missing at w) = bad_argument (at + 2) (codes "format") (expected (wanted_kind w) [])
format_message values (fault.WrongKind at w) = bad_argument (at + 2) (codes "format") (expected (wanted_kind w) (drop at values))
format_message values (fault.OutOfRange at) = out_of_range (at + 2) (codes "format")
format_message values other = codes "invalid option to 'format'"

abbrev pub laid_out : {X : Type 0} → List Value → Result Bytes FormatFault → Heap X → Plain X
laid_out values (Ok text) h = gives_text h text
laid_out values (Err e) h = fails h (format_message values e)

abbrev pub format_by : {X : Type 0} → Bytes → List Value → Heap X → Plain X
format_by spec values h = laid_out values (formatted (map format_value values) spec 0) h

-- `string.format(spec, ..)`
abbrev pub format_given : {X : Type 0} → List Value → Heap X → Plain X
format_given args h = with_argument h (a_text 1 (codes "format") args) (λ spec. format_by spec (rest args) h)

abbrev pub format : {X : Type 0} → List Value → Heap X → Plain X
format args h = with_charge (text_charge args) (format_given args h)
