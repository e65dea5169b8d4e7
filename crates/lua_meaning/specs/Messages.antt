-- ERRORS AND THEIR MESSAGES (manual 2.7, and 5.1 under `error`). The texts are a profile: the manual fixes none.
-- A message that is a string gets the place of its level in front, and costs as many steps as the whole has bytes. One at no place is
-- free, but for those that quote.
use Rattle.std.specs.Prelude.{ℕ, zero, suc, ℤ, pos, negsuc, List, [], ◌∷◌, ◌++◌, length, Option, Some, None, if◌then◌else◌, slice_get, bytes_eq, codes}
use Rattle.std.specs.Prelude.{decimal}
use Rattle.page_run.specs.Outcome.{◌>>◌, tick}
use Rattle.lua_format.specs.LuaNumberDeclaredArithmeticNumberFault.{NumberFault}
use Rattle.lua_format.specs.LuaNumberDeclaredArithmeticNumberFaultTheVariants.{OutOfRange, NotWhole, ByZero}
use Rattle.lua_walk.specs.LuaHeapValue.{Value, Text}
use Rattle.lua_meaning.specs.Scope.{Bytes, Place, Levels}
use Rattle.lua_meaning.specs.Values.{kind_of}
use Rattle.lua_meaning.specs.Acts.{Act, raise}

-- PLACES
abbrev pub place_text : Place → Bytes
place_text p = p.source ++ codes ":" ++ decimal p.line ++ codes ": "

abbrev pub nth_level : Levels → ℕ → Option Place
nth_level ls zero = None
nth_level ls (suc n) = slice_get ls n

-- level 1 is the first one; at 0 and below there is none
abbrev pub place_at : Levels → ℤ → Option Place
place_at ls (pos n) = nth_level ls n
place_at ls (negsuc n) = None

-- RAISING
abbrev pub raise_text : {X : Type 0} → Option Place → Bytes → Act X
raise_text None text = raise (Text text)
raise_text (Some p) text = tick (length (place_text p ++ text)) >> raise (Text (place_text p ++ text))

-- an error with its value, at a place or at none: only a string gets the place
abbrev pub raise_at : {X : Type 0} → Option Place → Value → Act X
raise_at p (Text t) = raise_text p t
raise_at p v = raise v

-- the message of something that failed, at level 1
abbrev pub fail : {X : Type 0} → Levels → Bytes → Act X
fail ls text = raise_text (nth_level ls 1) text

-- a message that quotes a text of the call costs its bytes at no place too, since it may be as long as any text
abbrev pub raise_quote : {X : Type 0} → Option Place → Bytes → Act X
raise_quote None text = tick (length text) >> raise (Text text)
raise_quote (Some p) text = raise_text (Some p) text

abbrev pub fail_quoting : {X : Type 0} → Levels → Bytes → Act X
fail_quoting ls text = raise_quote (nth_level ls 1) text

-- MESSAGES
abbrev pub attempt_to : Bytes → Value → Bytes
attempt_to what v = codes "attempt to " ++ what ++ codes " a " ++ kind_of v ++ codes " value"

abbrev pub cannot_index : Value → Bytes
cannot_index v = attempt_to (codes "index") v

abbrev pub cannot_call : Value → Bytes
cannot_call v = attempt_to (codes "call") v

abbrev pub cannot_calculate : Value → Bytes
cannot_calculate v = attempt_to (codes "perform arithmetic on") v

abbrev pub cannot_concatenate : Value → Bytes
cannot_concatenate v = attempt_to (codes "concatenate") v

abbrev pub no_length : Value → Bytes
no_length v = attempt_to (codes "get length of") v

abbrev pub cannot_compare : Value → Value → Bytes
cannot_compare a b =
    if bytes_eq (kind_of a) (kind_of b) then codes "attempt to compare two " ++ kind_of a ++ codes " values"
    else codes "attempt to compare " ++ kind_of a ++ codes " with " ++ kind_of b

abbrev pub number_fault : NumberFault → Bytes
number_fault OutOfRange = codes "number out of range"
number_fault NotWhole = codes "quotient is not whole"
number_fault ByZero = codes "division by zero"

abbrev pub nil_key : Bytes
nil_key = codes "table index is nil"

abbrev pub read_only : Bytes
read_only = codes "table from mw.loadData is read-only"

abbrev pub no_target : Bytes
no_target = codes "cannot assign to this expression"

abbrev pub no_initial_value : Bytes
no_initial_value = codes "'for' initial value must be a number"

abbrev pub no_limit : Bytes
no_limit = codes "'for' limit must be a number"

abbrev pub no_step : Bytes
no_step = codes "'for' step must be a number"

-- frames, modules and data modules; `text` is what the call was given. But for the first they quote it.
abbrev pub bad_template_arguments : Bytes
bad_template_arguments = codes "bad template arguments"

abbrev pub invalid_title : Bytes → Bytes
invalid_title text = codes "invalid title '" ++ text ++ codes "'"

abbrev pub no_template : Bytes → Bytes
no_template text = codes "template '" ++ text ++ codes "' does not exist"

abbrev pub no_module : Bytes → Bytes
no_module text = codes "module '" ++ text ++ codes "' not found"

abbrev pub loop_in_require : Bytes → Bytes
loop_in_require text = codes "loop in require of '" ++ text ++ codes "'"

abbrev pub no_data_module : Bytes → Bytes
no_data_module text = codes "data module '" ++ text ++ codes "' not found"

abbrev pub undeclared_variable : Bytes → Bytes
undeclared_variable name = codes "variable '" ++ name ++ codes "' is not declared"

abbrev pub undeclared_target : Bytes → Bytes
undeclared_target name = codes "assign to undeclared variable '" ++ name ++ codes "'"

abbrev pub wrong_answer : Bytes
wrong_answer = codes "the answer does not belong to the question"

-- argument n of a function of the library, which wanted another kind, took no such number, or got nothing
abbrev pub bad_argument : ℕ → Bytes → Bytes → Bytes
bad_argument n function why = codes "bad argument #" ++ decimal n ++ codes " to '" ++ function ++ codes "' (" ++ why ++ codes ")"

abbrev pub got : List Value → Bytes
got [] = codes "no value"
got (v ∷ vs) = kind_of v

abbrev pub expected : Bytes → List Value → Bytes
expected kind given = kind ++ codes " expected, got " ++ got given
