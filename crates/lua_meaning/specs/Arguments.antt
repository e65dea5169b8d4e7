-- THE ARGUMENTS OF FUNCTIONS OF THE LIBRARY, and what functions give that call back nobody (manual 5).
-- Where a string is wanted a number's digits are taken; where a number is wanted a string that reads as one is. An absent
-- argument is the same as nil, but for the message that says what was got.
use Rattle.std.specs.Prelude.{ℕ, ◌+◌, ℤ, pos, List, [], ◌∷◌, length, Option, Some, None, Result, Ok, Err, if◌then◌else◌, codes}
use Rattle.page_run.specs.Outcome.{◌>>◌, give, tick}
use Rattle.lua_walk.specs.LuaHeapValue.{Value, Nil, Text, Table, is_nil}
use Rattle.mw_html.specs.LuaHeapTable.{Entries}
use Rattle.lua_walk.specs.LuaHeapHeap.{Heap}
use Rattle.lua_meaning.specs.Scope.{Bytes, Function, Levels}
use Rattle.lua_meaning.specs.Values.{first, number_in, text_in}
use Rattle.lua_meaning.specs.Acts.{Act, change_heap}
use Rattle.lua_meaning.specs.Messages.{raise_at, place_at, bad_argument, expected}

-- values; or an error at a level, whose place is put before it
pub data PlainEnd : Type 0 where
  Gives : (values : List Value) → PlainEnd
  Fails : (value : Value) (level : ℤ) → PlainEnd

-- A PLAIN FUNCTION's answer: its charge in steps, the heap after it, and its end
pub record Plain (X : Type 0) : Type 0 where
  pub charge : ℕ
  pub heap : Heap X
  pub end : PlainEnd

abbrev pub end_act : PlainEnd → Levels → Act (List Value)
end_act (Gives vs) callers = give vs
end_act (Fails v level) callers = raise_at (place_at callers level) v

abbrev pub plain_act : Plain Function → Levels → Act (List Value)
plain_act p callers = do
  tick p.charge
  change_heap p.heap
  end_act p.end callers

-- the answer of a function that has taken so many steps before it
abbrev pub with_charge : {X : Type 0} → ℕ → Plain X → Plain X
with_charge n p = record p { charge = n + p.charge }

-- these values, for nothing
abbrev pub gives : {X : Type 0} → Heap X → List Value → Plain X
gives h vs = record { charge = 0; heap = h; end = Gives vs }

abbrev pub costs : {X : Type 0} → ℕ → Heap X → List Value → Plain X
costs n h vs = record { charge = n; heap = h; end = Gives vs }

-- a text that is made: it costs its bytes
abbrev pub gives_text : {X : Type 0} → Heap X → Bytes → Plain X
gives_text h text = costs (length text) h (Text text ∷ [])

abbrev pub fails : {X : Type 0} → Heap X → Bytes → Plain X
fails h message = record { charge = 0; heap = h; end = Fails (Text message) (pos 1) }

-- the bytes of the arguments that are strings
abbrev pub text_charge : List Value → ℕ
text_charge [] = 0
text_charge (Text t ∷ vs) = length t + text_charge vs
text_charge (v ∷ vs) = text_charge vs

-- AN ARGUMENT, or the message that says why it is none. `given` are the arguments from number n on.
abbrev pub Argument : Type 0 → Type 0
Argument X = Result X Bytes

-- ENTRIES THAT ARE GONE THROUGH in order of `next`, each read as an argument: a cleared one is passed for a step, and the first that is
-- none ends the walk.
abbrev pub unless_refused : {X : Type 0} → Argument X → ℕ → ℕ
unless_refused (Ok x) n = n
unless_refused (Err message) n = 0

abbrev pub passed : {X : Type 0} → (Value × Value → Argument X) → Entries → ℕ
passed reads [] = 0
passed reads (e ∷ more) = if is_nil e.1 then 1 + passed reads more else unless_refused (reads e) (passed reads more)

abbrev pub with_argument : {X Y : Type 0} → Heap X → Argument Y → (Y → Plain X) → Plain X
with_argument h (Ok x) f = f x
with_argument h (Err message) f = fails h message

abbrev pub a_table : ℕ → Bytes → List Value → Argument ℕ
a_table n function (Table t ∷ vs) = Ok t
a_table n function given = Err (bad_argument n function (expected (codes "table") given))

abbrev pub some_value : {X : Type 0} → Bytes → Option X → Argument X
some_value message (Some x) = Ok x
some_value message None = Err message

abbrev pub some_number : ℕ → Bytes → List Value → Option ℤ → Argument ℤ
some_number n function given (Some z) = Ok z
some_number n function given None = Err (bad_argument n function (expected (codes "number") given))

abbrev pub a_number : ℕ → Bytes → List Value → Argument ℤ
a_number n function given = some_number n function given (number_in (first given))

abbrev pub number_or : ℤ → ℕ → Bytes → List Value → Argument ℤ
number_or default n function [] = Ok default
number_or default n function (Nil ∷ vs) = Ok default
number_or default n function given = a_number n function given

abbrev pub some_text : ℕ → Bytes → List Value → Option Bytes → Argument Bytes
some_text n function given (Some t) = Ok t
some_text n function given None = Err (bad_argument n function (expected (codes "string") given))

abbrev pub a_text : ℕ → Bytes → List Value → Argument Bytes
a_text n function given = some_text n function given (text_in (first given))
