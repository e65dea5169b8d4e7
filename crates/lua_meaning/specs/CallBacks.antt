-- BASIC FUNCTIONS THAT CALL BACK (manual 5.1). Such a function calls a function, and waits for its outcome. What it then does is a
-- definition of its own, which has a name in the table of `Waits`.
use Rattle.std.specs.Prelude.{ℤ, pos, ◌+ℤ◌, true, false, List, [], ◌∷◌, Option, Some, None, codes}
use Rattle.std.specs.Fmt.{signed_decimal}
use Rattle.page_run.specs.Outcome.{Goes, Jumps, ◌>>=◌, give, jump}
use Rattle.lua_format.specs.LuaNumberWhole.{fits}
use Rattle.lua_walk.specs.LuaHeapValue.{Value, Nil, Truth, Number, Text, Table, Builtin, Markup, is_nil}
use Rattle.mw_html.specs.LuaHeapTable.{get}
use Rattle.lua_walk.specs.LuaHeapHeap.{table_at}
use Rattle.lua_walk.specs.LuaHeapDeclaredLibraryLibraryTheVariants.{BasicNext, IpairsStep}
use Rattle.lua_meaning.specs.Scope.{Bytes, Levels}
use Rattle.lua_meaning.specs.Values.{kind_of, first, rest, second, third, text_in}
use Rattle.lua_meaning.specs.Acts.{Act, Raised, choose, see_heap}
use Rattle.lua_meaning.specs.Messages.{fail}
use Rattle.lua_meaning.specs.Metatables.{handler}
use Rattle.lua_meaning.specs.Arguments.{plain_act, a_table, a_number}
use Rattle.lua_meaning.specs.Html.{text_of_object}
use Rattle.lua_meaning.specs.Waiting.{Waits, calling, for_values, argument, text_value}

-- PROTECTED CALLS: `pcall(f, ...)`
abbrev pub pcall_answer : Waits
pcall_answer (Goes vs) = give (Truth true ∷ vs)
pcall_answer (Jumps (Raised v)) = give (Truth false ∷ v ∷ [])
pcall_answer (Jumps j) = jump j

abbrev pub pcall : List Value → Act (List Value)
pcall args = calling (first args) (rest args) pcall_answer

-- `xpcall(f, handler)`: the handler gets the error, and its first value is given; a handler that fails has a message of its own
abbrev pub handler_answer : Waits
handler_answer (Goes vs) = give (Truth false ∷ first vs ∷ [])
handler_answer (Jumps (Raised v)) = give (Truth false ∷ Text (codes "error in error handling") ∷ [])
handler_answer (Jumps j) = jump j

abbrev pub xpcall_answer : Value → Waits
xpcall_answer h (Goes vs) = give (Truth true ∷ vs)
xpcall_answer h (Jumps (Raised v)) = calling h (v ∷ []) handler_answer
xpcall_answer h (Jumps j) = jump j

abbrev pub xpcall : List Value → Act (List Value)
xpcall args = calling (first args) [] (xpcall_answer (second args))

-- TEXTS OF VALUES, as `tostring` gives them
abbrev pub text_of : Value → Bytes
text_of Nil = codes "nil"
text_of (Truth true) = codes "true"
text_of (Truth false) = codes "false"
text_of (Number n) = signed_decimal n
text_of (Text t) = t
text_of v = kind_of v

abbrev pub string_or_fail : Levels → Option Bytes → Act Bytes
string_or_fail callers (Some t) = give t
string_or_fail callers None = fail callers (codes "'tostring' must return a string")

-- what `__tostring` gave
abbrev pub string_given : Levels → List Value → Act (List Value)
string_given callers vs = do
  t ← string_or_fail callers (text_in (first vs))
  text_value t

abbrev pub to_string_by : Value → Value → Levels → Act (List Value)
to_string_by h v callers = choose (is_nil h) (text_value (text_of v)) (calling h (v ∷ []) (for_values (string_given callers)))

-- an object of mw.html is rendered
abbrev pub to_string_of : Value → Levels → Act (List Value)
to_string_of (Markup m) callers = do
  h ← see_heap
  plain_act (text_of_object m h) callers
to_string_of v callers = do
  h ← see_heap
  to_string_by (handler h v (codes "__tostring")) v callers

abbrev pub to_string : List Value → Levels → Act (List Value)
to_string args callers = to_string_of (first args) callers

-- WALKS: `pairs(t)` and `ipairs(t)` give an iterator, a state and a first value
abbrev pub three_of : List Value → Act (List Value)
three_of vs = give (first vs ∷ second vs ∷ third vs ∷ [])

abbrev pub pairs_by : Value → List Value → Levels → Act (List Value)
pairs_by h args callers = choose (is_nil h) (do
  t ← argument callers (a_table 1 (codes "pairs") args)
  give (Builtin BasicNext ∷ Table t ∷ Nil ∷ [])) (calling h (first args ∷ []) (for_values three_of))

abbrev pub pairs : List Value → Levels → Act (List Value)
pairs args callers = do
  h ← see_heap
  pairs_by (handler h (first args) (codes "__pairs")) args callers

abbrev pub ipairs_by : Value → List Value → Levels → Act (List Value)
ipairs_by h args callers = choose (is_nil h) (do
  t ← argument callers (a_table 1 (codes "ipairs") args)
  give (Builtin IpairsStep ∷ Table t ∷ Number (pos 0) ∷ [])) (calling h (first args ∷ []) (for_values three_of))

abbrev pub ipairs : List Value → Levels → Act (List Value)
ipairs args callers = do
  h ← see_heap
  ipairs_by (handler h (first args) (codes "__ipairs")) args callers

-- a step of `ipairs`: the next place and its value, or nil where that is nil or no number comes next
abbrev pub place_and_value : ℤ → Value → Act (List Value)
place_and_value n Nil = give (Nil ∷ [])
place_and_value n v = give (Number n ∷ v ∷ [])

abbrev pub ipairs_step : List Value → Levels → Act (List Value)
ipairs_step args callers = do
  t ← argument callers (a_table 1 (codes "ipairs") args)
  n ← argument callers (a_number 2 (codes "ipairs") (rest args))
  h ← see_heap
  choose (fits (n +ℤ pos 1))
      (place_and_value (n +ℤ pos 1) (get (table_at h t).entries (Number (n +ℤ pos 1))))
      (give (Nil ∷ []))
