-- BASIC FUNCTIONS THAT CALL BACK (manual 5.1): each calls a function, and waits for its outcome by a name of the meaning's table of
-- what waits. `line` is that of its own call. No place of a text calls what it calls.
use Rattle.std.specs.Prelude.{ℕ, ℤ, pos, ◌+ℤ◌, true, false, List, [], ◌∷◌, length, Option, Some, None, codes}
use Rattle.lua_meaning.specs.PageRunOutcome.{Outcome, Goes, Jumps}
use Rattle.lua_meaning.specs.LuaNumberWhole.{fits}
use Rattle.lua_meaning.specs.LuaHeapValue.{Value, Nil, Truth, Number, Text, Table, Builtin, Markup, is_nil}
use Rattle.lua_meaning.specs.LuaHeapTable.{get}
use Rattle.lua_meaning.specs.LuaHeapHeap.{table_at}
use Rattle.lua_meaning.specs.LuaHeapDeclaredLibraryLibraryTheVariants.{BasicNext, IpairsStep}
use Rattle.lua_meaning.specs.Scope.{Bytes}
use Rattle.lua_meaning.specs.Values.{first, rest, second, third, text_in}
use Rattle.lua_meaning.specs.Acts.{Jump, Raised}
use Rattle.lua_meaning.specs.Metatables.{handler}
use Rattle.lua_meaning.specs.Arguments.{a_table, a_number}
use Rattle.lua_meaning.specs.Html.{text_of_object}
use Rattle.lua_meaning.specs.CallBacks.{text_of}
use Rattle.lua_meaning.specs.Pending.{PcallWaits, XpcallWaits, HandlerWaits, ToStringWaits, PairsWaits}
use Rattle.lua_slots.specs.Slots.{Slots}
use Rattle.lua_slots.specs.Points.{SFrame, Waits, Move, Costs}
use Rattle.lua_slots.specs.Errors.{choose, gives, jumps, fails, plain, with_argument}
use Rattle.lua_slots.specs.Calls.{call}

-- `pcall(f, ...)`
abbrev pub pcall : List Value → Option ℕ → List SFrame → Slots → Move
pcall args line fs s = call (first args) (rest args) None (Waits PcallWaits line ∷ fs) s

abbrev pub pcall_answer : Outcome (List Value) Jump → List SFrame → Slots → Move
pcall_answer (Goes vs) fs s = gives (Truth true ∷ vs) fs s
pcall_answer (Jumps (Raised v)) fs s = gives (Truth false ∷ v ∷ []) fs s
pcall_answer (Jumps j) fs s = jumps j fs s

-- `xpcall(f, handler)`
abbrev pub xpcall : List Value → Option ℕ → List SFrame → Slots → Move
xpcall args line fs s = call (first args) [] None (Waits (XpcallWaits (second args)) line ∷ fs) s

abbrev pub xpcall_answer : Value → Outcome (List Value) Jump → Option ℕ → List SFrame → Slots → Move
xpcall_answer h (Goes vs) line fs s = gives (Truth true ∷ vs) fs s
xpcall_answer h (Jumps (Raised v)) line fs s = call h (v ∷ []) None (Waits HandlerWaits line ∷ fs) s
xpcall_answer h (Jumps j) line fs s = jumps j fs s

abbrev pub handler_answer : Outcome (List Value) Jump → List SFrame → Slots → Move
handler_answer (Goes vs) fs s = gives (Truth false ∷ first vs ∷ []) fs s
handler_answer (Jumps (Raised v)) fs s = gives (Truth false ∷ Text (codes "error in error handling") ∷ []) fs s
handler_answer (Jumps j) fs s = jumps j fs s

-- TEXTS OF VALUES: `tostring(v)`. A text that is made costs its bytes.
abbrev pub gives_text : Bytes → List SFrame → Slots → Move
gives_text t fs s = Costs (length t) (gives (Text t ∷ []) fs s)

abbrev pub to_string_by : Value → Value → Option ℕ → List SFrame → Slots → Move
to_string_by h v line fs s = choose (is_nil h) (gives_text (text_of v) fs s) (call h (v ∷ []) None (Waits ToStringWaits line ∷ fs) s)

-- an object of mw.html is rendered
abbrev pub to_string_of : Value → Option ℕ → List SFrame → Slots → Move
to_string_of (Markup m) line fs s = plain (text_of_object m s.heap) line fs s
to_string_of v line fs s = to_string_by (handler s.heap v (codes "__tostring")) v line fs s

abbrev pub to_string : List Value → Option ℕ → List SFrame → Slots → Move
to_string args line fs s = to_string_of (first args) line fs s

-- what `__tostring` gave
abbrev pub string_given : Option Bytes → Option ℕ → List SFrame → Slots → Move
string_given (Some t) line fs s = gives_text t fs s
string_given None line fs s = fails line (codes "'tostring' must return a string") fs s

abbrev pub string_answer : Outcome (List Value) Jump → Option ℕ → List SFrame → Slots → Move
string_answer (Goes vs) line fs s = string_given (text_in (first vs)) line fs s
string_answer (Jumps j) line fs s = jumps j fs s

-- WALKS: `pairs(t)` and `ipairs(t)` give an iterator, a state and a first value
abbrev pub pairs_by : Value → List Value → Option ℕ → List SFrame → Slots → Move
pairs_by h args line fs s =
    choose (is_nil h)
    (with_argument (a_table 1 (codes "pairs") args) line fs s (λ t. gives (Builtin BasicNext ∷ Table t ∷ Nil ∷ []) fs s))
    (call h (first args ∷ []) None (Waits PairsWaits line ∷ fs) s)

abbrev pub pairs : List Value → Option ℕ → List SFrame → Slots → Move
pairs args line fs s = pairs_by (handler s.heap (first args) (codes "__pairs")) args line fs s

abbrev pub ipairs_by : Value → List Value → Option ℕ → List SFrame → Slots → Move
ipairs_by h args line fs s =
    choose (is_nil h)
    (with_argument (a_table 1 (codes "ipairs") args) line fs s (λ t. gives (Builtin IpairsStep ∷ Table t ∷ Number (pos 0) ∷ []) fs s))
    (call h (first args ∷ []) None (Waits PairsWaits line ∷ fs) s)

abbrev pub ipairs : List Value → Option ℕ → List SFrame → Slots → Move
ipairs args line fs s = ipairs_by (handler s.heap (first args) (codes "__ipairs")) args line fs s

abbrev pub three_answer : Outcome (List Value) Jump → List SFrame → Slots → Move
three_answer (Goes vs) fs s = gives (first vs ∷ second vs ∷ third vs ∷ []) fs s
three_answer (Jumps j) fs s = jumps j fs s

-- a step of `ipairs`: the next place and its value, or nil where that is nil or no number comes next
abbrev pub place_and_value : ℤ → Value → List Value
place_and_value n Nil = Nil ∷ []
place_and_value n v = Number n ∷ v ∷ []

abbrev pub next_place : ℕ → ℤ → List SFrame → Slots → Move
next_place t n fs s =
    choose (fits (n +ℤ pos 1))
    (gives (place_and_value (n +ℤ pos 1) (get (table_at s.heap t).entries (Number (n +ℤ pos 1)))) fs s)
    (gives (Nil ∷ []) fs s)

abbrev pub ipairs_step : List Value → Option ℕ → List SFrame → Slots → Move
ipairs_step args line fs s =
    with_argument (a_table 1 (codes "ipairs") args) line fs s (λ t.
    with_argument (a_number 2 (codes "ipairs") (rest args)) line fs s (λ n.
    next_place t n fs s))
