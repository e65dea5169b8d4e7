-- What waits, and functions of the library that call back.
use Rattle.std.specs.Prelude.{ℤ, pos, ◌+ℤ◌, codes, true, List, [], ◌∷◌, Option, Some, None, Ok, Err}
use Rattle.lua_meaning.specs.PageRunOutcome.{Outcome, Goes, Jumps}
use Rattle.lua_meaning.specs.MwFrameDeclaredQuestionAsk.{Ask}
use Rattle.lua_meaning.specs.LuaHeapValue.{Value, Nil, Number, Table, Builtin, Markup}
use Rattle.lua_meaning.specs.LuaHeapDeclaredLibraryLibraryTheVariants.{BasicNext, IpairsStep}
use Rattle.lua_meaning.specs.LuaHeapGraph.{join, joined_root}
use Rattle.lua_meaning.specs.LuaHeapTable.{get}
use Rattle.lua_meaning.specs.LuaHeapHeap.{table_at}
use Rattle.lua_meaning.specs.Scope.{Bytes, Levels}
use Rattle.lua_meaning.specs.Questions.{Answer, Expanded, NoPage, Loaded, LoadFailed}
use Rattle.lua_meaning.specs.Values.{text_in, first, rest}
use Rattle.lua_meaning.specs.Metatables.{handler}
use Rattle.lua_meaning.specs.LuaNumberWhole.{fits}
use Rattle.lua_meaning.specs.Acts.{Act, Jump, Raised}
use Rattle.lua_meaning.specs.Arguments.{Argument, a_table, a_number}
use Rattle.lua_meaning.specs.Html.{text_of_object}
use Rattle.lua_meaning.specs.Waiting as waiting
use Rattle.lua_meaning.specs.Waiting.{Waits}
use Rattle.lua_meaning.specs.CallBacks as functions
use Rattle.lua_meaning_laws.specs.Laws.{IsForData}
use Rattle.lua_meaning_laws.proofs.OnlyData.{Quiet, ◌>>=◌, ◌>>◌, give, jump, catch, raise, tick, ask, choose}
use Rattle.lua_meaning_laws.proofs.Heaps.{see_heap, change_heap, fail}
use Rattle.lua_meaning_laws.proofs.Calls.{call}
use Rattle.lua_meaning_laws.proofs.Answers.{plain_act}

-- WHAT WAITS
pub calling : {waits : Waits} → (f : Value) (args : List Value) → ((o : Outcome (List Value) Jump) → Quiet (waits o)) → Quiet (waiting.calling f args waits)
calling f args waits = catch (call f args []) waits

pub for_values : {f : List Value → Act (List Value)} → ((vs : List Value) → Quiet (f vs)) → (o : Outcome (List Value) Jump) → Quiet (waiting.for_values f o)
for_values f (Goes vs) = f vs
for_values f (Jumps j) = jump j

receive : (answer : Answer) → Quiet (waiting.receive answer)
receive (Expanded text) = give _
receive NoPage = give _
receive (Loaded graph) = do
  h ← see_heap
  change_heap (join true graph h)
  give (joined_root h ∷ [])
receive (LoadFailed message) = raise _

ask_and_receive : (question : Ask) → IsForData question → Quiet (waiting.ask_and_receive question)
ask_and_receive question data_ = do
  answer ← ask question data_
  receive answer

pub asking : {waits : Waits} → (question : Ask) → IsForData question → ((o : Outcome (List Value) Jump) → Quiet (waits o)) → Quiet (waiting.asking question waits)
asking question data_ waits = catch (ask_and_receive question data_) waits

pub refuse_answer : Quiet waiting.refuse_answer
refuse_answer = raise _

pub argument : {X : Type 0} → (callers : Levels) (x : Argument X) → Quiet (waiting.argument callers x)
argument callers (Ok x) = give x
argument callers (Err message) = fail callers message

text_value : (t : Bytes) → Quiet (waiting.text_value t)
text_value t = tick _ >> give _

-- PROTECTED CALLS
pcall_answer : (o : Outcome (List Value) Jump) → Quiet (functions.pcall_answer o)
pcall_answer (Goes vs) = give _
pcall_answer (Jumps (Raised v)) = give _
pcall_answer (Jumps j) = jump j

pub pcall : (args : List Value) → Quiet (functions.pcall args)
pcall args = calling _ _ pcall_answer

handler_answer : (o : Outcome (List Value) Jump) → Quiet (functions.handler_answer o)
handler_answer (Goes vs) = give _
handler_answer (Jumps (Raised v)) = give _
handler_answer (Jumps j) = jump j

xpcall_answer : (h : Value) (o : Outcome (List Value) Jump) → Quiet (functions.xpcall_answer h o)
xpcall_answer h (Goes vs) = give _
xpcall_answer h (Jumps (Raised v)) = calling h _ handler_answer
xpcall_answer h (Jumps j) = jump j

pub xpcall : (args : List Value) → Quiet (functions.xpcall args)
xpcall args = calling _ _ (xpcall_answer _)

-- TEXTS OF VALUES
string_or_fail : (callers : Levels) (t : Option Bytes) → Quiet (functions.string_or_fail callers t)
string_or_fail callers (Some t) = give t
string_or_fail callers None = fail callers _

string_given : (callers : Levels) (vs : List Value) → Quiet (functions.string_given callers vs)
string_given callers vs = do
  t ← string_or_fail callers (text_in (first vs))
  text_value t

to_string_by : (h v : Value) (callers : Levels) → Quiet (functions.to_string_by h v callers)
to_string_by h v callers = choose _ (text_value _) (calling h _ (for_values (string_given callers)))

to_string_of : (v : Value) (callers : Levels) → Quiet (functions.to_string_of v callers)
to_string_of (Markup m) callers = do
  h ← see_heap
  plain_act (text_of_object m h) callers
to_string_of v callers = do
  h ← see_heap
  to_string_by (handler h v (codes "__tostring")) v callers

pub to_string : (args : List Value) (callers : Levels) → Quiet (functions.to_string args callers)
to_string args callers = to_string_of (first args) callers

-- WALKS
three_of : (vs : List Value) → Quiet (functions.three_of vs)
three_of vs = give _

pairs_by : (h : Value) (args : List Value) (callers : Levels) → Quiet (functions.pairs_by h args callers)
pairs_by h args callers = choose _ (do
  t ← argument callers (a_table 1 (codes "pairs") args)
  give (Builtin BasicNext ∷ Table t ∷ Nil ∷ [])) (calling h _ (for_values three_of))

pub pairs : (args : List Value) (callers : Levels) → Quiet (functions.pairs args callers)
pairs args callers = do
  h ← see_heap
  pairs_by (handler h (first args) (codes "__pairs")) args callers

ipairs_by : (h : Value) (args : List Value) (callers : Levels) → Quiet (functions.ipairs_by h args callers)
ipairs_by h args callers = choose _ (do
  t ← argument callers (a_table 1 (codes "ipairs") args)
  give (Builtin IpairsStep ∷ Table t ∷ Number (pos 0) ∷ [])) (calling h _ (for_values three_of))

pub ipairs : (args : List Value) (callers : Levels) → Quiet (functions.ipairs args callers)
ipairs args callers = do
  h ← see_heap
  ipairs_by (handler h (first args) (codes "__ipairs")) args callers

place_and_value : (n : ℤ) (v : Value) → Quiet (functions.place_and_value n v)
place_and_value n Nil = give _
place_and_value n v = give _

pub ipairs_step : (args : List Value) (callers : Levels) → Quiet (functions.ipairs_step args callers)
ipairs_step args callers = do
  t ← argument callers (a_table 1 (codes "ipairs") args)
  n ← argument callers (a_number 2 (codes "ipairs") (rest args))
  h ← see_heap
  choose (fits (n +ℤ pos 1)) (place_and_value (n +ℤ pos 1) (get (table_at h t).entries (Number (n +ℤ pos 1)))) (give (Nil ∷ []))
