-- What waits, and functions of the library that call back.
use Rattle.std.specs.Prelude.{ℤ, pos, ◌+ℤ◌, codes, true, List, [], ◌∷◌, Option, Some, None, Ok, Err}
use Rattle.page_run.specs.Outcome.{Outcome, Goes, Jumps}
use Rattle.lua_meaning.specs.MwFrameDeclaredQuestionAsk.{Ask}
use Rattle.lua_walk.specs.LuaHeapValue.{Value, Nil, Number, Table, Builtin, Markup}
use Rattle.lua_meaning.specs.LuaHeapDeclaredLibraryLibraryTheVariants.{BasicNext, IpairsStep}
use Rattle.lua_walk.specs.LuaHeapGraph.{join, joined_root}
use Rattle.lua_meaning.specs.LuaHeapTable.{get}
use Rattle.lua_walk.specs.LuaHeapHeap.{table_at}
use Rattle.lua_meaning.specs.Scope.{Bytes, Levels}
use Rattle.lua_meaning.specs.Questions.{Answer, Expanded, NoPage, Loaded, LoadFailed}
use Rattle.lua_meaning.specs.Values.{text_in, first, rest}
use Rattle.lua_meaning.specs.Metatables.{handler}
use Rattle.lua_meaning.specs.LuaNumberWhole.{fits}
use Rattle.lua_meaning.specs.Acts.{Act, Jump, Raised}
use Rattle.lua_meaning.specs.Arguments.{Argument, a_table, a_number}
use Rattle.lua_meaning.specs.Html.{text_of_object}
use Rattle.lua_meaning.specs.Waiting as waiting
use Rattle.lua_meaning.specs.Waiting.{Waits}
use Rattle.lua_meaning.specs.CallBacks as functions
use Rattle.lua_lint_laws.proofs.Told.{Allowed, Quiet, ◌>>=◌, ◌>>◌, give, jump, catch, raise, tick, ask, choose, look_heap}
use Rattle.lua_lint_laws.proofs.Heaps.{see_heap, change_heap, fail}
use Rattle.lua_lint_laws.proofs.Calls.{call}
use Rattle.lua_lint_laws.proofs.Answers.{plain_act}
use Rattle.lua_lint_laws.proofs.Kept.{object_text}

-- WHAT WAITS
pub calling : {P : Allowed} → {waits : Waits} → (f : Value) (args : List Value) → ((o : Outcome (List Value) Jump) → Quiet P (waits o)) → Quiet P (waiting.calling f args waits)
calling f args waits = catch (call f args []) waits

pub for_values : {P : Allowed} → {f : List Value → Act (List Value)} → ((vs : List Value) → Quiet P (f vs)) → (o : Outcome (List Value) Jump) → Quiet P (waiting.for_values f o)
for_values f (Goes vs) = f vs
for_values f (Jumps j) = jump j

receive : {P : Allowed} → (answer : Answer) → Quiet P (waiting.receive answer)
receive (Expanded text) = give _
receive NoPage = give _
receive (Loaded graph) = look_heap (λ h ok. change_heap (join true graph h) ok >> give (joined_root h ∷ []))
receive (LoadFailed message) = raise _

ask_and_receive : {P : Allowed} → (question : Ask) → Quiet P (waiting.ask_and_receive question)
ask_and_receive question = do
  answer ← ask question
  receive answer

pub asking : {P : Allowed} → {waits : Waits} → (question : Ask) → ((o : Outcome (List Value) Jump) → Quiet P (waits o)) → Quiet P (waiting.asking question waits)
asking question waits = catch (ask_and_receive question) waits

pub refuse_answer : {P : Allowed} → Quiet P waiting.refuse_answer
refuse_answer = raise _

pub argument : {P : Allowed} → {X : Type 0} → (callers : Levels) (x : Argument X) → Quiet P (waiting.argument callers x)
argument callers (Ok x) = give x
argument callers (Err message) = fail callers message

pub text_value : {P : Allowed} → (t : Bytes) → Quiet P (waiting.text_value t)
text_value t = tick _ >> give _

-- PROTECTED CALLS
pcall_answer : {P : Allowed} → (o : Outcome (List Value) Jump) → Quiet P (functions.pcall_answer o)
pcall_answer (Goes vs) = give _
pcall_answer (Jumps (Raised v)) = give _
pcall_answer (Jumps j) = jump j

pub pcall : {P : Allowed} → (args : List Value) → Quiet P (functions.pcall args)
pcall args = calling _ _ pcall_answer

handler_answer : {P : Allowed} → (o : Outcome (List Value) Jump) → Quiet P (functions.handler_answer o)
handler_answer (Goes vs) = give _
handler_answer (Jumps (Raised v)) = give _
handler_answer (Jumps j) = jump j

xpcall_answer : {P : Allowed} → (h : Value) (o : Outcome (List Value) Jump) → Quiet P (functions.xpcall_answer h o)
xpcall_answer h (Goes vs) = give _
xpcall_answer h (Jumps (Raised v)) = calling h _ handler_answer
xpcall_answer h (Jumps j) = jump j

pub xpcall : {P : Allowed} → (args : List Value) → Quiet P (functions.xpcall args)
xpcall args = calling _ _ (xpcall_answer _)

-- TEXTS OF VALUES
pub string_or_fail : {P : Allowed} → (callers : Levels) (t : Option Bytes) → Quiet P (functions.string_or_fail callers t)
string_or_fail callers (Some t) = give t
string_or_fail callers None = fail callers _

string_given : {P : Allowed} → (callers : Levels) (vs : List Value) → Quiet P (functions.string_given callers vs)
string_given callers vs = do
  t ← string_or_fail callers (text_in (first vs))
  text_value t

to_string_by : {P : Allowed} → (h v : Value) (callers : Levels) → Quiet P (functions.to_string_by h v callers)
to_string_by h v callers = choose _ (text_value _) (calling h _ (for_values (string_given callers)))

to_string_of : {P : Allowed} → (v : Value) (callers : Levels) → Quiet P (functions.to_string_of v callers)
to_string_of (Markup m) callers = look_heap (λ h ok. plain_act (text_of_object m h) (object_text h ok m) callers)
to_string_of v callers = do
  h ← see_heap
  to_string_by (handler h v (codes "__tostring")) v callers

pub to_string : {P : Allowed} → (args : List Value) (callers : Levels) → Quiet P (functions.to_string args callers)
to_string args callers = to_string_of (first args) callers

-- WALKS
three_of : {P : Allowed} → (vs : List Value) → Quiet P (functions.three_of vs)
three_of vs = give _

pairs_by : {P : Allowed} → (h : Value) (args : List Value) (callers : Levels) → Quiet P (functions.pairs_by h args callers)
pairs_by h args callers = choose _ (do
  t ← argument callers (a_table 1 (codes "pairs") args)
  give (Builtin BasicNext ∷ Table t ∷ Nil ∷ [])) (calling h _ (for_values three_of))

pub pairs : {P : Allowed} → (args : List Value) (callers : Levels) → Quiet P (functions.pairs args callers)
pairs args callers = do
  h ← see_heap
  pairs_by (handler h (first args) (codes "__pairs")) args callers

ipairs_by : {P : Allowed} → (h : Value) (args : List Value) (callers : Levels) → Quiet P (functions.ipairs_by h args callers)
ipairs_by h args callers = choose _ (do
  t ← argument callers (a_table 1 (codes "ipairs") args)
  give (Builtin IpairsStep ∷ Table t ∷ Number (pos 0) ∷ [])) (calling h _ (for_values three_of))

pub ipairs : {P : Allowed} → (args : List Value) (callers : Levels) → Quiet P (functions.ipairs args callers)
ipairs args callers = do
  h ← see_heap
  ipairs_by (handler h (first args) (codes "__ipairs")) args callers

place_and_value : {P : Allowed} → (n : ℤ) (v : Value) → Quiet P (functions.place_and_value n v)
place_and_value n Nil = give _
place_and_value n v = give _

pub ipairs_step : {P : Allowed} → (args : List Value) (callers : Levels) → Quiet P (functions.ipairs_step args callers)
ipairs_step args callers = do
  t ← argument callers (a_table 1 (codes "ipairs") args)
  n ← argument callers (a_number 2 (codes "ipairs") (rest args))
  h ← see_heap
  choose (fits (n +ℤ pos 1)) (place_and_value (n +ℤ pos 1) (get (table_at h t).entries (Number (n +ℤ pos 1)))) (give (Nil ∷ []))
