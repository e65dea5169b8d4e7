-- WHAT WAITS for the outcome of a call, or for the answer to a question.
use Rattle.std.specs.Prelude.{true, List, [], ◌∷◌, length, Ok, Err}
use Rattle.page_run.specs.Outcome.{Outcome, Goes, Jumps, ◌>>=◌, ◌>>◌, give, jump, catch, tick, ask}
use Rattle.lua_walk.specs.LuaHeapValue.{Value, Text}
use Rattle.lua_walk.specs.LuaHeapGraph.{join, joined_root}
use Rattle.lua_meaning.specs.Scope.{Bytes, Levels}
use Rattle.mw_frame.specs.declared.question.Ask.{Ask}
use Rattle.lua_meaning.specs.Questions.{Answer, Expanded, NoPage, Loaded, LoadFailed}
use Rattle.lua_meaning.specs.Acts.{Act, Jump, raise, see_heap, change_heap}
use Rattle.lua_meaning.specs.Messages.{fail, wrong_answer}
use Rattle.lua_meaning.specs.Calls.{call}
use Rattle.lua_meaning.specs.Arguments.{Argument}

abbrev pub Waits : Type 0
Waits = Outcome (List Value) Jump → Act (List Value)

-- A CALL, and what waits for its outcome. A function of the library calls from no place of the text, so the levels of what it calls
-- are empty.
abbrev pub calling : Value → List Value → Waits → Act (List Value)
calling f args waits = catch (call f args []) waits

-- what waits for values alone: an error goes on
abbrev pub for_values : (List Value → Act (List Value)) → Waits
for_values f (Goes vs) = f vs
for_values f (Jumps j) = jump j

-- A QUESTION, and what waits for its answer. An answer is told as an outcome: a text; no values where there is no page; the root of
-- the tables that it brings, which are read-only; or the message of a failed load, which is raised as it is.
abbrev pub receive : Answer → Act (List Value)
receive (Expanded text) = give (Text text ∷ [])
receive NoPage = give []
receive (Loaded graph) = do
  h ← see_heap
  change_heap (join true graph h)
  give (joined_root h ∷ [])
receive (LoadFailed message) = raise (Text message)

abbrev pub ask_and_receive : Ask → Act (List Value)
ask_and_receive question = do
  answer ← ask question
  receive answer

abbrev pub asking : Ask → Waits → Act (List Value)
asking question waits = catch (ask_and_receive question) waits

-- an answer that does not belong to its question
abbrev pub refuse_answer : Act (List Value)
refuse_answer = raise (Text wrong_answer)

-- an argument, or its message at level 1
abbrev pub argument : {X : Type 0} → Levels → Argument X → Act X
argument callers (Ok x) = give x
argument callers (Err message) = fail callers message

-- a text that is made: it costs as many steps as it has bytes
abbrev pub text_value : Bytes → Act (List Value)
text_value t = tick (length t) >> give (Text t ∷ [])
