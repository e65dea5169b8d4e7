-- A WHOLE RUN (Scribunto, "Invoking modules" and mw.loadData): its start with its charges, and its end.
use Rattle.std.specs.Prelude.{ℕ, List, [], ◌∷◌, ◌++◌, length, Option, Some, None, flat_map, if◌then◌else◌, ◌==◌, codes}
use Rattle.lua_syntax.specs.WkBaseDeclaredTitleTitle.{Title}
use Rattle.page_run.specs.WkBaseDeclaredLeftLeft.{Left}
use Rattle.lua_syntax.specs.WkBaseTitles.{title_text}
use Rattle.page_run.specs.Run.{Ends}
use Rattle.page_run.specs.Outcome.{Outcome, Goes, Jumps, ◌>>=◌, ◌>>◌, give, tick, see, change}
use Rattle.page_run.specs.State.{Reply, Event, start}
use Rattle.page_run.specs.Perform.{perform, wait}
use Rattle.mw_html.specs.Render.{Piece, Whole, Deep, count, render}
use Rattle.lua_walk.specs.LuaHeapValue.{Value, Text, Table, Markup, is_nil}
use Rattle.lua_meaning.specs.Charges.{run_charge}
use Rattle.lua_meaning.specs.Scope.{Bytes}
use Rattle.lua_meaning.specs.World.{Module, World}
use Rattle.mw_frame.specs.declared.scene.Job.{Job}
use Rattle.mw_frame.specs.declared.question.Ask.{Ask}
use Rattle.lua_meaning.specs.Questions.{Answer}
use Rattle.lua_meaning.specs.Values.{kind_of, first, text_in, is_function}
use Rattle.lua_meaning.specs.Acts.{Act, LuaRun, Jump, Raised, State, Unmade, choose, one, see_heap}
use Rattle.lua_meaning.specs.Messages.{fail, no_data_module}
use Rattle.lua_meaning.specs.Metatables.{handler}
use Rattle.lua_meaning.specs.Calls.{call}
use Rattle.lua_meaning.specs.Html.{nested_too_deeply}
use Rattle.lua_meaning.specs.Index.{index}
use Rattle.lua_meaning.specs.CallBacks.{text_of, string_or_fail}
use Rattle.lua_meaning.specs.Frames.{args_charge, make_frame, frame_table, new_frame}
use Rattle.lua_meaning.specs.Modules.{run_chunk, require_module}
use Rattle.lua_meaning.specs.Home.{home}
use Rattle.lua_meaning.specs.Things.{meaning_of}

-- the work of a run: an `#invoke`, or the load of a data module
pub data Work : Type 0 where
  Invoke : (job : Job) → Work
  DataOf : (title : Title) → Work

-- THE END: the text of an invocation, the value of a data module, or the text of a failure
pub data End : Type 0 where
  Done : (text : Bytes) → End
  DoneData : (value : Value) → End
  Failed : (text : Bytes) → End

-- THE FRAME of an invocation, which has number 0
abbrev pub begin_frame : Job → Act Value
begin_frame job = do
  s ← see
  change (record s { heap = make_frame job.scene 0 s.heap; frames = new_frame s.heap job.scene (Unmade job.parent) ∷ [] })
  give (frame_table s.heap)

-- THE ANSWER: each value's text, as `tostring` gives it and without its charge, one after another; the whole costs its length. The
-- rendering of an object of mw.html costs what it does in `tostring`.
abbrev pub text_by : Value → Value → Act Bytes
text_by h v = choose (is_nil h) (give (text_of v)) (do
  vs ← call h (v ∷ []) []
  string_or_fail [] (text_in (first vs)))

abbrev pub whole_or_fail : Piece → Act Bytes
whole_or_fail (Whole bytes begun) = give bytes
whole_or_fail (Deep bytes begun) = fail [] nested_too_deeply

abbrev pub rendered : Piece → Act Bytes
rendered p = do
  tick (count p)
  whole_or_fail p

abbrev pub answer_text : Value → Act Bytes
answer_text (Markup m) = do
  h ← see_heap
  rendered (render h.markup m)
answer_text v = do
  h ← see_heap
  text_by (handler h v (codes "__tostring")) v

abbrev pub answer_texts : List Value → Bytes → Act Bytes
answer_texts [] before = give before
answer_texts (v ∷ vs) before = do
  t ← answer_text v
  answer_texts vs (before ++ t)

abbrev pub answer : List Value → Act End
answer vs = do
  t ← answer_texts vs []
  tick (length t)
  give (Done t)

-- FAILURES
-- an error that nothing caught
abbrev pub shown_error : Option Bytes → Value → Bytes
shown_error (Some t) v = t
shown_error None v = codes "the error is a " ++ kind_of v ++ codes " value"

abbrev pub error_text : Value → Bytes
error_text v = shown_error (text_in v) v

-- AN INVOCATION: the module runs as `require` would run it; its value must be a table, no object of mw.html, and the value there at the function's name a function, which is called
-- with the frame.
abbrev pub invoke_function : Bytes → Value → Value → Act End
invoke_function name f frame =
    choose (is_function f)
    (do
      vs ← call f (frame ∷ []) []
      answer vs)
    (give (Failed (codes "Script error: The function \"" ++ name ++ codes "\" does not exist.")))

abbrev pub invoke_in : Bytes → Value → Value → Act End
invoke_in name (Table t) frame = do
  f ← index (Table t) (Text name) []
  invoke_function name f frame
invoke_in name v frame = give (Failed (codes "Script error: The module returned no table."))

abbrev pub invoke : World → Job → Act End
invoke world job = do
  tick run_charge
  tick (args_charge job.scene.args)
  frame ← begin_frame job
  module_ ← one (require_module world (title_text job.«module») job.«module» [])
  invoke_in job.function module_ frame

-- THE RUN OF A DATA MODULE has no frame, and must give a table. What that may hold is tested when it is taken out
-- of the heap.
abbrev pub data_value : Value → End
data_value (Table t) = DoneData (Table t)
data_value v = Failed (codes "data module returned no table")

abbrev pub run_data_module : Title → Option Module → Act (List Value)
run_data_module title (Some m) = run_chunk title m
run_data_module title None = fail [] (no_data_module (title_text title))

abbrev pub run_data : World → Title → Act End
run_data world title = do
  tick run_charge
  vs ← run_data_module title (world.modules title)
  give (data_value (first vs))

-- HOW A RUN ENDS. The failure of an invocation is to stand in a page, so its text is written without marks of HTML: here, and
-- nowhere else. That of a data module becomes the value of an error.
abbrev pub escape_byte : ℕ → Bytes
escape_byte c = if c == 38 then codes "&amp;" else if c == 60 then codes "&lt;" else if c == 62 then codes "&gt;" else c ∷ []

abbrev pub in_html : End → End
in_html (Failed t) = Failed (flat_map escape_byte t)
in_html e = e

-- an end as an outcome: a text or a value that is given, or the text of a failure that is raised
abbrev pub outcome_of : End → Outcome (List Value) Jump
outcome_of (Done t) = Goes (Text t ∷ [])
outcome_of (DoneData v) = Goes (v ∷ [])
outcome_of (Failed t) = Jumps (Raised (Text t))

abbrev pub invoke_outcome : Outcome End Jump → Outcome (List Value) Jump
invoke_outcome (Goes e) = outcome_of (in_html e)
invoke_outcome (Jumps (Raised v)) = outcome_of (in_html (Failed (codes "Lua error: " ++ error_text v)))
invoke_outcome (Jumps j) = Jumps j

abbrev pub data_outcome : Outcome End Jump → Outcome (List Value) Jump
data_outcome (Goes e) = outcome_of e
data_outcome (Jumps (Raised v)) = outcome_of (Failed (error_text v))
data_outcome (Jumps j) = Jumps j

abbrev pub run_of : World → Work → LuaRun
run_of world (Invoke job) = invoke world job (λ o. Ends (invoke_outcome o))
run_of world (DataOf title) = run_data world title (λ o. Ends (data_outcome o))

-- the end that an outcome tells
abbrev pub end_of : Outcome (List Value) Jump → End
end_of (Goes (Text t ∷ [])) = Done t
end_of (Goes vs) = DoneData (first vs)
end_of (Jumps (Raised (Text t))) = Failed t
end_of (Jumps j) = Failed []

-- THE MEANING OF ONE RUN: the event that is seen, after these replies
abbrev pub lua : World → Work → Left → List (Reply Answer) → Event State Ask (Outcome (List Value) Jump)
lua world work left replies = perform (meaning_of world) wait (run_of world work) (start home left replies)
