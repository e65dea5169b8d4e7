-- From runs to their notes: one induction over events. Where a run notes only what is allowed, and functions are sound, each note of its
-- trace is allowed.
use Rattle.std.proofs.Common.{◌≡◌, ℕ, zero, suc, List, [], ◌∷◌, ◌++◌, Option, Some, None, inl, inr, refl, sym, subst}
use Rattle.std.specs.Prelude.{codes}
use Rattle.page_run.specs.Run.{Ends, Takes, Counts, Notes, Sees, Changes, Calls, Leaves, Uses, Begins, Opens, Asks}
use Rattle.page_run.specs.State.{Response, Gives, Exhausts, Reply, State as Middle, start}
use Rattle.page_run.specs.Perform.{less, enter_call, give_back, leave_call, count_node, take_reply, to_come, wait}
use Rattle.page_run.specs.Trace.{Note, if_left, behind_response, behind_question, nothing_noted, trace_with, trace_by, trace}
use Rattle.wk_base.specs.declared.left.Left.{Left}
use Rattle.wk_base.specs.declared.title.Title.{Title}
use Rattle.wk_base.specs.Titles.{title_text}
use Rattle.lua_meaning.specs.MwFrameDeclaredQuestionAsk.{Ask}
use Rattle.lua_meaning.specs.MwFrameDeclaredSceneJob.{Job}
use Rattle.lua_meaning.specs.MwHtmlRender.{Piece, Whole, Deep, count, render}
use Rattle.lua_walk.specs.LuaHeapValue.{Value, Text, Table, Markup}
use Rattle.lua_meaning.specs.Questions.{Answer}
use Rattle.lua_meaning.specs.Charges.{run_charge}
use Rattle.lua_meaning.specs.Scope.{Bytes}
use Rattle.lua_meaning.specs.Values.{first, text_in}
use Rattle.lua_meaning.specs.World.{Module, World}
use Rattle.lua_meaning.specs.Acts.{LuaRun, State}
use Rattle.lua_meaning.specs.Messages.{no_data_module}
use Rattle.lua_meaning.specs.Metatables.{handler}
use Rattle.lua_meaning.specs.Frames.{args_charge, make_frame, frame_table, new_frame}
use Rattle.lua_meaning.specs.Acts.{Unmade}
use Rattle.lua_meaning.specs.Things.{meaning_of}
use Rattle.lua_meaning.specs.Start as whole
use Rattle.lua_meaning.specs.Start.{Work, Invoke, DataOf, run_of, data_outcome, invoke_outcome}
use Rattle.lua_meaning.specs.Home.{home}
use Rattle.lua_lint_laws.specs.Laws.{IsIn, notes_of}
use Rattle.lua_lint_laws.proofs.Told.{Allowed, OnlyAllowed, IsSoundHeap, Quiet, ◌>>=◌, ◌>>◌, give, tick, choose, look, look_heap, change}
use Rattle.lua_lint_laws.proofs.Heaps.{one, fail}
use Rattle.lua_lint_laws.proofs.Calls.{call, index}
use Rattle.lua_lint_laws.proofs.CallBacks.{string_or_fail}
use Rattle.lua_lint_laws.proofs.Modules.{IsAllowedWorld, IfModule, run_chunk, require_module}
use Rattle.lua_lint_laws.proofs.Things as quiet

-- THE NOTES are allowed
pub record AreNoted (P : Allowed) (notes : List Note) : Type 0 where
  pub each : (n : Note) → IsIn n notes → P n.source n.name

no_note : {P : Allowed} → AreNoted P []
no_note = record { each = λ n at. absurd at }

first_noted : {P : Allowed} → (n : Note) (notes : List Note) → P n.source n.name → AreNoted P notes → AreNoted P (n ∷ notes)
first_noted {P = P} n notes allowed noted = record { each = go }
  where
    go : (m : Note) → IsIn m (n ∷ notes) → P m.source m.name
    go m (inl e) = subst (λ (x : Note). P x.source x.name) e allowed
    go m (inr at) = noted.each m at

-- a run in the middle
abbrev Now : Type 0
Now = Middle State Answer

abbrev IsSoundNow : Allowed → Now → Type 0
IsSoundNow P s = IsSoundHeap P s.heap.heap

if_left_noted : {P : Allowed} → (o : Option ℕ) (go : ℕ → List Note) → ((n : ℕ) → AreNoted P (go n)) → AreNoted P (if_left o go)
if_left_noted (Some n) go h = h n
if_left_noted None go h = no_note

given_back : (n : ℕ) (s : Now) → (give_back n s).heap ≡ s.heap
given_back zero s = refl
given_back (suc n) s = refl

response_noted : {P : Allowed} → (x : Response Answer) (go : Answer → List Note) → ((a : Answer) → AreNoted P (go a)) → AreNoted P (behind_response x go)
response_noted (Gives a) go h = h a
response_noted (Exhausts which) go h = no_note

question_noted : {P : Allowed} → (replies : List (Reply Answer)) (question : Ask) (s : Now) (go : Answer → Now → List Note) → IsSoundNow P s → ((a : Answer) (t : Now) → IsSoundNow P t → AreNoted P (go a t)) → AreNoted P (behind_question wait replies question s go)
question_noted [] question s go sound h = no_note
question_noted (r ∷ replies) question s go sound h = response_noted r.response (λ a. go a (take_reply r replies s)) (λ a. h a (take_reply r replies s) sound)

-- what is so of each run from each state whose functions are sound
abbrev Always : Allowed → (LuaRun → Now → List Note) → Type 0
Always P go = (p : LuaRun) → OnlyAllowed P p → (s : Now) → IsSoundNow P s → AreNoted P (go p s)

module _ {P : Allowed} (world : World) (all : IsAllowedWorld P world) where
  with_noted : (begins : LuaRun → Now → List Note) → Always P begins → Always P (trace_with (meaning_of world) wait begins)
  with_noted begins h (Ends outcome) only s sound = no_note
  with_noted begins h (Takes n p) only s sound = if_left_noted (less n s.left.steps) (λ r. trace_with (meaning_of world) wait begins p record s { left = record s.left { steps = r } }) (λ r. with_noted begins h p only record s { left = record s.left { steps = r } } sound)
  with_noted begins h (Counts p) only s sound = with_noted begins h p only (count_node s) sound
  with_noted begins h (Notes source name p) (allowed, only) s sound = first_noted (record { source = source; name = name }) _ allowed (with_noted begins h p only s sound)
  with_noted begins h (Sees f) only s sound = with_noted begins h (f s.heap) (only s.heap sound) s sound
  with_noted begins h (Changes heap p) (fine, only) s sound = with_noted begins h p only record s { heap = heap } fine
  with_noted begins h (Calls p) only s sound = if_left_noted (less 1 s.left.calls) (λ r. trace_with (meaning_of world) wait begins p (enter_call r s)) (λ r. with_noted begins h p only (enter_call r s) sound)
  with_noted begins h (Leaves p) only s sound = with_noted begins h p only (leave_call s) (subst (λ (x : State). IsSoundHeap P x.heap) (sym (given_back s.in_progress s)) sound)
  with_noted begins h (Uses may what f) only s sound = absurd may
  with_noted begins h (Begins thing f) (fine, only) s sound =
      if_left_noted (less 1 s.left.steps) (λ r. begins (meaning_of world thing f) record s { left = record s.left { steps = r } })
      (λ r. h (meaning_of world thing f) ((quiet.meaning_of world all thing fine).before f only) record s { left = record s.left { steps = r } } sound)
  with_noted begins h (Opens may thing p f) only s sound = absurd may
  with_noted begins h (Asks question f) only s sound =
      question_noted s.replies question s (λ a. trace_with (meaning_of world) wait begins (f a)) sound (λ a t fine. with_noted begins h (f a) (only a) t fine)

  by_noted : (n : ℕ) → Always P (trace_by (meaning_of world) wait n)
  by_noted zero = with_noted (nothing_noted (meaning_of world) wait) (λ p only s sound. no_note)
  by_noted (suc n) = with_noted (trace_by (meaning_of world) wait n) (by_noted n)

  trace_noted : Always P (trace (meaning_of world) wait)
  unfolding trace
  trace_noted p only s sound = by_noted (to_come s) p only s sound

-- THE RUN OF A DATA MODULE
run_data_module : {P : Allowed} → (title : Title) (m : Option Module) → IfModule P title m → Quiet P (whole.run_data_module title m)
run_data_module title (Some m) ok = run_chunk title m ok
run_data_module title None ok = fail [] (no_data_module (title_text title))

run_data : {P : Allowed} → (world : World) → IsAllowedWorld P world → (title : Title) → Quiet P (whole.run_data world title)
run_data world all title = do
  tick run_charge
  vs ← run_data_module title (world.modules title) (all title)
  give (whole.data_value (first vs))

-- AN INVOCATION
begin_frame : {P : Allowed} → (job : Job) → Quiet P (whole.begin_frame job)
begin_frame job = look (λ s e. change (record s { heap = make_frame job.scene 0 s.heap; frames = new_frame s.heap job.scene (Unmade job.parent) ∷ [] }) e >> give (frame_table s.heap))

text_by : {P : Allowed} → (h v : Value) → Quiet P (whole.text_by h v)
text_by h v = choose _ (give _) (do
  vs ← call h (v ∷ []) []
  string_or_fail [] (text_in (first vs)))

whole_or_fail : {P : Allowed} → (p : Piece) → Quiet P (whole.whole_or_fail p)
whole_or_fail (Whole bytes begun) = give _
whole_or_fail (Deep bytes begun) = fail [] _

rendered : {P : Allowed} → (p : Piece) → Quiet P (whole.rendered p)
rendered p = do
  tick (count p)
  whole_or_fail p

answer_text : {P : Allowed} → (v : Value) → Quiet P (whole.answer_text v)
answer_text (Markup m) = look_heap (λ h ok. rendered (render h.markup m))
answer_text v = look_heap (λ h ok. text_by (handler h v (codes "__tostring")) v)

answer_texts : {P : Allowed} → (vs : List Value) (before : Bytes) → Quiet P (whole.answer_texts vs before)
answer_texts [] before = give before
answer_texts (v ∷ vs) before = do
  t ← answer_text v
  answer_texts vs (before ++ t)

answer : {P : Allowed} → (vs : List Value) → Quiet P (whole.answer vs)
answer vs = do
  t ← answer_texts vs []
  tick _ >> give _

invoke_function : {P : Allowed} → (name : Bytes) (f frame : Value) → Quiet P (whole.invoke_function name f frame)
invoke_function name f frame = choose _ (do
  vs ← call f (frame ∷ []) []
  answer vs) (give _)

invoke_in : {P : Allowed} → (name : Bytes) (v frame : Value) → Quiet P (whole.invoke_in name v frame)
invoke_in name (Table t) frame = do
  f ← index (Table t) (Text name) []
  invoke_function name f frame
invoke_in name v frame = give _

invoke : {P : Allowed} → (world : World) → IsAllowedWorld P world → (job : Job) → Quiet P (whole.invoke world job)
invoke world all job = do
  tick run_charge
  tick (args_charge job.scene.args)
  frame ← begin_frame job
  module_ ← one (require_module world all (title_text job.«module») job.«module» [])
  invoke_in job.function module_ frame

run_allowed : (P : Allowed) (world : World) → IsAllowedWorld P world → (work : Work) → OnlyAllowed P (run_of world work)
run_allowed P world all (Invoke job) = (invoke world all job).before (λ o. Ends (invoke_outcome o)) (λ o. tt)
run_allowed P world all (DataOf title) = (run_data world all title).before (λ o. Ends (data_outcome o)) (λ o. tt)

-- the heap of a fresh environment holds no function of Lua
no_functions : {P : Allowed} → IsSoundHeap P home.heap
no_functions = record { each = λ f at. absurd at }

-- EACH NOTE of a run is allowed
pub notes_allowed : {P : Allowed} → (world : World) → IsAllowedWorld P world → (work : Work) (left : Left) (replies : List (Reply Answer)) → AreNoted P (notes_of world work left replies)
notes_allowed {P = P} world all work left replies = trace_noted world all (run_of world work) (run_allowed P world all work) (start home left replies) no_functions
