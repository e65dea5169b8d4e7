-- From runs to what is seen of them: one induction over events. Where a run asks for data alone and there are no frames, so it is with
-- each event that it comes to.
use Rattle.std.proofs.Common.{◌≡◌, ℕ, zero, suc, List, [], ◌∷◌, Option, Some, None, refl, ap, ◌∙◌}
use Rattle.lua_meaning.specs.WkBaseDeclaredTitleTitle.{Title}
use Rattle.lua_meaning.specs.WkBaseTitles.{title_text}
use Rattle.lua_meaning.specs.PageRunRun.{Ends, Takes, Counts, Notes, Sees, Changes, Calls, Leaves, Uses, Begins, Opens, Asks}
use Rattle.lua_meaning.specs.PageRunOutcome.{Outcome}
use Rattle.lua_meaning.specs.PageRunState.{Response, Gives, Exhausts, Reply, State as Middle, Event, start}
use Rattle.lua_meaning.specs.PageRunPerform.{less, with_steps, enter_call, with_call, give_back, leave_call, count_node, take_reply, after_response, with_reply, nothing_begins, perform_with, perform_by, perform, to_come, wait}
use Rattle.lua_meaning.specs.MwFrameDeclaredQuestionAsk.{Ask}
use Rattle.lua_meaning.specs.LuaHeapValue.{Value}
use Rattle.lua_meaning.specs.Questions.{Answer}
use Rattle.lua_meaning.specs.Charges.{run_charge}
use Rattle.lua_meaning.specs.Values.{first}
use Rattle.lua_meaning.specs.World.{Module, World}
use Rattle.lua_meaning.specs.Acts.{LuaRun, Jump, State}
use Rattle.lua_meaning.specs.Messages.{no_data_module}
use Rattle.lua_meaning.specs.Things.{meaning_of}
use Rattle.lua_meaning.specs.Start as whole
use Rattle.lua_meaning.specs.Start.{data_outcome}
use Rattle.lua_meaning.specs.Home.{home}
use Rattle.lua_meaning_laws.specs.Laws.{IsForData, AsksForData, DataRunsAskForData}
use Rattle.lua_meaning_laws.proofs.OnlyData.{OnlyData, Quiet, ◌>>=◌, ◌>>◌, give, tick}
use Rattle.lua_meaning_laws.proofs.Heaps.{fail}
use Rattle.lua_meaning_laws.proofs.Modules.{run_chunk}
use Rattle.lua_meaning_laws.proofs.Things as quiet

-- a run in the middle, and what is seen of it in the end
abbrev Now : Type 0
Now = Middle State Answer

abbrev Seen : Type 0
Seen = Event State Ask (Outcome (List Value) Jump)

abbrev NoFrames : Now → Type 0
NoFrames s = s.heap.frames ≡ []

with_steps_asks : (o : Option ℕ) (s : Now) (go : Now → Seen) → ((n : ℕ) → AsksForData (go record s { left = record s.left { steps = n } })) → AsksForData (with_steps o s go)
with_steps_asks (Some n) s go h = h n
with_steps_asks None s go h = tt

with_call_asks : (o : Option ℕ) (s : Now) (go : Now → Seen) → ((n : ℕ) → AsksForData (go (enter_call n s))) → AsksForData (with_call o s go)
with_call_asks (Some n) s go h = h n
with_call_asks None s go h = tt

given_back : (n : ℕ) (s : Now) → (give_back n s).heap ≡ s.heap
given_back zero s = refl
given_back (suc n) s = refl

response_asks : (x : Response Answer) (s : Now) (go : Answer → Now → Seen) → ((a : Answer) → AsksForData (go a s)) → AsksForData (after_response x s go)
response_asks (Gives a) s go h = h a
response_asks (Exhausts which) s go h = tt

reply_asks : (replies : List (Reply Answer)) (question : Ask) (s : Now) (go : Answer → Now → Seen) → IsForData question → NoFrames s → ((a : Answer) (t : Now) → NoFrames t → AsksForData (go a t)) → AsksForData (with_reply wait replies question s go)
reply_asks [] question s go data_ none h = data_
reply_asks (r ∷ replies) question s go data_ none h = response_asks r.response (take_reply r replies s) go (λ a. h a (take_reply r replies s) none)

-- what is so of each run from each state without frames
abbrev Always : (LuaRun → Now → Seen) → Type 0
Always go = (p : LuaRun) → OnlyData p → (s : Now) → NoFrames s → AsksForData (go p s)

-- no thing that begins can change that, since each is quiet
module _ (world : World) where
  with_asks : (begins : LuaRun → Now → Seen) → Always begins → Always (perform_with (meaning_of world) wait begins)
  with_asks begins h (Ends outcome) only s none = tt
  with_asks begins h (Takes n p) only s none = with_steps_asks (less n s.left.steps) s (perform_with (meaning_of world) wait begins p) (λ r. with_asks begins h p only record s { left = record s.left { steps = r } } none)
  with_asks begins h (Counts p) only s none = with_asks begins h p only (count_node s) none
  with_asks begins h (Notes source name p) only s none = with_asks begins h p only s none
  with_asks begins h (Sees f) only s none = with_asks begins h (f s.heap) (only s.heap none) s none
  with_asks begins h (Changes heap p) (empty, only) s none = with_asks begins h p only record s { heap = heap } empty
  with_asks begins h (Calls p) only s none = with_call_asks (less 1 s.left.calls) s (perform_with (meaning_of world) wait begins p) (λ r. with_asks begins h p only (enter_call r s) none)
  with_asks begins h (Leaves p) only s none = with_asks begins h p only (leave_call s) (ap (λ (x : State). x.frames) (given_back s.in_progress s) ∙ none)
  with_asks begins h (Uses may what f) only s none = absurd may
  with_asks begins h (Begins thing f) only s none =
      with_steps_asks (less 1 s.left.steps) s (begins (meaning_of world thing f)) (λ r. h (meaning_of world thing f) ((quiet.meaning_of world thing).before f only) record s { left = record s.left { steps = r } } none)
  with_asks begins h (Opens may thing p f) only s none = absurd may
  with_asks begins h (Asks question f) (data_, only) s none =
      reply_asks s.replies question s (λ a. perform_with (meaning_of world) wait begins (f a)) data_ none (λ a t e. with_asks begins h (f a) (only a) t e)

  by_asks : (n : ℕ) → Always (perform_by (meaning_of world) wait n)
  by_asks zero = with_asks nothing_begins (λ p only s none. tt)
  by_asks (suc n) = with_asks (perform_by (meaning_of world) wait n) (by_asks n)

  perform_asks : Always (perform (meaning_of world) wait)
  unfolding perform
  perform_asks p only s none = by_asks (to_come s) p only s none

-- THE RUN OF A DATA MODULE
run_data_module : (title : Title) (m : Option Module) → Quiet (whole.run_data_module title m)
run_data_module title (Some m) = run_chunk title m
run_data_module title None = fail [] (no_data_module (title_text title))

run_data : (world : World) (title : Title) → Quiet (whole.run_data world title)
run_data world title = do
  tick run_charge
  vs ← run_data_module title (world.modules title)
  give (whole.data_value (first vs))

pub data_runs_ask_for_data : DataRunsAskForData
data_runs_ask_for_data world title left replies =
    perform_asks world (whole.run_of world (whole.DataOf title)) ((run_data world title).before (λ o. Ends (data_outcome o)) (λ o. tt)) (start home left replies) refl
