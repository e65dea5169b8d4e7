-- The run of a data module asks for data alone; so it is the same run, however other questions would be answered.
use Rattle.std.proofs.Common.{◌≡◌, ℕ, zero, suc, List, [], ◌∷◌, Option, Some, None, refl, ap, ◌∙◌}
use Rattle.wk_base.specs.declared.left.Left.{Left}
use Rattle.wk_base.specs.declared.title.Title.{Title}
use Rattle.wk_base.specs.Titles.{title_text}
use Rattle.page_run.specs.Run.{Ends, Takes, Counts, Notes, Sees, Changes, Calls, Leaves, Uses, Begins, Opens, Asks}
use Rattle.page_run.specs.State.{Response, Gives, Exhausts, Reply, Replier, State as Middle, start}
use Rattle.page_run.specs.Perform.{less, with_steps, enter_call, with_call, give_back, leave_call, count_node, take_reply, after_response, with_computed, with_reply, nothing_begins, perform_with, perform_by, perform, to_come}
use Rattle.lua_meaning_laws.specs.MwFrameDeclaredQuestionAsk.{Ask}
use Rattle.lua_meaning_laws.specs.LuaMeaningQuestions.{Answer}
use Rattle.lua_meaning_laws.specs.LuaMeaningCharges.{run_charge}
use Rattle.lua_meaning_laws.specs.LuaMeaningValues.{first}
use Rattle.lua_meaning_laws.specs.LuaMeaningWorld.{Module, World}
use Rattle.lua_meaning_laws.specs.LuaMeaningActs.{LuaRun, State}
use Rattle.lua_meaning_laws.specs.LuaMeaningMessages.{no_data_module}
use Rattle.lua_meaning_laws.specs.LuaMeaningThings.{meaning_of}
use Rattle.lua_meaning_laws.specs.LuaMeaningStart as whole
use Rattle.lua_meaning_laws.specs.LuaMeaningStart.{DataOf, run_of, data_outcome}
use Rattle.lua_meaning_laws.specs.LuaMeaningHome.{home}
use Rattle.lua_meaning_laws.specs.Laws.{IsForData}
use Rattle.lua_meaning_laws.proofs.OnlyData.{OnlyData, Quiet, ◌>>=◌, ◌>>◌, give, tick}
use Rattle.lua_meaning_laws.proofs.Heaps.{fail}
use Rattle.lua_meaning_laws.proofs.Modules.{run_chunk}
use Rattle.lua_meaning_laws.proofs.Things as quiet
use Rattle.page_meaning.specs.Told.{Seen}

abbrev Now : Type 0
Now = Middle State Answer

abbrev NoFrames : Now → Type 0
NoFrames s = s.heap.frames ≡ []

steps_same : (o : Option ℕ) (s : Now) (go go' : Now → Seen) → ((n : ℕ) → go record s { left = record s.left { steps = n } } ≡ go' record s { left = record s.left { steps = n } }) → with_steps o s go ≡ with_steps o s go'
steps_same (Some n) s go go' h = h n
steps_same None s go go' h = refl

call_same : (o : Option ℕ) (s : Now) (go go' : Now → Seen) → ((n : ℕ) → go (enter_call n s) ≡ go' (enter_call n s)) → with_call o s go ≡ with_call o s go'
call_same (Some n) s go go' h = h n
call_same None s go go' h = refl

heap_stays : (n : ℕ) (s : Now) → (give_back n s).heap ≡ s.heap
heap_stays zero s = refl
heap_stays (suc n) s = refl

response_same : (x : Response Answer) (s : Now) (go go' : Answer → Now → Seen) → ((a : Answer) → go a s ≡ go' a s) → after_response x s go ≡ after_response x s go'
response_same (Gives a) s go go' h = h a
response_same (Exhausts which) s go go' h = refl

computed_same : (o : Option (Reply Answer)) (question : Ask) (s : Now) (go go' : Answer → Now → Seen) → NoFrames s → ((a : Answer) (t : Now) → NoFrames t → go a t ≡ go' a t) → with_computed o question s go ≡ with_computed o question s go'
computed_same (Some r) question s go go' none h = response_same r.response (take_reply r [] s) go go' (λ a. h a (take_reply r [] s) none)
computed_same None question s go go' none h = refl

-- from each state without frames
abbrev Same : (LuaRun → Now → Seen) → (LuaRun → Now → Seen) → Type 0
Same go go' = (p : LuaRun) → OnlyData p → (s : Now) → NoFrames s → go p s ≡ go' p s

module _ (world : World) (b b' : Replier Ask Answer) (agree : (question : Ask) → IsForData question → (l : Left) → b question l ≡ b' question l) where
  reply_same : (given : List (Reply Answer)) (question : Ask) (s : Now) (go go' : Answer → Now → Seen) → IsForData question → NoFrames s → ((a : Answer) (t : Now) → NoFrames t → go a t ≡ go' a t) → with_reply b given question s go ≡ with_reply b' given question s go'
  reply_same [] question s go go' data_ none h = computed_same (b question s.left) question s go go' none h ∙ ap (λ o. with_computed o question s go') (agree question data_ s.left)
  reply_same (r ∷ given) question s go go' data_ none h = response_same r.response (take_reply r given s) go go' (λ a. h a (take_reply r given s) none)

  with_same : (g g' : LuaRun → Now → Seen) → Same g g' → Same (perform_with (meaning_of world) b g) (perform_with (meaning_of world) b' g')
  with_same g g' h (Ends outcome) only s none = refl
  with_same g g' h (Takes n p) only s none = steps_same (less n s.left.steps) s (perform_with (meaning_of world) b g p) (perform_with (meaning_of world) b' g' p) (λ r. with_same g g' h p only record s { left = record s.left { steps = r } } none)
  with_same g g' h (Counts p) only s none = with_same g g' h p only (count_node s) none
  with_same g g' h (Notes source name p) only s none = with_same g g' h p only s none
  with_same g g' h (Sees f) only s none = with_same g g' h (f s.heap) (only s.heap none) s none
  with_same g g' h (Changes heap p) (empty, only) s none = with_same g g' h p only record s { heap = heap } empty
  with_same g g' h (Calls p) only s none = call_same (less 1 s.left.calls) s (perform_with (meaning_of world) b g p) (perform_with (meaning_of world) b' g' p) (λ r. with_same g g' h p only (enter_call r s) none)
  with_same g g' h (Leaves p) only s none = with_same g g' h p only (leave_call s) (ap (λ (x : State). x.frames) (heap_stays s.in_progress s) ∙ none)
  with_same g g' h (Uses may what f) only s none = absurd may
  with_same g g' h (Begins thing f) only s none =
      steps_same (less 1 s.left.steps) s (g (meaning_of world thing f)) (g' (meaning_of world thing f)) (λ r. h (meaning_of world thing f) ((quiet.meaning_of world thing).before f only) record s { left = record s.left { steps = r } } none)
  with_same g g' h (Opens may thing p f) only s none = absurd may
  with_same g g' h (Asks question f) (data_, only) s none =
      reply_same s.replies question s (λ a. perform_with (meaning_of world) b g (f a)) (λ a. perform_with (meaning_of world) b' g' (f a)) data_ none (λ a t e. with_same g g' h (f a) (only a) t e)

  by_same : (n : ℕ) → Same (perform_by (meaning_of world) b n) (perform_by (meaning_of world) b' n)
  by_same zero = with_same nothing_begins nothing_begins (λ p only s none. refl)
  by_same (suc n) = with_same (perform_by (meaning_of world) b n) (perform_by (meaning_of world) b' n) (by_same n)

  perform_same : Same (perform (meaning_of world) b) (perform (meaning_of world) b')
  unfolding perform
  perform_same p only s none = by_same (to_come s) p only s none

-- the run of a data module
run_data_module : (title : Title) (m : Option Module) → Quiet (whole.run_data_module title m)
run_data_module title (Some m) = run_chunk title m
run_data_module title None = fail [] (no_data_module (title_text title))

run_data : (world : World) (title : Title) → Quiet (whole.run_data world title)
run_data world title = do
  tick run_charge
  vs ← run_data_module title (world.modules title)
  give (whole.data_value (first vs))

-- with two ways to compute replies that agree on data
pub data_run_same : (world : World) (b b' : Replier Ask Answer) → ((question : Ask) → IsForData question → (l : Left) → b question l ≡ b' question l) → (title : Title) (l : Left) → perform (meaning_of world) b (run_of world (DataOf title)) (start home l []) ≡ perform (meaning_of world) b' (run_of world (DataOf title)) (start home l [])
data_run_same world b b' agree title l =
    perform_same world b b' agree (run_of world (DataOf title)) ((run_data world title).before (λ o. Ends (data_outcome o)) (λ o. tt)) (start home l []) refl
