-- WHAT A RUN COMES TO, from a state: its events are performed one after another.
use Rattle.std.specs.Prelude.{◌≡◌, ℕ, zero, suc, ◌+◌, ◌-◌, ◌≤◌, max, Bool, true, false, List, [], ◌∷◌, ◌++◌, Option, Some, None, nat_le}
use Rattle.wk_base.specs.declared.left.Left.{Left}
use Rattle.page_run.specs.declared.which.Which.TheVariants.{Steps, Calls as CallsSpent}
use Rattle.page_run.specs.Run.{Use, TakeBytes, EnterDepth, LeaveDepth, HasTemplate, EnterTemplate, LeaveTemplate, Run, Ends, Takes, Counts, Notes, Sees, Changes, Calls, Leaves, Uses, Begins, Opens, Asks, Meaning}
use Rattle.page_run.specs.State.{join, Response, Gives, Exhausts, Reply, Replier, State, moment, with_calls_back, Event, Ended, Spent, Asked}

-- so many of what is left, if they are there
abbrev pub less_if : Bool → ℕ → ℕ → Option ℕ
less_if true n left = Some (left - n)
less_if false n left = None

abbrev pub less : ℕ → ℕ → Option ℕ
less n left = less_if (nat_le n left) n left

-- USES: whether there was enough, and what is left. Bytes that are not covered leave none.
abbrev pub after_bytes : Option ℕ → Left → Bool × Left
after_bytes (Some rest) l = (true, record l { bytes = rest })
after_bytes None l = (false, record l { bytes = 0 })

abbrev pub after_depth : Option ℕ → Left → Bool × Left
after_depth (Some rest) l = (true, record l { depth = rest })
after_depth None l = (false, l)

abbrev pub after_template : Option ℕ → Left → Bool × Left
after_template (Some rest) l = (true, record l { templates = rest })
after_template None l = (false, l)

abbrev pub apply_use : Use → Left → Bool × Left
apply_use (TakeBytes n) l = after_bytes (less n l.bytes) l
apply_use EnterDepth l = after_depth (less 1 l.depth) l
apply_use LeaveDepth l = (true, record l { depth = l.depth + 1 })
apply_use HasTemplate l = (nat_le 1 l.templates, l)
apply_use EnterTemplate l = after_template (less 1 l.templates) l
apply_use LeaveTemplate l = (true, record l { templates = l.templates + 1 })

abbrev pub after_use : {H A : Type 0} → Use → State H A → State H A
after_use u s = record s { left = (apply_use u s.left).1 }

-- STEPS: a charge that is not covered spends the run, and leaves none
abbrev pub with_steps : {H Q A O : Type 0} → Option ℕ → State H A → (State H A → Event H Q O) → Event H Q O
with_steps (Some rest) s go = go record s { left = record s.left { steps = rest } }
with_steps None s go = Spent Steps (with_calls_back record s { left = record s.left { steps = 0 } })

abbrev pub after_steps : {H Q A O : Type 0} → ℕ → State H A → (State H A → Event H Q O) → Event H Q O
after_steps n s go = with_steps (less n s.left.steps) s go

-- CALLS: one more is in progress, and the height is raised to their number
abbrev pub enter_call : {H A : Type 0} → ℕ → State H A → State H A
enter_call rest s = record s {
  left = record s.left { calls = rest };
  in_progress = s.in_progress + 1;
  tally = record s.tally { height = max s.tally.height (s.in_progress + 1) };
}

abbrev pub with_call : {H Q A O : Type 0} → Option ℕ → State H A → (State H A → Event H Q O) → Event H Q O
with_call (Some rest) s go = go (enter_call rest s)
with_call None s go = Spent CallsSpent (with_calls_back s)

abbrev pub after_call : {H Q A O : Type 0} → State H A → (State H A → Event H Q O) → Event H Q O
after_call s go = with_call (less 1 s.left.calls) s go

-- one call is given back, where one is in progress
abbrev pub give_back : {H A : Type 0} → ℕ → State H A → State H A
give_back zero s = s
give_back (suc rest) s = record s { left = record s.left { calls = s.left.calls + 1 }; in_progress = rest }

abbrev pub leave_call : {H A : Type 0} → State H A → State H A
leave_call s = give_back s.in_progress s

-- NODES: one more is begun, in the tally; and the one that a thing opened takes
abbrev pub count_node : {H A : Type 0} → State H A → State H A
count_node s = record s { tally = record s.tally { nodes = s.tally.nodes + 1 } }

abbrev pub with_node : {H Q A O : Type 0} → Option ℕ → State H A → (State H A → Event H Q O) → (State H A → Event H Q O) → Event H Q O
with_node (Some rest) s go without = go record s { left = record s.left { nodes = rest } }
with_node None s go without = without s

abbrev pub after_node : {H Q A O : Type 0} → State H A → (State H A → Event H Q O) → (State H A → Event H Q O) → Event H Q O
after_node s go without = with_node (less 1 s.left.nodes) s go without

-- REPLIES: the run goes on with what the reply leaves
abbrev pub take_reply : {H A : Type 0} → Reply A → List (Reply A) → State H A → State H A
take_reply r replies s = record s { left = r.left; tally = join s.in_progress s.tally r.tally; replies = replies }

abbrev pub after_response : {H Q A O : Type 0} → Response A → State H A → (A → State H A → Event H Q O) → Event H Q O
after_response (Gives a) s go = go a s
after_response (Exhausts w) s go = Spent w (with_calls_back s)

abbrev pub after_reply : {H Q A O : Type 0} → Reply A → List (Reply A) → State H A → (A → State H A → Event H Q O) → Event H Q O
after_reply r replies s go = after_response r.response (take_reply r replies s) go

-- where a reply can be computed from what is left; where there is none, the run waits
abbrev pub with_computed : {H Q A O : Type 0} → Option (Reply A) → Q → State H A → (A → State H A → Event H Q O) → Event H Q O
with_computed (Some r) q s go = after_reply r [] s go
with_computed None q s go = Asked q (moment s)

-- the replies that are given come first, and beyond them those that are computed
abbrev pub with_reply : {H Q A O : Type 0} → Replier Q A → List (Reply A) → Q → State H A → (A → State H A → Event H Q O) → Event H Q O
with_reply beyond [] q s go = with_computed (beyond q s.left) q s go
with_reply beyond (r ∷ replies) q s go = after_reply r replies s go

-- What each thing costs: a step or a node. So there are never more things to begin than these, those that given replies leave included.
abbrev pub size : Left → ℕ
size l = l.steps + l.nodes

abbrev pub size_in : {A : Type 0} → List (Reply A) → ℕ
size_in [] = 0
size_in (r ∷ replies) = size r.left + size_in replies

abbrev pub to_come : {H A : Type 0} → State H A → ℕ
to_come s = size s.left + size_in s.replies

-- nothing can begin any more
abbrev pub nothing_begins : {M H T Q A O : Type 0} → Run M H T Q A O → State H A → Event H Q O
nothing_begins p s = Spent Steps (with_calls_back s)

module _ {M H T Q A O : Type 0} (meaning : Meaning M H T Q A O) (beyond : Replier Q A) where
  -- the events in turn, where `begins` performs the things that begin
  abbrev pub perform_with : (Run M H T Q A O → State H A → Event H Q O) → Run M H T Q A O → State H A → Event H Q O
  perform_with begins (Ends o) s = Ended o (with_calls_back s)
  perform_with begins (Takes n p) s = after_steps n s (perform_with begins p)
  perform_with begins (Counts p) s = perform_with begins p (count_node s)
  perform_with begins (Notes source name p) s = perform_with begins p s
  perform_with begins (Sees f) s = perform_with begins (f s.heap) s
  perform_with begins (Changes h p) s = perform_with begins p record s { heap = h }
  perform_with begins (Calls p) s = after_call s (perform_with begins p)
  perform_with begins (Leaves p) s = perform_with begins p (leave_call s)
  perform_with begins (Uses v u f) s = perform_with begins (f (apply_use u s.left).0) (after_use u s)
  perform_with begins (Begins t k) s = after_steps 1 s (begins (meaning t k))
  perform_with begins (Opens v t p k) s = after_node s (begins (meaning t k)) (perform_with begins p)
  perform_with begins (Asks q f) s = with_reply beyond s.replies q s (λ a. perform_with begins (f a))

  -- with at most n things
  abbrev pub perform_by : ℕ → Run M H T Q A O → State H A → Event H Q O
  perform_by zero = perform_with nothing_begins
  perform_by (suc n) = perform_with (perform_by n)

  -- THE MEANING of a run
  unfoldable pub perform : Run M H T Q A O → State H A → Event H Q O
  perform p s = perform_by (to_come s) p s

-- nothing is computed: a run waits at its first question beyond the given replies
abbrev pub wait : {Q A : Type 0} → Replier Q A
wait q l = None

-- the state with more replies given, after those that it has
abbrev pub add_replies : {H A : Type 0} → List (Reply A) → State H A → State H A
add_replies more s = record s { replies = s.replies ++ more }

-- replies leave no more steps and nodes than there were
abbrev pub NoRise : {Q A : Type 0} → Replier Q A → Type 0
NoRise {Q = Q} {A = A} beyond = (q : Q) (l : Left) (r : Reply A) → beyond q l ≡ Some r → size r.left ≤ size l
