-- WHAT A RUN NOTES on its way, in order. It goes as `perform` does, and as far: to the end, to where an allowance is spent, or to a
-- question that waits.
use Rattle.std.specs.Prelude.{◌≡◌, ℕ, zero, suc, List, [], ◌∷◌, Option, Some, None}
use Rattle.page_run.specs.Run.{Run, Ends, Takes, Counts, Notes, Sees, Changes, Calls, Leaves, Uses, Begins, Opens, Asks, Meaning}
use Rattle.page_run.specs.State.{Response, Gives, Exhausts, Reply, Replier, State}
use Rattle.page_run.specs.Perform.{less, apply_use, after_use, enter_call, leave_call, count_node, take_reply, to_come}

-- a note: the text of this source names this
pub record Note : Type 0 where
  pub source : List ℕ
  pub name : List ℕ

-- what is noted while an allowance is there
abbrev pub if_left : Option ℕ → (ℕ → List Note) → List Note
if_left (Some rest) go = go rest
if_left None go = []

abbrev pub or_without : Option ℕ → (ℕ → List Note) → List Note → List Note
or_without (Some rest) go without = go rest
or_without None go without = without

-- behind a reply
abbrev pub behind_response : {A : Type 0} → Response A → (A → List Note) → List Note
behind_response (Gives a) go = go a
behind_response (Exhausts w) go = []

abbrev pub behind_reply : {H A : Type 0} → Reply A → List (Reply A) → State H A → (A → State H A → List Note) → List Note
behind_reply r replies s go = behind_response r.response (λ a. go a (take_reply r replies s))

abbrev pub behind_computed : {H A : Type 0} → Option (Reply A) → State H A → (A → State H A → List Note) → List Note
behind_computed (Some r) s go = behind_reply r [] s go
behind_computed None s go = []

abbrev pub behind_question : {H Q A : Type 0} → Replier Q A → List (Reply A) → Q → State H A → (A → State H A → List Note) → List Note
behind_question beyond [] q s go = behind_computed (beyond q s.left) s go
behind_question beyond (r ∷ replies) q s go = behind_reply r replies s go

module _ {M H T Q A O : Type 0} (meaning : Meaning M H T Q A O) (beyond : Replier Q A) where
  -- the events in turn, where `begins` collects what the things note that begin
  abbrev pub trace_with : (Run M H T Q A O → State H A → List Note) → Run M H T Q A O → State H A → List Note
  trace_with begins (Ends o) s = []
  trace_with begins (Takes n p) s = if_left (less n s.left.steps) (λ rest. trace_with begins p record s { left = record s.left { steps = rest } })
  trace_with begins (Counts p) s = trace_with begins p (count_node s)
  trace_with begins (Notes source name p) s = record { source = source; name = name } ∷ trace_with begins p s
  trace_with begins (Sees f) s = trace_with begins (f s.heap) s
  trace_with begins (Changes h p) s = trace_with begins p record s { heap = h }
  trace_with begins (Calls p) s = if_left (less 1 s.left.calls) (λ rest. trace_with begins p (enter_call rest s))
  trace_with begins (Leaves p) s = trace_with begins p (leave_call s)
  trace_with begins (Uses v u f) s = trace_with begins (f (apply_use u s.left).0) (after_use u s)
  trace_with begins (Begins t k) s = if_left (less 1 s.left.steps) (λ rest. begins (meaning t k) record s { left = record s.left { steps = rest } })
  trace_with begins (Opens v t p k) s = or_without (less 1 s.left.nodes) (λ rest. begins (meaning t k) record s { left = record s.left { nodes = rest } }) (trace_with begins p s)
  trace_with begins (Asks q f) s = behind_question beyond s.replies q s (λ a. trace_with begins (f a))

  abbrev pub nothing_noted : Run M H T Q A O → State H A → List Note
  nothing_noted p s = []

  -- with at most n things
  abbrev pub trace_by : ℕ → Run M H T Q A O → State H A → List Note
  trace_by zero = trace_with nothing_noted
  trace_by (suc n) = trace_with (trace_by n)

  -- THE NOTES of a run
  unfoldable pub trace : Run M H T Q A O → State H A → List Note
  trace p s = trace_by (to_come s) p s

  -- a note is the first one, before those of what follows
  abbrev pub NotesAreTold : Type 0
  NotesAreTold = (source name : List ℕ) (p : Run M H T Q A O) (s : State H A) → trace (Notes source name p) s ≡ record { source = source; name = name } ∷ trace p s
