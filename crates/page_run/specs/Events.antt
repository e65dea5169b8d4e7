-- THE LAWS OF EVENTS, said without a bound on things.
use Rattle.std.specs.Prelude.{◌≡◌, ℕ, ◌+◌, ◌-◌, ◌<◌, ◌≤◌, max, Bool, true, false, List, [], ◌∷◌, Some, None}
use Rattle.page_run.specs.declared.which.Which.{Which}
use Rattle.page_run.specs.declared.which.Which.TheVariants.{Steps, Calls as AllCalls}
use Rattle.page_run.specs.Run.{TakeBytes, EnterDepth, LeaveDepth, HasTemplate, EnterTemplate, LeaveTemplate, Run, Ends, Takes, Counts, Notes, Sees, Changes, Calls, Leaves, Uses, Begins, Opens, Asks, Meaning}
use Rattle.page_run.specs.State.{join, Gives, Exhausts, Reply, Replier, Moment, State, moment, Ended, Spent, Asked}
use Rattle.page_run.specs.Perform.{perform, NoRise}

-- of all things' meanings, and of all ways to compute replies that leave no more than there was
abbrev pub Always : (M H T Q A O : Type 0) → (Meaning M H T Q A O → Replier Q A → Type 0) → Type 0
Always M H T Q A O Law = (meaning : Meaning M H T Q A O) (beyond : Replier Q A) → NoRise beyond → Law meaning beyond

-- an end: each call in progress is given back
abbrev pub moment_at_end : {H A : Type 0} → State H A → Moment H
moment_at_end s = record { heap = s.heap; left = record s.left { calls = s.left.calls + s.in_progress }; in_progress = 0; tally = s.tally }

-- a reply is told: what it leaves is left, and its tally joins the run's
abbrev pub state_after_reply : {H A : Type 0} → Reply A → List (Reply A) → State H A → State H A
state_after_reply r replies s = record { heap = s.heap; left = r.left; in_progress = s.in_progress; tally = join s.in_progress s.tally r.tally; replies = replies }

module _ {M H T Q A O : Type 0} (meaning : Meaning M H T Q A O) (beyond : Replier Q A) where
  abbrev pub EndsIs : Type 0
  EndsIs = (o : O) (s : State H A) → perform meaning beyond (Ends o) s ≡ Ended o (moment_at_end s)

  -- a charge, covered or not
  abbrev pub TakesIs : Type 0
  TakesIs = (n : ℕ) (p : Run M H T Q A O) (s : State H A) →
      (n ≤ s.left.steps → perform meaning beyond (Takes n p) s ≡ perform meaning beyond p record s { left = record s.left { steps = s.left.steps - n } })
      × (s.left.steps < n → perform meaning beyond (Takes n p) s ≡ Spent Steps (moment_at_end record s { left = record s.left { steps = 0 } }))

  abbrev pub CountsIs : Type 0
  CountsIs = (p : Run M H T Q A O) (s : State H A) → perform meaning beyond (Counts p) s ≡ perform meaning beyond p record s { tally = record s.tally { nodes = s.tally.nodes + 1 } }

  -- a note changes nothing: the meaning without its notes is the meaning
  abbrev pub NotesAre : Type 0
  NotesAre = (source name : List ℕ) (p : Run M H T Q A O) (s : State H A) → perform meaning beyond (Notes source name p) s ≡ perform meaning beyond p s

  abbrev pub SeesIs : Type 0
  SeesIs = (f : H → Run M H T Q A O) (s : State H A) → perform meaning beyond (Sees f) s ≡ perform meaning beyond (f s.heap) s

  abbrev pub ChangesIs : Type 0
  ChangesIs = (h : H) (p : Run M H T Q A O) (s : State H A) → perform meaning beyond (Changes h p) s ≡ perform meaning beyond p record s { heap = h }

  -- a function is entered, or no call is left for it
  abbrev pub CallsIs : Type 0
  CallsIs = (p : Run M H T Q A O) (s : State H A) →
      (0 < s.left.calls → perform meaning beyond (Calls p) s ≡ perform meaning beyond p record s {
        left = record s.left { calls = s.left.calls - 1 };
        in_progress = s.in_progress + 1;
        tally = record s.tally { height = max s.tally.height (s.in_progress + 1) };
      })
      × (s.left.calls ≡ 0 → perform meaning beyond (Calls p) s ≡ Spent AllCalls (moment_at_end s))

  -- a function is left; where none is in progress, nothing is
  abbrev pub LeavesIs : Type 0
  LeavesIs = (p : Run M H T Q A O) (s : State H A) →
      (0 < s.in_progress → perform meaning beyond (Leaves p) s ≡ perform meaning beyond p record s { left = record s.left { calls = s.left.calls + 1 }; in_progress = s.in_progress - 1 })
      × (s.in_progress ≡ 0 → perform meaning beyond (Leaves p) s ≡ perform meaning beyond p s)

  -- bytes of a result: where they are not covered, none stay
  abbrev pub BytesAre : Type 0
  BytesAre = (v : M) (n : ℕ) (f : Bool → Run M H T Q A O) (s : State H A) →
      (n ≤ s.left.bytes → perform meaning beyond (Uses v (TakeBytes n) f) s ≡ perform meaning beyond (f true) record s { left = record s.left { bytes = s.left.bytes - n } })
      × (s.left.bytes < n → perform meaning beyond (Uses v (TakeBytes n) f) s ≡ perform meaning beyond (f false) record s { left = record s.left { bytes = 0 } })

  -- levels of constructs and parameters
  abbrev pub DepthIs : Type 0
  DepthIs = (v : M) (f : Bool → Run M H T Q A O) (s : State H A) →
      (0 < s.left.depth → perform meaning beyond (Uses v EnterDepth f) s ≡ perform meaning beyond (f true) record s { left = record s.left { depth = s.left.depth - 1 } })
      × (s.left.depth ≡ 0 → perform meaning beyond (Uses v EnterDepth f) s ≡ perform meaning beyond (f false) s)
      × (perform meaning beyond (Uses v LeaveDepth f) s ≡ perform meaning beyond (f true) record s { left = record s.left { depth = s.left.depth + 1 } })

  -- levels of template bodies, which may be tested before they are entered
  abbrev pub TemplatesAre : Type 0
  TemplatesAre = (v : M) (f : Bool → Run M H T Q A O) (s : State H A) →
      (0 < s.left.templates → perform meaning beyond (Uses v HasTemplate f) s ≡ perform meaning beyond (f true) s)
      × (s.left.templates ≡ 0 → perform meaning beyond (Uses v HasTemplate f) s ≡ perform meaning beyond (f false) s)
      × (0 < s.left.templates → perform meaning beyond (Uses v EnterTemplate f) s ≡ perform meaning beyond (f true) record s { left = record s.left { templates = s.left.templates - 1 } })
      × (s.left.templates ≡ 0 → perform meaning beyond (Uses v EnterTemplate f) s ≡ perform meaning beyond (f false) s)
      × (perform meaning beyond (Uses v LeaveTemplate f) s ≡ perform meaning beyond (f true) record s { left = record s.left { templates = s.left.templates + 1 } })

  -- a thing begins at a step
  abbrev pub BeginsIs : Type 0
  BeginsIs = (t : T) (k : O → Run M H T Q A O) (s : State H A) →
      (0 < s.left.steps → perform meaning beyond (Begins t k) s ≡ perform meaning beyond (meaning t k) record s { left = record s.left { steps = s.left.steps - 1 } })
      × (s.left.steps ≡ 0 → perform meaning beyond (Begins t k) s ≡ Spent Steps (moment_at_end s))

  -- a thing is opened at a node
  abbrev pub OpensIs : Type 0
  OpensIs = (v : M) (t : T) (without : Run M H T Q A O) (k : O → Run M H T Q A O) (s : State H A) →
      (0 < s.left.nodes → perform meaning beyond (Opens v t without k) s ≡ perform meaning beyond (meaning t k) record s { left = record s.left { nodes = s.left.nodes - 1 } })
      × (s.left.nodes ≡ 0 → perform meaning beyond (Opens v t without k) s ≡ perform meaning beyond without s)

  -- after a reply the run goes on with its answer, or is spent with it
  abbrev pub GoesOn : Q → (A → Run M H T Q A O) → State H A → Reply A → List (Reply A) → Type 0
  GoesOn q f s r replies =
      ((a : A) → r.response ≡ Gives a → perform meaning beyond (Asks q f) s ≡ perform meaning beyond (f a) (state_after_reply r replies s))
      × ((w : Which) → r.response ≡ Exhausts w → perform meaning beyond (Asks q f) s ≡ Spent w (moment_at_end (state_after_reply r replies s)))

  -- a question: the next given reply, else the computed one, else the run waits
  abbrev pub AsksIs : Type 0
  AsksIs = (q : Q) (f : A → Run M H T Q A O) (s : State H A) →
      ((r : Reply A) (replies : List (Reply A)) → s.replies ≡ r ∷ replies → GoesOn q f s r replies)
      × ((r : Reply A) → s.replies ≡ [] → beyond q s.left ≡ Some r → GoesOn q f s r [])
      × (s.replies ≡ [] → beyond q s.left ≡ None → perform meaning beyond (Asks q f) s ≡ Asked q (moment s))
