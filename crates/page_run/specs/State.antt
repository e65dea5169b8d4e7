-- What stands at a moment of a run, what it is told in reply, and the events that are seen from outside.
use Rattle.std.specs.Prelude.{ℕ, ◌+◌, max, Bool, List, [], Option}
use Rattle.wk_base.specs.declared.left.Left.{Left}
use Rattle.page_run.specs.declared.which.Which.{Which}

-- THE DATA LOADS of a run, in order (Scribunto, mw.loadData): of each the name of its module, its charge in steps,
-- the nodes begun in its own run, whether it completed, and the loads inside it
pub data Loads : Type 0 where
  NoLoads : Loads
  Load : (name : List ℕ) (charge nodes : ℕ) (completed : Bool) (inner rest : Loads) → Loads

abbrev pub join_loads : Loads → Loads → Loads
join_loads NoLoads more = more
join_loads (Load name charge nodes completed inner rest) more = Load name charge nodes completed inner (join_loads rest more)

-- THE TALLY: what is told of a run beside its end
pub record Tally : Type 0 where
  -- the most calls in progress at one time
  pub height : ℕ
  -- the nodes of syntax trees begun in it
  pub nodes : ℕ
  -- those begun in the runs of invocations inside it
  pub invoked_nodes : ℕ
  -- its data loads
  pub loads : Loads

abbrev pub no_tally : Tally
no_tally = record { height = 0; nodes = 0; invoked_nodes = 0; loads = NoLoads }

-- with what a reply tells, where so many calls are in progress: the calls of the reply's runs stand upon those
abbrev pub join : ℕ → Tally → Tally → Tally
join in_progress own inner = record {
  height = max own.height (in_progress + inner.height);
  nodes = own.nodes;
  invoked_nodes = own.invoked_nodes + inner.invoked_nodes;
  loads = join_loads own.loads inner.loads;
}

-- an answer; or that the run is spent with it
pub data Response (A : Type 0) : Type 0 where
  Gives : (answer : A) → Response A
  Exhausts : (which : Which) → Response A

-- A REPLY to a question: what it says, what is left after it, and its own tally
pub record Reply (A : Type 0) : Type 0 where
  pub response : Response A
  pub left : Left
  pub tally : Tally

-- a way to compute replies from what is left, where there is one
abbrev pub Replier : Type 0 → Type 0 → Type 0
Replier Q A = Q → Left → Option (Reply A)

-- A MOMENT of a run
pub record Moment (H : Type 0) : Type 0 where
  pub heap : H
  pub left : Left
  pub in_progress : ℕ
  pub tally : Tally

-- THE STATE of a run: a moment, and the replies that are given for its next questions
pub record State (H A : Type 0) : Type 0 where
  pub heap : H
  pub left : Left
  pub in_progress : ℕ
  pub tally : Tally
  pub replies : List (Reply A)

abbrev pub moment : {H A : Type 0} → State H A → Moment H
moment s = record { heap = s.heap; left = s.left; in_progress = s.in_progress; tally = s.tally }

abbrev pub at : {H A : Type 0} → Moment H → List (Reply A) → State H A
at m replies = record { heap = m.heap; left = m.left; in_progress = m.in_progress; tally = m.tally; replies = replies }

-- the start of a run
abbrev pub start : {H A : Type 0} → H → Left → List (Reply A) → State H A
start heap left replies = record { heap = heap; left = left; in_progress = 0; tally = no_tally; replies = replies }

-- the middle of a run, with no replies given
abbrev pub resume : {H A : Type 0} → H → Left → ℕ → Tally → State H A
resume heap l n tally = record { heap = heap; left = l; in_progress = n; tally = tally; replies = [] }

-- at an end the calls in progress are given back
abbrev pub with_calls_back : {H A : Type 0} → State H A → Moment H
with_calls_back s = record { heap = s.heap; left = record s.left { calls = s.left.calls + s.in_progress }; in_progress = 0; tally = s.tally }

-- A SEEN EVENT: the run has ended, or an allowance of Lua is spent, or it waits for the answer to a question
pub data Event (H Q O : Type 0) : Type 0 where
  Ended : (outcome : O) (moment : Moment H) → Event H Q O
  Spent : (which : Which) (moment : Moment H) → Event H Q O
  Asked : (question : Q) (moment : Moment H) → Event H Q O

abbrev pub moment_of : {H Q O : Type 0} → Event H Q O → Moment H
moment_of (Ended o m) = m
moment_of (Spent w m) = m
moment_of (Asked q m) = m
