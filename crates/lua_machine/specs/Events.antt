-- EVENTS OF A MACHINE: what code answers is the event that the machine comes to.
use Rattle.std.specs.Prelude.{◌≡◌, ◌+◌, ℕ, List, [], ◌∷◌}
use Rattle.page_run.specs.WkBaseDeclaredLeftLeft.{Left}
use Rattle.page_run.specs.State.{Tally, no_tally}
use Rattle.page_run.specs.Outcome.{Outcome as PlainOutcome, Goes, Jumps}
use Rattle.lua_code.specs.LuaHeapValue.{Value as Plain, Text}
use Rattle.lua_blocks.specs.LuaMeaningActs.{Jump, Raised}
use Rattle.lua_store.specs.Seen.{StoreView, seen}
use Rattle.lua_store.specs.Parts.{IsOf}
use Rattle.lua_blocks.specs.LuaStackSeen.{Texts}
use Rattle.lua_rows.specs.LuaSlotsEnact.{Funds}
use Rattle.lua_rows.specs.LuaGoesGoing.{Stop, Over, Lacks, Waiting}
use Rattle.lua_home_laws.specs.LuaPointsClauses.{CanGo, GoIs}
use Rattle.lua_environment.specs.LuaStackDeclaredFocusFocus.{Focus}
use Rattle.lua_environment.specs.LuaStackOf.{FocusOf}
use Rattle.lua_rows.specs.LuaStateDeclaredStateState.{State}
use Rattle.lua_blocks.specs.LuaStateSeen.{slots_of, frames_of, outcome_seen}
use Rattle.lua_blocks.specs.LuaStateOf.{StateOf, OutcomeOf}
use Rattle.lua_runs.specs.LuaStateWorlds.{world_seen}
use Rattle.lua_machine.specs.Moved.{point_of}
use Rattle.lua_machine.specs.declared.event.Answer.{Answer}
use Rattle.lua_machine.specs.declared.event.Answer.TheVariants as answer
use Rattle.lua_machine.specs.declared.event.Event.{Event}
use Rattle.lua_machine.specs.declared.event.Event.TheVariants as event
use Rattle.lua_machine.specs.declared.machine.Machine.{Machine}

-- what is told of one call that counted so many nodes: a call counts from nothing
abbrev pub told_by : State → ℕ → Tally
told_by m n = record no_tally { height = m.height; nodes = n }

abbrev pub funds_after : Left → State → ℕ → Funds
funds_after left m n = record { left = left; in_progress = m.calls; tally = told_by m n }

abbrev pub stop_seen : StoreView → State → Event → Funds → Stop
stop_seen s m (event.Over o) f = Over (outcome_seen s.texts o) (slots_of s m) f
stop_seen s m (event.Spent w) f = Lacks w s.heap f
stop_seen s m (event.Asks q) f = Waiting q (frames_of s m) (slots_of s m) f

abbrev pub EventOf : StoreView → Event → Type 0
EventOf s (event.Over o) = OutcomeOf s o
EventOf s _ = Unit {0}

pub record MachineOf (s : StoreView) (m : Machine) : Type 0 where
  pub state : StateOf s m.state
  pub next : FocusOf s m.next

-- A CALL goes to that event, from wherever some run stands: the clauses of `go` (`lua_points`)
abbrev pub GoesFrom : StoreView → State → Focus → Left → Stop → Type 0
GoesFrom s m f l e =
    CanGo (world_seen m.codes.world) (point_of s m f) (slots_of s m) l m.calls → GoIs (world_seen m.codes.world) (point_of s m f) (slots_of s m) l m.calls e

-- CALLS: where it is over or spent all are given back, and where it waits those in progress are kept
abbrev pub BackAt : Event → Left → ℕ → Left → ℕ → Type 0
BackAt (event.Asks q) old calls new calls' = new.calls + calls' ≡ old.calls + calls
BackAt _ old calls new calls' = (new.calls ≡ old.calls + calls) × (calls' ≡ 0)

-- calls are given back at an end alone, and nothing else changes
abbrev pub GivesBack : Left → State → Left → State → Type 0
GivesBack l m l' m' = (m' ≡ record m { calls = 0 }) × (l' ≡ record l { calls = l.calls + m.calls })

abbrev pub Settles : Event → Left → State → Left → State → Type 0
Settles (event.Asks q) l m l' m' = (m' ≡ m) × (l' ≡ l)
Settles _ l m l' m' = GivesBack l m l' m'

-- ANSWERS, as the outcomes that reach what waits for them
abbrev pub answer_outcome : Texts → Answer → PlainOutcome (List Plain) Jump
answer_outcome texts (answer.Expanded text) = Goes (Text text ∷ [])
answer_outcome texts answer.NoPage = Goes []
answer_outcome texts (answer.Loaded v) = Goes (seen texts v ∷ [])
answer_outcome texts (answer.LoadFailed message) = Jumps (Raised (Text message))

abbrev pub AnswerOf : StoreView → Answer → Type 0
AnswerOf s (answer.Loaded v) = IsOf s v
AnswerOf s _ = Unit {0}
