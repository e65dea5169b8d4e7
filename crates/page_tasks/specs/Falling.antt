-- WHY A PAGE COMES TO AN END: whoever halts has not more left than before, a machine that asks has taken a step, and an expansion that asks
-- has taken of what its nodes allow.
use Rattle.std.specs.Prelude.{ℕ, ◌+◌, ◌*◌, ◌<◌, ◌≤◌, ◌^◌}
use Rattle.page_run.specs.WkBaseDeclaredLeftLeft.{Left}
use Rattle.wiki_expand.specs.Weights.{chances}
use Rattle.lua_machine.specs.declared.event.Event.{Event}
use Rattle.lua_machine.specs.declared.event.Event.TheVariants as event
use Rattle.page_tasks.specs.declared.task.Task.{Task}
use Rattle.page_tasks.specs.declared.task.Task.TheVariants as task
use Rattle.page_tasks.specs.declared.task.Halt.{Halt}
use Rattle.page_tasks.specs.declared.task.Halt.TheVariants as halt
use Rattle.page_tasks.specs.declared.task.Halted.{Halted}
use Rattle.page_tasks.specs.Tasks.{calls_in, depth_of, templates_of}

-- what a task has in progress can be given back
pub record CanGiveBack (l : Left) (t : Task) : Type 0 where
  pub calls : l.calls + calls_in t < 2 ^ 64
  pub depth : l.depth + depth_of t < 2 ^ 64
  pub templates : l.templates + templates_of t < 2 ^ 64

-- constructs in progress that may still ask, or begin a body
abbrev pub chances_of : Task → ℕ
chances_of (task.Expansion e) = chances e.machine.stack
chances_of _ = 0

-- what it may still ask with the nodes that are left: each of them gives two chances
abbrev pub allowed_with : Left → Task → ℕ
allowed_with l t = 2 * l.nodes + chances_of t

-- a machine that asks has taken a step
abbrev pub StepsFall : Event → ℕ → ℕ → Type 0
StepsFall (event.Asks q) before after = after < before
StepsFall _ before after = Unit {0}

abbrev pub FallsAt : Halt → ℕ → ℕ → ℕ → ℕ → Type 0
FallsAt (halt.Comes r) steps allowance steps' allowance' = (steps' ≤ steps) × (allowance' ≤ allowance)
FallsAt (halt.Invokes job) steps allowance steps' allowance' = (steps' ≤ steps) × (allowance' < allowance)
FallsAt (halt.Asks q) steps allowance steps' allowance' = (steps' < steps) × (allowance' ≤ allowance)

-- from a task with what is left, to one that has halted
abbrev pub Falls : Left → Task → Left → Halted → Type 0
Falls l t l' x = FallsAt x.halt l.steps (allowed_with l t) l'.steps (allowed_with l' x.task)
