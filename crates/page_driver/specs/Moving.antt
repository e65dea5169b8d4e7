-- A PAGE MOVES ON, from a task that has halted to the next that halts or to its end; and why it comes to an end.
use Rattle.std.specs.Prelude.{ℕ, ◌+◌, ◌-◌, ◌*◌, ◌<◌, ◌≤◌, Bool, true, false, ◌∷◌, length, Result, Ok, Err}
use Rattle.page_meaning.specs.WkBaseDeclaredLeftLeft.{Left}
use Rattle.mw_frame.specs.declared.question.Ask.{Ask}
use Rattle.mw_frame.specs.declared.scene.Job.{Job}
use Rattle.page_tasks.specs.declared.task.Begun.{Begun}
use Rattle.page_tasks.specs.PageGroundDeclaredDataData.{Data}
use Rattle.page_tasks.specs.declared.task.Task.{Task}
use Rattle.page_tasks.specs.declared.task.Task.TheVariants as task
use Rattle.page_tasks.specs.declared.task.Reply.{Reply}
use Rattle.page_tasks.specs.declared.task.Reply.TheVariants as reply
use Rattle.page_tasks.specs.declared.task.Halt.{Halt}
use Rattle.page_tasks.specs.declared.task.Halt.TheVariants as halt
use Rattle.page_tasks.specs.declared.task.Halted.{Halted}
use Rattle.page_driver.specs.declared.tower.Tower.{Tower}
use Rattle.page_driver.specs.declared.tower.Next.{Next}
use Rattle.page_driver.specs.declared.tower.Next.TheVariants as next
use Rattle.page_tasks.specs.Falling.{chances_of, allowed_with, Falls}
use Rattle.page_tasks.specs.PageGroundDeclaredNumbersNumbers.{Numbers}
use Rattle.page_tasks.specs.PageGroundNumbered.{after_end}
use Rattle.page_driver.specs.Driven.{sum_of}
use Rattle.page_tasks.specs.LuaMachineDeclaredMachineMachine.{Machine}

-- a task that has halted so
abbrev pub comes_with : Task → Reply → Halted
comes_with t r = record { task = t; halt = halt.Comes r }

abbrev pub invokes_with : Task → Job → Halted
invokes_with t job = record { task = t; halt = halt.Invokes job }

abbrev pub asks_with : Task → Ask → Halted
asks_with t q = record { task = t; halt = halt.Asks q }

-- what is left once these steps are taken
abbrev pub less_steps : Left → ℕ → Left
less_steps l steps = record l { steps = l.steps - steps }

-- a load that has come to data
abbrev pub loads_with : Begun → Machine → Data → Halted
loads_with b m d = comes_with (task.Load b m) (reply.Data d)

-- one that has halted is next
abbrev pub next_of : {E : Type 0} → Result Halted E → Result Next E
next_of (Ok x) = Ok (next.On x)
next_of (Err e) = Err e

-- with one task more, which is the newest of those that wait
abbrev pub tower_with : Task → Tower → Tower
tower_with t tower = record tower { stack = t ∷ tower.stack }

-- the runs in progress once a task is over: where it is a run, that is one of them
abbrev pub after_task : Task → Numbers → Numbers
after_task (task.Expansion e) ns = ns
after_task t ns = after_end ns

-- STEPS: a question of Lua has taken one, which counts until the question is answered
abbrev pub steps_at : Left → Halt → ℕ
steps_at l (halt.Asks q) = l.steps + 1
steps_at l h = l.steps

-- and while no question of Lua comes: what the nodes still allow, and how many wait; an invocation that is asked for counts for the task that is
-- to begin
abbrev pub invoked : Halt → ℕ
invoked (halt.Invokes job) = 2
invoked h = 0

abbrev pub weight_of : Left → Tower → Halted → ℕ
weight_of l tower x = 2 * (allowed_with l x.task + sum_of chances_of tower.stack) + length tower.stack + invoked x.halt

abbrev pub SinksFrom : Halt → ℕ → ℕ → ℕ → ℕ → Type 0
SinksFrom (halt.Asks q) steps weight steps' weight' = steps' < steps
SinksFrom h steps weight steps' weight' = (steps' ≤ steps) × (weight' < weight)

-- A MOVE: where the page is not over, what is left has sunk
abbrev pub Sinks : Left → Tower → Halted → Left → Tower → Next → Type 0
Sinks l tower x l' tower' (next.Over r) = Unit {0}
Sinks l tower x l' tower' (next.On y) = SinksFrom x.halt (steps_at l x.halt) (weight_of l tower x) (steps_at l' y.halt) (weight_of l' tower' y)

-- a task that goes on has halted, with not more left
abbrev pub GoesDown : Left → Task → Left → Next → Type 0
GoesDown l t l' (next.Over r) = ⊥
GoesDown l t l' (next.On x) = Falls l t l' x

-- UP TO A QUESTION of Lua, or to the end of the page
abbrev pub IsQuestion : Halt → Type 0
IsQuestion (halt.Asks q) = Unit {0}
IsQuestion h = ⊥

abbrev pub IsQuestionIf : Halt → Bool → Type 0
IsQuestionIf h true = IsQuestion h
IsQuestionIf h false = IsQuestion h → ⊥

abbrev pub SinksToQuestion : Left → Halted → Left → Next → Type 0
SinksToQuestion l x l' (next.Over r) = Unit {0}
SinksToQuestion l x l' (next.On y) = IsQuestion y.halt × (steps_at l' y.halt ≤ steps_at l x.halt)

-- and past it
abbrev pub TakesSteps : Left → Halted → Left → Next → Type 0
TakesSteps l x l' (next.Over r) = Unit {0}
TakesSteps l x l' (next.On y) = steps_at l' y.halt < steps_at l x.halt
