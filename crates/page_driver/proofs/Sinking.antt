-- What is left sinks with each move.
use Rattle.std.proofs.Common.{◌≡◌, ℕ, ◌+◌, ◌*◌, ◌<◌, ◌≤◌, List, ◌∷◌, ap, arith}
use Rattle.std.specs.Prelude.{length}
use Rattle.page_meaning.specs.WkBaseDeclaredLeftLeft.{Left}
use Rattle.mw_frame.specs.declared.question.Ask.{Ask}
use Rattle.mw_frame.specs.declared.scene.Job.{Job}
use Rattle.page_tasks.specs.declared.task.Task.{Task}
use Rattle.page_tasks.specs.declared.task.Reply.{Reply}
use Rattle.page_tasks.specs.declared.task.Halt.{Halt}
use Rattle.page_tasks.specs.declared.task.Halt.TheVariants as halt
use Rattle.page_tasks.specs.declared.task.Halted.{Halted}
use Rattle.page_driver.specs.declared.tower.Tower.{Tower}
use Rattle.page_driver.specs.declared.tower.Next.{Next}
use Rattle.page_driver.specs.declared.tower.Next.TheVariants as next
use Rattle.page_driver.specs.Driven.{sum_of}
use Rattle.page_tasks.specs.Falling.{chances_of, allowed_with, FallsAt, Falls}
use Rattle.page_driver.specs.Moving.{comes_with, invokes_with, asks_with, tower_with, steps_at, invoked, SinksFrom, Sinks, GoesDown, IsQuestion, TakesSteps}
use Rattle.page_tasks.specs.Refusing.{none_left}

-- a task that goes on: its question counts for the step that it took, and its invocation for what its nodes allowed
fallen_at : (h : Halt) (l l' : Left) (a a' : ℕ) → FallsAt h l.steps a l'.steps a' → (steps_at l' h ≤ l.steps) × (2 * a' + invoked h ≤ 2 * a)
fallen_at (halt.Comes r) l l' a a' f = (f.0, omega (arith, f.1))
fallen_at (halt.Invokes job) l l' a a' f = (f.0, omega (arith, f.1))
fallen_at (halt.Asks q) l l' a a' f = (omega (arith, f.0), omega (arith, f.1))

pub fallen : (l : Left) (t : Task) (l' : Left) (x : Halted) → Falls l t l' x → (steps_at l' x.halt ≤ l.steps) × (2 * allowed_with l' x.task + invoked x.halt ≤ 2 * allowed_with l t)
fallen l t l' x f = fallen_at x.halt l l' (allowed_with l t) (allowed_with l' x.task) f

one_more : (p : Task) (ts : List Task) → length (p ∷ ts) ≡ length ts + 1
one_more p ts = omega arith

-- ONE THAT WAITED is told a reply
pub told_sinks : (l : Left) (top : Task) (r : Reply) (p : Task) (tower tower' : Tower) (l' : Left) (x : Halted) → tower'.stack ≡ tower.stack → Falls l p l' x → Sinks l (tower_with p tower) (comes_with top r) l' tower' (next.On x)
told_sinks l top r p tower tower' l' x e f =
    let k = fallen l p l' x f in
    (k.0, omega (arith, k.1, ap (sum_of chances_of) e, ap (λ ts. length ts) e, one_more p tower.stack))

-- AN INVOCATION begins above the expansion that asks for it
pub invoked_sinks : (l : Left) (t : Task) (job : Job) (inner : Task) (tower tower' : Tower) (l' : Left) (x : Halted) → chances_of inner ≡ 0 → tower' ≡ tower_with t tower → Falls l inner l' x → Sinks l tower (invokes_with t job) l' tower' (next.On x)
invoked_sinks l t job inner tower tower' l' x none e f =
    let k = fallen l inner l' x f in
    (k.0, omega (arith, k.1, none, ap (λ (w : Tower). sum_of chances_of w.stack) e, ap (λ (w : Tower). length w.stack) e, one_more t tower.stack))

pub invoked_on : (l : Left) (t : Task) (job : Job) (inner : Task) (tower tower' : Tower) (l' : Left) (n : Next) → chances_of inner ≡ 0 → tower' ≡ tower_with t tower → GoesDown l inner l' n → Sinks l tower (invokes_with t job) l' tower' n
invoked_on l t job inner tower tower' l' (next.Over r) none e f = absurd f
invoked_on l t job inner tower tower' l' (next.On x) none e f = invoked_sinks l t job inner tower tower' l' x none e f

-- or it can't be paid, and the expansion is told so
pub refused_sinks : (l : Left) (t : Task) (job : Job) (tower : Tower) (l' : Left) (x : Halted) → Falls (none_left l) t l' x → Sinks l tower (invokes_with t job) l' tower (next.On x)
refused_sinks l t job tower l' x f = let k = fallen (none_left l) t l' x f in (omega (arith, k.0), omega (arith, k.1))

-- A QUESTION is answered at once, with no more steps left than there were, or a task begins that answers it
pub answered_sinks : (l l₁ : Left) (t : Task) (q : Ask) (inner : Task) (tower tower' : Tower) (l' : Left) (x : Halted) → l₁.steps ≤ l.steps → Falls l₁ inner l' x → Sinks l tower (asks_with t q) l' tower' (next.On x)
answered_sinks l l₁ t q inner tower tower' l' x le f = let k = fallen l₁ inner l' x f in omega (arith, k.0, le)

pub answered_on : (l : Left) (t : Task) (q : Ask) (inner : Task) (tower tower' : Tower) (l' : Left) (n : Next) → GoesDown l inner l' n → Sinks l tower (asks_with t q) l' tower' n
answered_on l t q inner tower tower' l' (next.Over r) f = absurd f
answered_on l t q inner tower tower' l' (next.On x) f = answered_sinks l l t q inner tower tower' l' x (omega arith) f

-- SO IT ENDS: before a question of Lua the weight falls, and the steps with each question
pub not_asked : (h : Halt) (s w s' w' : ℕ) → (IsQuestion h → ⊥) → SinksFrom h s w s' w' → (s' ≤ s) × (w' < w)
not_asked (halt.Comes r) s w s' w' otherwise f = f
not_asked (halt.Invokes job) s w s' w' otherwise f = f
not_asked (halt.Asks q) s w s' w' otherwise f = absurd (otherwise tt)

pub asked : (h : Halt) (s w s' w' : ℕ) → IsQuestion h → SinksFrom h s w s' w' → s' < s
asked (halt.Comes r) s w s' w' question f = absurd question
asked (halt.Invokes job) s w s' w' question f = absurd question
asked (halt.Asks q) s w s' w' question f = f

pub asked_then : (l : Left) (x : Halted) (l₁ : Left) (tower₁ : Tower) (y : Halted) (l₂ : Left) (tower₂ : Tower) (n : Next) → IsQuestion y.halt → steps_at l₁ y.halt ≤ steps_at l x.halt → Sinks l₁ tower₁ y l₂ tower₂ n → TakesSteps l x l₂ n
asked_then l x l₁ tower₁ y l₂ tower₂ (next.Over r) question le f = tt
asked_then l x l₁ tower₁ y l₂ tower₂ (next.On z) question le f = let k = asked y.halt _ _ _ _ question f in omega (arith, k, le)
