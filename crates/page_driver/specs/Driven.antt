-- A PAGE IN PROGRESS: the task on top has halted, and those below wait, one for another.
use Rattle.std.specs.Prelude.{◌≡◌, ℕ, ◌+◌, ◌<◌, ◌≤◌, ◌^◌, List, [], ◌∷◌, map}
use Rattle.std.specs.List.{AllByRecursion}
use Rattle.page_meaning.specs.WkBaseDeclaredLeftLeft.{Left}
use Rattle.page_meaning.specs.PageRunState.{Response, Reply as PlainReply}
use Rattle.page_meaning.specs.PageRunWalk.{WalkState}
use Rattle.page_tasks.specs.LuaHeapReach.{Set}
use Rattle.lua_code.specs.LuaMeaningWorld.{Modules}
use Rattle.page_meaning.specs.LuaMeaningQuestions.{Answer}
use Rattle.page_meaning.specs.LuaMeaningStart.{Invoke}
use Rattle.page_tasks.specs.LuaPointsFamilies.{AreApart}
use Rattle.page_tasks.specs.LuaStoreSeen.{StoreView}
use Rattle.page_meaning.specs.Outcomes.{job_outcome}
use Rattle.page_meaning.specs.Drive.{drive}
use Rattle.page_meaning.specs.Page.{kept_in, begun_in}
use Rattle.page_meaning.specs.Tasks.{Task as PlainTask, Running, total}
use Rattle.page_tasks.specs.PagePointsPlaces.{Place, replied, Going, begun_so_far}
use Rattle.page_tasks.specs.declared.task.Task.{Task}
use Rattle.page_tasks.specs.declared.task.Reply.{Reply}
use Rattle.page_tasks.specs.declared.task.Halted.{Halted}
use Rattle.page_driver.specs.declared.tower.Tower.{Tower}
use Rattle.page_driver.specs.declared.tower.Next.{Next}
use Rattle.page_driver.specs.declared.tower.Next.TheVariants as next
use Rattle.page_tasks.specs.PageGroundGround.{Ground, page_of, wiki_of, AreModulesOf}
use Rattle.page_tasks.specs.Seen.{reply_seen, outcome_of}
use Rattle.page_tasks.specs.Tasks.{calls_in, depth_of, templates_of, at_halt, TaskIn, OnGround, CanGo, CanBeTold, HaltOf, Ready, Waits, HasHalted}
use Rattle.page_tasks.specs.Going.{IsToldWell}
use Rattle.page_tasks.specs.PageGroundKept.{KeepOf, Keeps}
use Rattle.page_tasks.specs.PageGroundNumbered.{IsNumbered}

-- what all these tasks have in progress
abbrev pub sum_of : (Task → ℕ) → List Task → ℕ
sum_of f [] = 0
sum_of f (t ∷ ts) = f t + sum_of f ts

-- a task that waits, wherever it waits
pub record IsBelow (g : Ground) (s : StoreView) (t : Task) : Type 0 where
  pub of : TaskIn s t
  pub ground : OnGround g t
  pub waits : CanBeTold t

abbrev pub set_of : Place → Set
set_of p = p.within

module _ (g : Ground) (modules : Modules) where
  -- each of these tasks waits at its place
  abbrev pub AllWait : StoreView → List Task → List Place → Type 0
  AllWait s [] [] = Unit {0}
  AllWait s (t ∷ ts) (p ∷ ps) = Waits g modules s t p × AllWait s ts ps
  AllWait s _ _ = ⊥

  -- what the root comes to: the page's own expansion, or an invocation by itself
  abbrev pub goal_of : PlainTask → Left → PlainReply Answer
  goal_of root first = total (wiki_of g modules) (page_of g) root first []

  -- and so an invocation ends
  abbrev pub EndsSo : PlainTask → Left → Reply → Type 0
  EndsSo (Running (Invoke job)) first r = job_outcome (drive (wiki_of g modules) (page_of g) (Invoke job) first) ≡ outcome_of r
  EndsSo root first r = Unit {0}

  -- THE PLACES of the tasks: what the root comes to, what others have, what is kept, and what is begun
  pub record Standing (root : PlainTask) (first : Left) (k₀ : ℕ) (s : StoreView) (k : ℕ) (tower : Tower) (top : Place) (below : List Place) (now : WalkState) : Type 0 where
    pub going : Going (wiki_of g modules) (page_of g) root first top below now
    pub others : AllWait s tower.stack below
    pub apart : AreApart s.heap (top.within ∷ map set_of below)
    pub keeps : Keeps g modules tower.keep now
    pub charges : now.repeat_charges ≡ tower.repeat_charges
    pub begun : k₀ + begun_so_far (wiki_of g modules) (page_of g) top below now ≤ k

  -- the top one has halted; it can go on; or it is to be told a reply that says this
  pub record IsHalted (root : PlainTask) (first : Left) (k₀ : ℕ) (s : StoreView) (left : Left) (k : ℕ) (tower : Tower) (x : Halted) : Type 0 where
    pub top : Place
    pub below : List Place
    pub now : WalkState
    pub standing : Standing root first k₀ s k tower top below now
    pub halted : HasHalted g modules s left x.task top x.halt

  pub record IsReady (root : PlainTask) (first : Left) (k₀ : ℕ) (s : StoreView) (left : Left) (k : ℕ) (tower : Tower) (t : Task) : Type 0 where
    pub top : Place
    pub below : List Place
    pub now : WalkState
    pub standing : Standing root first k₀ s k tower top below now
    pub ready : Ready g modules s left t top

  pub record IsTold (root : PlainTask) (first : Left) (k₀ : ℕ) (s : StoreView) (left : Left) (k : ℕ) (tower : Tower) (t : Task) (says : Response Answer) (high : ℕ) : Type 0 where
    pub top : Place
    pub below : List Place
    pub now : WalkState
    pub reply : PlainReply Answer
    pub standing : Standing root first k₀ s k tower (replied top reply) below now
    pub waits : Waits g modules s t top
    pub says_so : reply.response ≡ says
    pub leaves : reply.left ≡ left
    pub well : IsToldWell t reply high

  -- THE PAGE IS EXPANDED: the root comes to this reply
  pub record IsExpanded (root : PlainTask) (first : Left) (k₀ : ℕ) (left : Left) (k repeat_charges : ℕ) (r : Reply) : Type 0 where
    pub says : (goal_of root first).response ≡ reply_seen r
    pub leaves : (goal_of root first).left ≡ left
    pub keeps : kept_in (goal_of root first).tally ≡ repeat_charges
    pub begun : k₀ + begun_in (goal_of root first).tally ≤ k
    pub ends : EndsSo root first r

-- WHAT HOLDS OF CODE ALONE, where so much is in progress on top
pub record Accounts (g : Ground) (first : Left) (k₀ : ℕ) (s : StoreView) (left : Left) (k : ℕ) (tower : Tower) (calls depth templates : ℕ) : Type 0 where
  pub below : AllByRecursion (IsBelow g s) tower.stack
  pub keep : KeepOf tower.keep
  pub calls_are : left.calls + calls + sum_of calls_in tower.stack ≡ first.calls
  pub depth_is : left.depth + depth + sum_of depth_of tower.stack ≡ first.depth
  pub templates_are : left.templates + templates + sum_of templates_of tower.stack ≡ first.templates
  pub rises : k₀ ≤ k
  pub paid : k + left.steps + tower.repeat_charges ≤ k₀ + first.steps

-- ALL OF IT, whatever the trees of the modules are: the top one has halted,
pub record Driven (g : Ground) (root : PlainTask) (first : Left) (k₀ : ℕ) (s : StoreView) (left : Left) (k : ℕ) (tower : Tower) (x : Halted) : Type 0 where
  pub of : TaskIn s x.task
  pub ground : OnGround g x.task
  pub halts : HaltOf x.task x.halt
  pub numbered : IsNumbered s tower.numbers
  pub accounts : Accounts g first k₀ s left k tower (at_halt x.halt (calls_in x.task)) (at_halt x.halt (depth_of x.task)) (at_halt x.halt (templates_of x.task))
  pub placed : (modules : Modules) → AreModulesOf g modules → IsHalted g modules root first k₀ s left k tower x

-- it can go on,
pub record Starting (g : Ground) (root : PlainTask) (first : Left) (k₀ : ℕ) (s : StoreView) (left : Left) (k : ℕ) (tower : Tower) (t : Task) : Type 0 where
  pub of : TaskIn s t
  pub ground : OnGround g t
  pub can : CanGo t
  pub numbered : IsNumbered s tower.numbers
  pub accounts : Accounts g first k₀ s left k tower (calls_in t) (depth_of t) (templates_of t)
  pub placed : (modules : Modules) → AreModulesOf g modules → IsReady g modules root first k₀ s left k tower t

-- or it is to be told a reply that says this
pub record Telling (g : Ground) (root : PlainTask) (first : Left) (k₀ : ℕ) (s : StoreView) (left : Left) (k : ℕ) (tower : Tower) (t : Task) (says : Response Answer) (high : ℕ) : Type 0 where
  pub of : TaskIn s t
  pub ground : OnGround g t
  pub waits : CanBeTold t
  pub numbered : IsNumbered s tower.numbers
  pub accounts : Accounts g first k₀ s left k tower (calls_in t) (depth_of t) (templates_of t)
  pub placed : (modules : Modules) → AreModulesOf g modules → IsTold g modules root first k₀ s left k tower t says high

-- the limits fit a number of 64 bits
pub record Fits (first : Left) : Type 0 where
  pub steps : first.steps < 2 ^ 64
  pub calls : first.calls < 2 ^ 64
  pub depth : first.depth < 2 ^ 64
  pub templates : first.templates < 2 ^ 64

-- AFTER A MOVE the page is expanded, or it is in progress
pub record Expanded (g : Ground) (root : PlainTask) (first : Left) (k₀ : ℕ) (s : StoreView) (left : Left) (k : ℕ) (tower : Tower) (r : Reply) : Type 0 where
  pub numbered : IsNumbered s tower.numbers
  pub rises : k₀ ≤ k
  pub paid : k + left.steps + tower.repeat_charges ≤ k₀ + first.steps
  pub expanded : (modules : Modules) → AreModulesOf g modules → IsExpanded g modules root first k₀ left k tower.repeat_charges r

abbrev pub Moves : Ground → PlainTask → Left → ℕ → StoreView → Left → ℕ → Tower → Next → Type 0
Moves g root first k₀ s left k tower (next.Over r) = Expanded g root first k₀ s left k tower r
Moves g root first k₀ s left k tower (next.On x) = Driven g root first k₀ s left k tower x

-- where a page is in progress, from some start
pub record InProgress (g : Ground) (s : StoreView) (left : Left) (k : ℕ) (tower : Tower) (x : Halted) : Type 0 where
  pub root : PlainTask
  pub first : Left
  pub start : ℕ
  pub fits : Fits first
  pub driven : Driven g root first start s left k tower x

pub record IsStarting (g : Ground) (s : StoreView) (left : Left) (k : ℕ) (tower : Tower) (t : Task) : Type 0 where
  pub root : PlainTask
  pub first : Left
  pub start : ℕ
  pub fits : Fits first
  pub starting : Starting g root first start s left k tower t

-- FROM EACH START
abbrev pub MovesOn : Ground → StoreView → Left → ℕ → Tower → Halted → StoreView → Left → ℕ → Tower → Next → Type 0
MovesOn g s left k tower x s' left' k' tower' n = (root : PlainTask) (first : Left) (k₀ : ℕ) → Fits first → Driven g root first k₀ s left k tower x → Moves g root first k₀ s' left' k' tower' n

abbrev pub StartsOn : Ground → StoreView → Left → ℕ → Tower → Task → StoreView → Left → ℕ → Tower → Next → Type 0
StartsOn g s left k tower t s' left' k' tower' n = (root : PlainTask) (first : Left) (k₀ : ℕ) → Fits first → Starting g root first k₀ s left k tower t → Moves g root first k₀ s' left' k' tower' n

abbrev pub ComesTo : Ground → StoreView → Left → ℕ → Tower → Task → StoreView → Left → ℕ → Tower → Reply → Type 0
ComesTo g s left k tower t s' left' k' tower' r = (root : PlainTask) (first : Left) (k₀ : ℕ) → Fits first → Starting g root first k₀ s left k tower t → Expanded g root first k₀ s' left' k' tower' r
