-- A TASK GOES ON until it halts.
use Rattle.std.specs.Prelude.{◌≡◌, ℕ, ◌+◌, ◌≤◌, max, List, Some}
use Rattle.page_run.specs.WkBaseDeclaredLeftLeft.{Left}
use Rattle.page_run.specs.Outcome.{Outcome}
use Rattle.page_run.specs.State.{Response, Gives, Exhausts, Reply as PlainReply}
use Rattle.lua_code.specs.LuaHeapProc.{Proc}
use Rattle.lua_code.specs.LuaHeapValue.{Value}
use Rattle.lua_code.specs.LuaHeapHeap.{Heap, Ref, Obj, look}
use Rattle.lua_machine.specs.LuaHeapReach.{Set}
use Rattle.lua_code.specs.LuaMeaningWorld.{Modules}
use Rattle.page_ground.specs.LuaMeaningQuestions.{Answer}
use Rattle.lua_machine.specs.LuaMeaningActs.{Jump}
use Rattle.page_ground.specs.LuaMeaningStart.{end_of}
use Rattle.page_ground.specs.LuaPointsTold.{IsToldAs}
use Rattle.lua_machine.specs.LuaPointsLaws.{IsThere, TakesItsOwn}
use Rattle.wiki_expand.specs.declared.expander.Move.{Move}
use Rattle.wiki_expand.specs.declared.expander.Move.TheVariants.{Text as Came, Invoke as Invokes}
use Rattle.lua_machine.specs.LuaStoreSeen.{StoreView}
use Rattle.lua_machine.specs.LuaStoreParts.{IsLater}
use Rattle.page_ground.specs.LuaStateSeen.{outcome_seen}
use Rattle.lua_machine.specs.declared.machine.Machine.{Machine}
use Rattle.lua_machine.specs.declared.event.Event.{Event}
use Rattle.lua_machine.specs.declared.event.Event.TheVariants as event
use Rattle.lua_machine.specs.Events.{MachineOf, EventOf, GoesFrom, BackAt, stop_seen, funds_after}
use Rattle.page_ground.specs.PageMeaningDeclaredOutcomeJobOutcomeTheVariants as ending
use Rattle.page_ground.specs.PageMeaningOutcomes.{end_outcome}
use Rattle.page_ground.specs.PageMeaningTasks.{text_of}
use Rattle.page_ground.specs.PagePointsPlaces.{Place, replied}
use Rattle.page_ground.specs.PagePointsMachines.{gone, data_told}
use Rattle.page_ground.specs.PagePointsApart.{LeavesAlone}
use Rattle.page_tasks.specs.declared.task.Task.{Task}
use Rattle.page_tasks.specs.declared.task.Task.TheVariants as task
use Rattle.page_ground.specs.declared.data.Data.{Data}
use Rattle.page_tasks.specs.declared.task.Reply.TheVariants as reply
use Rattle.page_tasks.specs.declared.task.Halt.{Halt}
use Rattle.page_tasks.specs.declared.task.Halt.TheVariants as halt
use Rattle.page_tasks.specs.declared.task.Halted.{Halted}
use Rattle.page_ground.specs.Ground.{Ground, AreModulesOf}
use Rattle.page_ground.specs.Seen.{data_seen, CanBePut}
use Rattle.page_tasks.specs.Tasks.{Sums, OnGround, TaskIn, HaltOf, Ready, Waits, HasHalted}

-- it has halted at the place, and left alone what other tasks have
pub record HaltsAt (g : Ground) (modules : Modules) (s t : StoreView) (left : Left) (x : Halted) (p p' : Place) : Type 0 where
  pub halted : HasHalted g modules t left x.task p' x.halt
  pub alone : LeavesAlone p.within s.heap t.heap p'.within

-- from each place where it can go on, with n counted
abbrev pub GoesOn : StoreView → Left → Task → StoreView → Left → ℕ → Halted → Type 0
GoesOn s left t s' left' n x = (g : Ground) → OnGround g t → (modules : Modules) → AreModulesOf g modules → (p : Place) → Ready g modules s left t p → HaltsAt g modules s s' left' x p (gone p s.heap s'.heap n)

-- What is known of a reply: an expansion is told a text, and a load the height of what it asked for.
abbrev pub HeightTold : Response Answer → ℕ → ℕ → Type 0
HeightTold (Gives a) n high = n ≡ high
HeightTold (Exhausts w) n high = Unit {0}

abbrev pub IsToldWell : Task → PlainReply Answer → ℕ → Type 0
IsToldWell (task.Expansion e) r high = (a : Answer) × (r.response ≡ Gives a)
IsToldWell (task.Invocation m) r high = Unit {0}
IsToldWell (task.Load b m) r high = HeightTold r.response r.tally.height high

-- and from each place where it waits, with a reply that says this
abbrev pub GoesOnWith : StoreView → Left → Task → Response Answer → ℕ → StoreView → Left → ℕ → Halted → Type 0
GoesOnWith s left t says high s' left' n x = (g : Ground) → OnGround g t → (modules : Modules) → AreModulesOf g modules → (p : Place) → Waits g modules s t p → IsThere p.within s.heap
    → (r : PlainReply Answer) → r.response ≡ says → r.left ≡ left → IsToldWell t r high → (S : Set) × HaltsAt g modules s s' left' x p (record (replied p r) { nodes = p.nodes + n; within = S })

-- the same with an answer of the store that is told for it
abbrev pub ToldFrom : StoreView → Left → Task → Answer → Outcome (List Value) Jump → ℕ → StoreView → Left → ℕ → Halted → Type 0
ToldFrom s left t a o high s' left' n x = (g : Ground) → OnGround g t → (modules : Modules) → AreModulesOf g modules → (p : Place) → Waits g modules s t p → (K : Set) → IsToldAs K p.within s.heap a o
    → (r : PlainReply Answer) → r.response ≡ Gives a → r.left ≡ left → IsToldWell t r high → (S : Set) × HaltsAt g modules s s' left' x p (record (replied p r) { nodes = p.nodes + n; within = S })

-- BETWEEN TWO COUNTS: what was counted is by how much k rose to k'
abbrev pub GoesOnCounting : StoreView → Left → ℕ → Task → StoreView → Left → ℕ → Halted → Type 0
GoesOnCounting s left k t s' left' k' x = (n : ℕ) → k' ≡ k + n → GoesOn s left t s' left' n x

abbrev pub GoesOnWithCounting : StoreView → Left → ℕ → Task → Response Answer → ℕ → StoreView → Left → ℕ → Halted → Type 0
GoesOnWithCounting s left k t says high s' left' k' x = (n : ℕ) → k' ≡ k + n → GoesOnWith s left t says high s' left' n x

-- the task is told whatever answer this one of the store is told for
abbrev pub ToldCounting : StoreView → Left → ℕ → Task → Outcome (List Value) Jump → ℕ → StoreView → Left → ℕ → Halted → Type 0
ToldCounting s left k t o high s' left' k' x = (n : ℕ) → k' ≡ k + n → (a : Answer) → ToldFrom s left t a o high s' left' n x

-- and of these one with this text
abbrev pub TextToldCounting : StoreView → Left → ℕ → Task → List ℕ → Outcome (List Value) Jump → ℕ → StoreView → Left → ℕ → Halted → Type 0
TextToldCounting s left k t text o high s' left' k' x = (n : ℕ) → k' ≡ k + n → (a : Answer) → text ≡ text_of a → ToldFrom s left t a o high s' left' n x

-- an answer is put into the store: it is told to whoever is there, and nothing that was there changes
pub record PutsAnswer (s t : Heap Proc) (a : Answer) (o : Outcome (List Value) Jump) : Type 0 where
  pub tells : (S : Set) → IsThere S s → (K : Set) × IsToldAs K S t a o
  pub stays : (r : Ref) (b : Obj Proc) → look s r ≡ Some b → look t r ≡ Some b
  pub alone : (S : Set) → LeavesAlone S s t S

-- WITHOUT A PLACE: from a task with what is left and counted, to one that has halted
pub record Halts (s : StoreView) (left : Left) (k : ℕ) (t : Task) (s' : StoreView) (left' : Left) (k' : ℕ) (x : Halted) : Type 0 where
  pub of : TaskIn s' x.task
  pub halts : HaltOf x.task x.halt
  pub ground : (g : Ground) → OnGround g t → OnGround g x.task
  pub later : IsLater s s'
  pub sums : Sums left t left' x
  pub rises : k ≤ k'
  pub paid : k' + left'.steps ≤ k + left.steps

-- A MACHINE'S CALL, by its clauses
pub record MachineGoes (s : StoreView) (left : Left) (k : ℕ) (m : Machine) (s' : StoreView) (left' : Left) (k' : ℕ) (m' : Machine) (e : Event) : Type 0 where
  pub of : MachineOf s' m' × EventOf s' e
  pub world : m'.state.codes.world ≡ m.state.codes.world
  pub later : IsLater s s'
  pub goes : (n : ℕ) → k' ≡ k + n → GoesFrom s m.state m.next left (stop_seen s' m'.state e (funds_after left' m'.state n))
  pub counts : (k ≤ k') × (k' + left'.steps ≤ k + left.steps)
  pub back : BackAt e left m.state.calls left' m'.state.calls
  pub takes : TakesItsOwn left left'
  pub height : m'.height ≡ max m.height m'.state.height

-- what a move of an expansion is told as
abbrev pub halt_of : Move → Halt
halt_of (Came text) = halt.Comes (reply.Ended (ending.Done text))
halt_of (Invokes job) = halt.Invokes job

-- what an event of a machine is told as
abbrev pub IsInvocationHalt : StoreView → Event → Halt → Type 0
IsInvocationHalt s (event.Over o) h = h ≡ halt.Comes (reply.Ended (end_outcome (end_of (outcome_seen s.texts o))))
IsInvocationHalt s (event.Spent w) h = h ≡ halt.Comes (reply.Ended (ending.Spent w))
IsInvocationHalt s (event.Asks q) h = h ≡ halt.Asks q

abbrev pub IsLoadHalt : StoreView → Event → Halt → Type 0
IsLoadHalt s (event.Over o) h = (d : Data) × (h ≡ halt.Comes (reply.Data d)) × (data_seen d ≡ data_told s.heap (end_of (outcome_seen s.texts o))) × CanBePut d
IsLoadHalt s (event.Spent w) h = h ≡ halt.Comes (reply.Spent w)
IsLoadHalt s (event.Asks q) h = h ≡ halt.Asks q
