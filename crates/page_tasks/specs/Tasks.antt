-- A TASK OF CODE AT ITS PLACE: it can go on, it waits, or it has halted.
use Rattle.std.specs.Prelude.{◌≡◌, ℕ, ◌+◌, true, map}
use Rattle.page_run.specs.WkBaseDeclaredLeftLeft.{Left}
use Rattle.lua_code.specs.WkBaseTitles.{is_module}
use Rattle.page_run.specs.State.{Reply as PlainReply}
use Rattle.mw_frame.specs.Scenes.{HaveNames}
use Rattle.mw_frame.specs.declared.question.Ask.{Ask}
use Rattle.mw_frame.specs.declared.scene.Job.{Job}
use Rattle.wiki_expand.specs.ExpandMeaningOutcome.{Work as PageWork}
use Rattle.wiki_expand.specs.declared.expander.Expander.{Expander}
use Rattle.wiki_expand.specs.WikiPagesPages.{setting_in}
use Rattle.wiki_expand.specs.Standing.{At, Waits as ExpanderWaits, IsReady, IsWaiting, setting_of, depth_in, templates_in}
use Rattle.lua_code.specs.LuaMeaningWorld.{Modules}
use Rattle.page_ground.specs.LuaMeaningQuestions.{Answer}
use Rattle.page_ground.specs.LuaMeaningStart.{Invoke, DataOf}
use Rattle.lua_machine.specs.LuaSlotsPoints.{Asking}
use Rattle.lua_machine.specs.LuaStoreSeen.{StoreView}
use Rattle.page_ground.specs.LuaStateSeen.{slots_of, frames_of}
use Rattle.lua_machine.specs.LuaStateWorlds.{world_seen}
use Rattle.lua_machine.specs.declared.machine.Machine.{Machine}
use Rattle.lua_machine.specs.Moved.{point_of}
use Rattle.lua_machine.specs.Events.{MachineOf}
use Rattle.page_ground.specs.PageMeaningWiki.{world}
use Rattle.page_ground.specs.PageMeaningTasks.{Running, Expanding, OfLua, OfPage, Wants, as_text}
use Rattle.page_ground.specs.PagePointsPlaces.{Place, HasCome, next_of}
use Rattle.page_ground.specs.PagePointsMachines.{MachineStands, EndedSo}
use Rattle.page_tasks.specs.declared.task.Task.{Task}
use Rattle.page_tasks.specs.declared.task.Task.TheVariants as task
use Rattle.page_tasks.specs.declared.task.Reply.{Reply}
use Rattle.page_tasks.specs.declared.task.Reply.TheVariants as reply
use Rattle.page_tasks.specs.declared.task.Halt.{Halt}
use Rattle.page_tasks.specs.declared.task.Halt.TheVariants as halt
use Rattle.page_tasks.specs.declared.task.Halted.{Halted}
use Rattle.page_ground.specs.Ground.{Ground, page_of, wiki_of}
use Rattle.page_tasks.specs.Seen.{reply_seen, outcome_of}
use Rattle.page_ground.specs.Seen.{CanBePut}

-- WHAT IT HAS IN PROGRESS
abbrev pub calls_in : Task → ℕ
calls_in (task.Expansion e) = 0
calls_in (task.Invocation m) = m.state.calls
calls_in (task.Load b m) = m.state.calls

abbrev pub depth_of : Task → ℕ
depth_of (task.Expansion e) = depth_in e
depth_of _ = 0

abbrev pub templates_of : Task → ℕ
templates_of (task.Expansion e) = templates_in e
templates_of _ = 0

-- what a task has in progress where it has halted: nothing, where it has come to its reply
abbrev pub at_halt : Halt → ℕ → ℕ
at_halt (halt.Comes r) n = 0
at_halt _ n = n

-- so much is left and in progress, together as much as before
pub record Sums (l : Left) (t : Task) (l' : Left) (x : Halted) : Type 0 where
  pub calls : l'.calls + at_halt x.halt (calls_in x.task) ≡ l.calls + calls_in t
  pub depth : l'.depth + at_halt x.halt (depth_of x.task) ≡ l.depth + depth_of t
  pub templates : l'.templates + at_halt x.halt (templates_of x.task) ≡ l.templates + templates_of t

-- IT IS OF THE STORE, and of the ground; an expansion goes on, or it waits
abbrev pub TaskIn : StoreView → Task → Type 0
TaskIn s (task.Expansion e) = Unit {0}
TaskIn s (task.Invocation m) = MachineOf s m
TaskIn s (task.Load b m) = MachineOf s m × (is_module b.title.ns ≡ true)

abbrev pub OnGround : Ground → Task → Type 0
OnGround g (task.Expansion e) = setting_of e ≡ setting_in g.pages (page_of g)
OnGround g (task.Invocation m) = m.state.codes.world ≡ g.world
OnGround g (task.Load b m) = m.state.codes.world ≡ g.world

abbrev pub CanGo : Task → Type 0
CanGo (task.Expansion e) = IsReady e
CanGo _ = Unit {0}

abbrev pub CanBeTold : Task → Type 0
CanBeTold (task.Expansion e) = IsWaiting e
CanBeTold _ = Unit {0}

-- a load gives data, and nothing else does
abbrev pub ReplyBy : Task → Reply → Type 0
ReplyBy (task.Load b m) (reply.Data d) = CanBePut d
ReplyBy (task.Load b m) (reply.Ended so) = ⊥
ReplyBy (task.Load b m) (reply.Spent which) = Unit {0}
ReplyBy t (reply.Data d) = ⊥
ReplyBy t r = Unit {0}

abbrev pub IsNoData : Reply → Type 0
IsNoData (reply.Data d) = ⊥
IsNoData r = Unit {0}

abbrev pub HaltOf : Task → Halt → Type 0
HaltOf t (halt.Comes r) = ReplyBy t r
HaltOf t (halt.Invokes job) = CanBeTold t × HaveNames job
HaltOf t (halt.Asks q) = CanBeTold t

-- IT IS THE TASK OF THE PLACE
abbrev pub IsTask : Task → Place → Type 0
IsTask (task.Expansion e) p = (work : PageWork) × (p.task ≡ Expanding work)
IsTask (task.Invocation m) p = (job : Job) × (p.task ≡ Running (Invoke job))
IsTask (task.Load b m) p = (p.task ≡ Running (DataOf b.title)) × (p.first.steps ≡ b.steps)

-- the height of a load that gave data is known
abbrev pub HeightIs : Task → Reply → ℕ → Type 0
HeightIs (task.Load b m) (reply.Data d) n = n ≡ m.height
HeightIs _ _ n = Unit {0}

module _ (g : Ground) (modules : Modules) where
  -- IT STANDS where it can go on
  abbrev pub MachineReady : StoreView → Left → Machine → Place → Type 0
  MachineReady s left m p = MachineStands (world_seen g.world) (world (wiki_of g modules) (page_of g)) p (point_of s m.state m.next) (slots_of s m.state) left m.state.calls m.height

  abbrev pub ExpanderReady : Left → Expander → Place → Type 0
  ExpanderReady left e p = (work : PageWork) → p.task ≡ Expanding work → At e work p.first (map as_text p.given) left

  abbrev pub StandsAt : StoreView → Left → Task → Place → Type 0
  StandsAt s left (task.Expansion e) p = ExpanderReady left e p
  StandsAt s left (task.Invocation m) p = MachineReady s left m p
  StandsAt s left (task.Load b m) p = MachineReady s left m p

  pub record Ready (s : StoreView) (left : Left) (t : Task) (p : Place) : Type 0 where
    pub task : IsTask t p
    pub stands : StandsAt s left t p

  -- IT WAITS at a question, whatever is left now
  pub record MachineWaits (s : StoreView) (m : Machine) (p : Place) : Type 0 where
    pub question : Ask
    pub left : Left
    pub stood : MachineStands (world_seen g.world) (world (wiki_of g modules) (page_of g)) p (Asking question (frames_of s m.state)) (slots_of s m.state) left m.state.calls m.height

  abbrev pub ExpanderWaitsAt : Expander → Place → Type 0
  ExpanderWaitsAt e p = (work : PageWork) → p.task ≡ Expanding work → ExpanderWaits e work p.first (map as_text p.given)

  abbrev pub WaitsAt : StoreView → Task → Place → Type 0
  WaitsAt s (task.Expansion e) p = ExpanderWaitsAt e p
  WaitsAt s (task.Invocation m) p = MachineWaits s m p
  WaitsAt s (task.Load b m) p = MachineWaits s m p

  pub record Waits (s : StoreView) (t : Task) (p : Place) : Type 0 where
    pub task : IsTask t p
    pub waits : WaitsAt s t p

  -- a run of an invocation that has come to this reply ended so
  abbrev pub EndsWith : Task → Place → Reply → Type 0
  EndsWith (task.Invocation m) p r = (job : Job) × (p.task ≡ Running (Invoke job)) × EndedSo (wiki_of g modules) (page_of g) p (Invoke job) (outcome_of r)
  EndsWith _ p r = Unit {0}

  -- IT HAS HALTED: it has come to its reply, or it waits at the question that the meaning asks
  pub record HasReply (t : Task) (p : Place) (r : Reply) (left : Left) : Type 0 where
    pub task : IsTask t p
    pub reply : PlainReply Answer
    pub comes : HasCome (wiki_of g modules) (page_of g) p reply
    pub says : reply.response ≡ reply_seen r
    pub leaves : reply.left ≡ left
    pub height : HeightIs t r reply.tally.height
    pub ends_with : EndsWith t p r

  abbrev pub HasHalted : StoreView → Left → Task → Place → Halt → Type 0
  HasHalted s left t p (halt.Comes r) = HasReply t p r left
  HasHalted s left t p (halt.Invokes job) = (next_of (wiki_of g modules) (page_of g) p ≡ Wants (OfPage job) left) × Waits s t p
  HasHalted s left t p (halt.Asks q) = (next_of (wiki_of g modules) (page_of g) p ≡ Wants (OfLua q) left) × Waits s t p
