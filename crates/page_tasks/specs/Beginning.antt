-- A TASK BEGINS, in a store of its own making or in the store as it is.
use Rattle.std.specs.Prelude.{◌≡◌, ℕ, IsSome, IfSome}
use Rattle.page_run.specs.WkBaseDeclaredLeftLeft.{Left}
use Rattle.page_run.specs.Walk.{WalkState}
use Rattle.lua_machine.specs.LuaHeapReach.{Set, nowhere}
use Rattle.lua_code.specs.LuaMeaningWorld.{Modules}
use Rattle.page_ground.specs.LuaMeaningStart.{Work}
use Rattle.lua_machine.specs.LuaStoreSeen.{StoreView}
use Rattle.lua_machine.specs.LuaStoreParts.{IsLater}
use Rattle.lua_machine.specs.declared.machine.Machine.{Machine}
use Rattle.lua_machine.specs.Events.{MachineOf}
use Rattle.page_ground.specs.PageMeaningTasks.{Task as PlainTask, Running, Expanding}
use Rattle.page_ground.specs.PagePointsPlaces.{beginning}
use Rattle.page_ground.specs.PagePointsApart.{LeavesAlone}
use Rattle.page_tasks.specs.declared.task.Task.{Task}
use Rattle.page_ground.specs.Ground.{Ground, AreModulesOf, page_of}
use Rattle.wiki_expand.specs.ExpandMeaningOutcome.{Work as Expansion, Reading, Including, page_scene}
use Rattle.lua_code.specs.WkBaseDeclaredTitleTitle.{Title}
use Rattle.mw_frame.specs.declared.scene.Scene.{Scene}
use Rattle.wiki_expand.specs.WikiPagesPages.{find_page, direct_in, included_in}
use Rattle.page_tasks.specs.Tasks.{TaskIn, OnGround, CanGo, calls_in, depth_of, templates_of, MachineReady, Ready}

-- it stands at its start, whatever is left, in a set of its own
pub record StartsAt (g : Ground) (modules : Modules) (s t : StoreView) (x : Task) (task : PlainTask) (l : Left) (began : WalkState) : Type 0 where
  pub within : Set
  pub ready : Ready g modules t l x (record (beginning task l began) { within = within })
  pub alone : LeavesAlone nowhere s.heap t.heap within

-- nothing is in progress yet
pub record BeginsIn (g : Ground) (s t : StoreView) (x : Task) : Type 0 where
  pub of : TaskIn t x
  pub can : CanGo x
  pub ground : OnGround g x
  pub calls : calls_in x ≡ 0
  pub depth : depth_of x ≡ 0
  pub templates : templates_of x ≡ 0
  pub later : IsLater s t

pub record Begins (g : Ground) (task : PlainTask) (s t : StoreView) (x : Task) : Type 0 where
  pub begins : BeginsIn g s t x
  pub starts : (modules : Modules) → AreModulesOf g modules → (l : Left) (began : WalkState) → StartsAt g modules s t x task l began

-- where so many steps are left
pub record BeginsWith (g : Ground) (task : PlainTask) (steps : ℕ) (s t : StoreView) (x : Task) : Type 0 where
  pub begins : BeginsIn g s t x
  pub starts : (modules : Modules) → AreModulesOf g modules → (l : Left) (began : WalkState) → l.steps ≡ steps → StartsAt g modules s t x task l began

-- the same of a machine
pub record MachineBegins (g : Ground) (work : Work) (s t : StoreView) (m : Machine) : Type 0 where
  pub of : MachineOf t m
  pub world : m.state.codes.world ≡ g.world
  pub calls : m.state.calls ≡ 0
  pub later : IsLater s t
  pub starts : (modules : Modules) → AreModulesOf g modules → (l : Left) (began : WalkState) → (within : Set) × MachineReady g modules t l m (record (beginning (Running work) l began) { within = within }) × LeavesAlone nowhere s.heap t.heap within

-- ---- an expansion, in whatever store there is, which it leaves as it is

abbrev pub BeginsExpanding : Ground → Expansion → Task → Type 0
BeginsExpanding g work x = (s : StoreView) → Begins g (Expanding work) s s x

-- of a template with these arguments, in the scene of the one that asks for it
abbrev pub BeginsTemplate : Ground → Title → Scene → Task → Type 0
BeginsTemplate g title scene x = IfSome (included_in g.pages title) (λ trees. BeginsExpanding g (Including trees title scene) x)

-- of the page itself
abbrev pub BeginsPage : Ground → Task → Type 0
BeginsPage g x = IfSome (direct_in g.pages (page_of g)) (λ trees. BeginsExpanding g (Reading trees (page_scene (page_of g))) x)

-- the page is one of the wiki
abbrev pub HasPage : Ground → Type 0
HasPage g = IsSome (find_page g.pages (page_of g))
