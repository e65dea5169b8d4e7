-- Tasks begin.
use Rattle.std.proofs.Common.{◌≡◌, ℕ, true, [], Option, Some, None, Result, Ok, Err, refl, sym, ap, ◌∙◌, subst}
use Rattle.std.specs.Prelude.{IfSome, IfOk, OnOk, option_map}
use Rattle.page_run.specs.WkBaseDeclaredLeftLeft.{Left}
use Rattle.lua_code.specs.WkBaseDeclaredTitleTitle.{Title}
use Rattle.lua_code.specs.WkBaseTitles.{is_module}
use Rattle.mw_frame.specs.declared.scene.Job.{Job}
use Rattle.lua_machine.specs.LuaHeapReach.{nowhere, with_new, Frame}
use Rattle.wiki_expand.specs.ExpandMeaningOutcome.{Work as PageWork}
use Rattle.wiki_expand.specs.declared.expander.Expander.{Expander}
use Rattle.wiki_expand.specs.WikiPagesPages.{setting_in}
use Rattle.wiki_expand.specs.Standing.{At, IsReady, setting_of, depth_in, templates_in}
use Rattle.page_ground.specs.LuaMeaningStart.{Invoke, DataOf}
use Rattle.lua_code.specs.LuaSlotsCode.{CWorld}
use Rattle.lua_machine.specs.LuaSlotsPoints.{Point, Works}
use Rattle.lua_machine.specs.LuaPointsClauses.{Starts}
use Rattle.lua_machine.specs.LuaStoreSeen.{StoreView}
use Rattle.lua_machine.specs.LuaStoreParts.{IsLater}
use Rattle.page_ground.proofs.LuaStoreLater.{later-itself}
use Rattle.page_ground.specs.LuaStackDeclaredFocusWork.{Work as CodeWork}
use Rattle.lua_machine.specs.LuaStackSeen.{work_seen}
use Rattle.lua_machine.specs.LuaStateWorlds.{world_seen}
use Rattle.page_ground.specs.LuaStateSeen.{slots_of}
use Rattle.lua_machine.specs.declared.machine.Machine.{Machine}
use Rattle.lua_machine.specs.Moved.{point_of}
use Rattle.lua_machine.specs.Events.{MachineOf}
use Rattle.page_ground.specs.PageMeaningWiki.{world}
use Rattle.page_ground.specs.PageMeaningTasks.{Running, Expanding}
use Rattle.page_ground.specs.PagePointsPlaces.{Place, beginning}
use Rattle.page_ground.specs.PagePointsMachines.{MachineStands}
use Rattle.page_ground.proofs.PagePointsMachines.{machine_starts}
use Rattle.page_ground.proofs.PagePointsApart.{nothing_changes, going_leaves}
use Rattle.page_tasks.specs.declared.task.Begun.{Begun}
use Rattle.page_tasks.specs.declared.task.Task.TheVariants as task
use Rattle.page_ground.specs.Ground.{Ground, page_of, wiki_of}
use Rattle.page_tasks.specs.Beginning.{MachineBegins, Begins, BeginsWith}

-- what holds of what was made, where it was made
pub of_made : {A E : Type 0} (P : A → Type 0) (r : Result A E) (a : A) → r ≡ Ok a → IfOk r P → P a
of_made P r a e h = subst (λ x. IfOk x P) e h

-- A MACHINE
pub machine_begins : (g : Ground) (w : CodeWork) (s t : StoreView) (m : Machine) → MachineOf t m → m.state.codes.world ≡ g.world → point_of t m.state m.next ≡ Works (work_seen w) → ((code : CWorld) → Starts code (work_seen w) s.heap (slots_of t m.state)) → (m.state.calls ≡ 0) × (m.height ≡ 0) → Frame nowhere s.heap t.heap → IsLater s t
    → MachineBegins g (work_seen w) s t m
machine_begins g w s t m of on next starts idle frame later = record {
  of = of;
  world = on;
  calls = idle.0;
  later = later;
  starts = λ modules agree l began.
      let place : Place = record (beginning (Running (work_seen w)) l began) { within = with_new nowhere s.heap t.heap } in
      let x = machine_starts (world_seen g.world) (wiki_of g modules) (page_of g) (work_seen w) s.heap (slots_of t m.state) (starts (world_seen g.world)) agree.agree l began in (
        with_new nowhere s.heap t.heap,
        subst (λ (p : Point). MachineStands (world_seen g.world) (world (wiki_of g modules) (page_of g)) place p (slots_of t m.state) l m.state.calls m.height) (sym next)
            (subst (λ n. MachineStands (world_seen g.world) (world (wiki_of g modules) (page_of g)) place (Works (work_seen w)) (slots_of t m.state) l n m.height) (sym idle.0)
            (subst (λ n. MachineStands (world_seen g.world) (world (wiki_of g modules) (page_of g)) place (Works (work_seen w)) (slots_of t m.state) l 0 n) (sym idle.1) x)),
        going_leaves nowhere s.heap t.heap frame,
      );
}

-- one that was made, and stands on the heap
pub made_begins : {E : Type 0} (g : Ground) (w : CodeWork) (s t : StoreView) (r b : Result Machine E) → IfOk b (λ m. r ≡ Ok m) → IfOk r (MachineOf t) → IfOk r (λ m. m.state.codes.world ≡ g.world) → IfOk r (λ m. point_of t m.state m.next ≡ Works (work_seen w))
    → IfOk r (λ m. (code : CWorld) → Starts code (work_seen w) s.heap (slots_of t m.state)) → IfOk r (λ m. (m.state.calls ≡ 0) × (m.height ≡ 0)) → OnOk r (Frame nowhere s.heap t.heap) → OnOk r (IsLater s t) → IfOk b (MachineBegins g (work_seen w) s t)
made_begins g w s t r (Ok m) same of on next starts idle frame later =
    machine_begins g w s t m (of_made (MachineOf t) r m same of) (of_made (λ (x : Machine). x.state.codes.world ≡ g.world) r m same on)
    (of_made (λ (x : Machine). point_of t x.state x.next ≡ Works (work_seen w)) r m same next) (of_made (λ (x : Machine). (code : CWorld) → Starts code (work_seen w) s.heap (slots_of t x.state)) r m same starts)
    (of_made (λ (x : Machine). (x.state.calls ≡ 0) × (x.height ≡ 0)) r m same idle) (of_made (λ (x : Machine). Frame nowhere s.heap t.heap) r m same frame) (of_made (λ (x : Machine). IsLater s t) r m same later)
made_begins g w s t r (Err e) same of on next starts idle frame later = tt

pub invocation_begins : (g : Ground) (job : Job) (s t : StoreView) (m : Machine) → MachineBegins g (Invoke job) s t m → Begins g (Running (Invoke job)) s t (task.Invocation m)
invocation_begins g job s t m b = record {
  begins = record { of = b.of; can = tt; ground = b.world; calls = b.calls; depth = refl; templates = refl; later = b.later };
  starts = λ modules agree l began. let x = b.starts modules agree l began in record { within = x.0; ready = record { task = (job, refl); stands = x.1 }; alone = x.2 };
}

pub load_begins : (g : Ground) (title : Title) (steps : ℕ) (s t : StoreView) (b : Begun) (m : Machine) → is_module title.ns ≡ true → b.title ≡ title → b.steps ≡ steps → MachineBegins g (DataOf title) s t m → BeginsWith g (Running (DataOf title)) steps s t (task.Load b m)
load_begins g title steps s t b m named same count i = record {
  begins = record { of = (i.of, ap (λ (x : Title). is_module x.ns) same ∙ named); can = tt; ground = i.world; calls = i.calls; depth = refl; templates = refl; later = i.later };
  starts = λ modules agree l began e. let x = i.starts modules agree l began in record { within = x.0; ready = record { task = (ap (λ y. Running (DataOf y)) (sym same), e ∙ sym count); stands = x.1 }; alone = x.2 };
}

-- AN EXPANSION
pub expansion_begins : (g : Ground) (work : PageWork) (e : Expander) → ((l : Left) → At e work l [] l) → setting_of e ≡ setting_in g.pages (page_of g) → IsReady e → (depth_in e ≡ 0) × (templates_in e ≡ 0) → (s : StoreView) → Begins g (Expanding work) s s (task.Expansion e)
expansion_begins g work e at on ready rests s = record {
  begins = record { of = tt; can = ready; ground = on; calls = refl; depth = rests.0; templates = rests.1; later = later-itself s };
  starts = λ modules agree l began. record { within = nowhere; ready = record { task = (work, refl); stands = λ v i. subst (λ x. At e x l [] l) (work_is work v i) (at l) }; alone = nothing_changes nowhere s.heap };
}
  where
    work_is : (v w : PageWork) → Expanding v ≡ Expanding w → v ≡ w
    work_is v w i = cc

pub if_some : {A : Type 0} (P Q : A → Type 0) (o : Option A) → ((a : A) → P a → Q a) → IfSome o P → IfSome o Q
if_some P Q (Some a) f p = f a p
if_some P Q None f p = p

pub if_mapped : {A B : Type 0} (f : A → B) (P : B → Type 0) (o : Option A) → IfSome (option_map f o) P → IfSome o (λ a. P (f a))
if_mapped f P (Some a) p = p
if_mapped f P None p = p
