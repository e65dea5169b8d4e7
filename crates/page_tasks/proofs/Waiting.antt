-- A task waits while another one goes on.
use Rattle.std.proofs.Common.{◌≡◌, List, Some, IsTrue, sym, subst}
use Rattle.lua_code.specs.LuaHeapProc.{Proc}
use Rattle.lua_code.specs.LuaHeapHeap.{Ref, Obj, look}
use Rattle.lua_code.specs.LuaMeaningWorld.{Modules}
use Rattle.lua_machine.specs.LuaSlotsSlots.{Slots}
use Rattle.lua_machine.specs.LuaSlotsPoints.{SFrame, Asking}
use Rattle.lua_machine.specs.LuaStoreSeen.{StoreView}
use Rattle.lua_machine.specs.LuaStoreParts.{IsLater}
use Rattle.page_ground.proofs.LuaStackStay.{focus_later}
use Rattle.lua_machine.specs.LuaStateWorlds.{world_seen}
use Rattle.page_ground.specs.LuaStateSeen.{slots_of, frames_of}
use Rattle.lua_machine.proofs.LuaStateStaying.{state_later, frames_stay, slots_stay}
use Rattle.lua_machine.specs.declared.machine.Machine.{Machine}
use Rattle.lua_machine.specs.Events.{MachineOf}
use Rattle.page_ground.specs.PageMeaningWiki.{world}
use Rattle.page_ground.specs.PagePointsPlaces.{Place}
use Rattle.page_ground.specs.PagePointsMachines.{MachineStands}
use Rattle.page_ground.proofs.PagePointsMachines.{machine_waits}
use Rattle.page_tasks.specs.declared.task.Task.{Task}
use Rattle.page_tasks.specs.declared.task.Task.TheVariants as task
use Rattle.page_ground.specs.Ground.{Ground, page_of, wiki_of}
use Rattle.page_tasks.specs.Tasks.{TaskIn, Waits, MachineWaits}

pub machine_later : (s t : StoreView) → IsLater s t → (m : Machine) → MachineOf s m → MachineOf t m
machine_later s t l m h = record { state = state_later s t l m.state h.state; next = focus_later s t l m.next h.next }

pub task_later : (s t : StoreView) → IsLater s t → (x : Task) → TaskIn s x → TaskIn t x
task_later s t l (task.Expansion e) h = tt
task_later s t l (task.Invocation m) h = machine_later s t l m h
task_later s t l (task.Load b m) h = (machine_later s t l m h.0, h.1)

module _ (g : Ground) (modules : Modules) (s t : StoreView) (l : IsLater s t) where
  machine_waits_later : (m : Machine) (p : Place) → MachineOf s m → ((r : Ref) (o : Obj Proc) → IsTrue (p.within r) → look s.heap r ≡ Some o → look t.heap r ≡ Some o) → MachineWaits g modules s m p → MachineWaits g modules t m p
  machine_waits_later m p h same w = record {
    question = w.question;
    left = w.left;
    stood =
        let stood = machine_waits (world_seen g.world) (wiki_of g modules) (page_of g) p (Asking w.question (frames_of s m.state)) (slots_of s m.state) w.left m.state.calls m.height w.stood t.heap same in
        subst (λ (fs : List SFrame). MachineStands (world_seen g.world) (world (wiki_of g modules) (page_of g)) p (Asking w.question fs) (slots_of t m.state) w.left m.state.calls m.height) (sym (frames_stay s t l m.state h.state))
        (subst (λ (x : Slots). MachineStands (world_seen g.world) (world (wiki_of g modules) (page_of g)) p (Asking w.question (frames_of s m.state)) x w.left m.state.calls m.height) (sym (slots_stay s t l m.state h.state)) stood);
  }

  pub waits_later : (x : Task) (p : Place) → TaskIn s x → ((r : Ref) (o : Obj Proc) → IsTrue (p.within r) → look s.heap r ≡ Some o → look t.heap r ≡ Some o) → Waits g modules s x p → Waits g modules t x p
  waits_later (task.Expansion e) p h same w = record { task = w.task; waits = w.waits }
  waits_later (task.Invocation m) p h same w = record { task = w.task; waits = machine_waits_later m p h same w.waits }
  waits_later (task.Load b m) p h same w = record { task = w.task; waits = machine_waits_later m p h.0 same w.waits }
