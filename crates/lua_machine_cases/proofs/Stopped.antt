-- WHERE A MACHINE STOPS: its calls, and what it holds in a later store.
use Rattle.std.proofs.Common.{◌≡◌, ℕ, ◌+◌, arith}
use Rattle.page_run.specs.WkBaseDeclaredLeftLeft.{Left}
use Rattle.lua_machine.specs.LuaStoreSeen.{StoreView}
use Rattle.lua_machine.specs.LuaStoreParts.{IsLater}
use Rattle.lua_resolve.proofs.LuaStackStay.{focus_later}
use Rattle.lua_machine.proofs.LuaStateStaying.{state_later}
use Rattle.lua_machine.specs.declared.event.Event.{Event}
use Rattle.lua_machine.specs.declared.event.Event.TheVariants as event
use Rattle.lua_machine.specs.declared.machine.Machine.{Machine}
use Rattle.lua_machine.specs.Events.{BackAt, MachineOf}

-- calls left and calls in progress are as many as they were, at whatever event
pub as_many : (e : Event) (l : Left) (k : ℕ) (l' : Left) (k' : ℕ) → BackAt e l k l' k' → l'.calls + k' ≡ l.calls + k
as_many (event.Asks q) l k l' k' h = h
as_many (event.Over o) l k l' k' h = omega (arith, h.0, h.1)
as_many (event.Spent w) l k l' k' h = omega (arith, h.0, h.1)

pub machine_later : (s t : StoreView) (m : Machine) → IsLater s t → MachineOf s m → MachineOf t m
machine_later s t m l h = record { state = state_later s t l m.state h.state; next = focus_later s t l m.next h.next }
