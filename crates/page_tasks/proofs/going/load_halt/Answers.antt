use Rattle.std.proofs.Common.{refl, subst}
use Rattle.lua_machine.specs.Events.{EventOf}
use Rattle.page_tasks.proofs.going.load_halt.Goals as goal

pub loaded_halt-requires : goal.loaded_halt-requires
loaded_halt-requires c = subst (EventOf c.args.store.now) c.in-Over.is c.requires

pub returns-in-Over : goal.returns-in-Over
returns-in-Over c = rw c.in-Over.is c.loaded_halt.ensures

pub returns-in-Spent : goal.returns-in-Spent
returns-in-Spent c = rw c.in-Spent.is refl

pub returns-in-Asks : goal.returns-in-Asks
returns-in-Asks c = rw c.in-Asks.is c.asks.ensures
