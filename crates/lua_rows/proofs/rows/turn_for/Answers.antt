use Rattle.std.proofs.Common.{ap}
use Rattle.lua_turns.specs.LuaStateDeclaredTurnTurnTheVariants as turn
use Rattle.lua_rows.proofs.rows.turn_for.Goals as goal

pub returns-in_ok-focus-in-On : goal.returns-in_ok-focus-in-On
returns-in_ok-focus-in-On c = rw c.in-On.is (ap turn.On c.in_ok-focus-in-On.ensures)

pub returns-in-Turned : goal.returns-in-Turned
returns-in-Turned c = rw c.in-Turned.is c.into_inner.ensures
