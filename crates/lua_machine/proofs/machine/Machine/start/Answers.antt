use Rattle.std.proofs.Common.{ap}
use Rattle.lua_blocks.specs.LuaSlotsPoints.{Works}
use Rattle.lua_environment.specs.LuaStackDeclaredFocusWork.{Work}
use Rattle.lua_blocks.specs.LuaStackSeen.{work_seen}
use Rattle.lua_machine.proofs.machine.Machine.start.Goals as goal

pub returns-clause-starts : goal.returns-clause-starts
returns-clause-starts c = λ code. c.in_ok-state.ensures.starts code (work_seen c.args.work)

pub returns-clause-next : goal.returns-clause-next
returns-clause-next c = ap (λ (w : Work). Works (work_seen w)) c.in_ok-work.ensures
