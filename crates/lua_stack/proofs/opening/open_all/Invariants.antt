use Rattle.std.proofs.Common.{length}
use Rattle.lua_stack.proofs.Openings.{Opens}
use Rattle.lua_stack.proofs.opening.open_all.Given as goal

abbrev pub invariant-flags : goal.invariant-flags
invariant-flags l = Opens l.fn.store l.store l.fn.regs l.regs l.fn.flags l.left l.fn.values l.values

abbrev pub decreases-flags : goal.decreases-flags
decreases-flags l = length l.left
