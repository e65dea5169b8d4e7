use Rattle.std.proofs.Common.{sym}
use Rattle.lua_state.proofs.FoundCode.{again}
use Rattle.lua_state.proofs.codes.recent_module.Goals as goal

pub returns-then-eq : goal.returns-then-eq
returns-then-eq c = λ w s h. again w s c.in-Some.one c.args.source (sym c.if-eq.ensures) (rw c.in-Some.is at h)
