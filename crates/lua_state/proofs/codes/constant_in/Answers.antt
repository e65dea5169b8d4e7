use Rattle.std.proofs.Common.{ap, sym}
use Rattle.lua_code.specs.LuaSlotsCode.{Protos}
use Rattle.lua_state.proofs.FoundCode.{constant_is}
use Rattle.lua_state.proofs.codes.constant_in.Goals as goal

pub returns-in-Some : goal.returns-in-Some
returns-in-Some c = λ plain h. constant_is plain _ c.args.number _ (rw c.in-Some.is at h) c.constant.ensures

pub returns-in-None : goal.returns-in-None
returns-in-None c = λ plain h. ap (λ (x : Protos). x.constant c.args.number) (sym (rw c.in-None.is at h))
