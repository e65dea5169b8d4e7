use Rattle.lua_resolve.specs.Parts.{state_of}
use Rattle.lua_resolve.proofs.PartLaws.{next_numbered}
use Rattle.lua_resolve.proofs.resolver.Resolver.constant.Goals as goal

pub returns-clause-next : goal.returns-clause-next
returns-clause-next c = next_numbered (state_of c.args.self.now) _ c.in_ok-number.ensures.stay

pub returns-clause-there : goal.returns-clause-there
returns-clause-there c = λ at see l. l.constants c.in_ok-number.number c.args.bytes.now c.in_ok-number.ensures.there
