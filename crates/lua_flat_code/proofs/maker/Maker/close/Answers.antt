use Rattle.std.proofs.Common.{ap}
use Rattle.lua_flat_code.specs.Making.{state_of}
use Rattle.lua_flat_code.proofs.StatementLaws.{locals_closed}
use Rattle.lua_flat_code.proofs.maker.Maker.close.Goals as goal

pub returns : goal.returns
returns c = ap (λ ls. record (state_of c.args.self.now) { locals = ls }) (locals_closed _ _ _ c.truncate.ensures.items)
