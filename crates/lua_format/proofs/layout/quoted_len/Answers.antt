use Rattle.lua_format.proofs.Fills.{quoted_end}
use Rattle.lua_format.proofs.layout.quoted_len.Goals as goal

pub returns-in_default : goal.returns-in_default
returns-in_default c = quoted_end c.bytes.len c.bytes.rest.now c.args.bytes.now c.in_default.ensures c.bytes.invariant.1 c.bytes.invariant.0
