use Rattle.std.proofs.Common.{arith}
use Rattle.lua_pattern.proofs.Tables.{has_more}
use Rattle.lua_pattern.proofs.byte_table.ByteTable.insert.Goals as goal

pub returns : goal.returns
returns c = λ k below. has_more c.args.self.now.words c.args.byte k (omega (arith, c.args.self.now.whole, c.ranges.byte.fits))
