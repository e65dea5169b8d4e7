use Rattle.lua_syntax.proofs.Views.{block_made}
use Rattle.lua_reading.proofs.make.block_of.Goals as goal

pub returns : goal.returns
returns c = block_made _
