use Rattle.lua_strings.proofs.Rows.{calculated}
use Rattle.lua_strings.proofs.examples.calculated.Goals as goal

pub returns : goal.returns
returns c = calculated
