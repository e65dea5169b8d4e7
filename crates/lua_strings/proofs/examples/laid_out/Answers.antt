use Rattle.lua_strings.proofs.Rows.{laid_out}
use Rattle.lua_strings.proofs.examples.laid_out.Goals as goal

pub returns : goal.returns
returns c = laid_out
