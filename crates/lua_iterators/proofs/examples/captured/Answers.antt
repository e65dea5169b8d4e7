use Rattle.lua_iterators.proofs.Rows.{captured}
use Rattle.lua_iterators.proofs.examples.captured.Goals as goal

pub returns : goal.returns
returns c = captured
