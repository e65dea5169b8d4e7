use Rattle.lua_iterators.proofs.Rows.{parts}
use Rattle.lua_iterators.proofs.examples.parts.Goals as goal

pub returns : goal.returns
returns c = parts
