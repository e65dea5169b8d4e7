use Rattle.lua_iterators.proofs.Rows.{patterns}
use Rattle.lua_iterators.proofs.examples.patterns.Goals as goal

pub returns : goal.returns
returns c = patterns
