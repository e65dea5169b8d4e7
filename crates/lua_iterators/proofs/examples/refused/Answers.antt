use Rattle.lua_iterators.proofs.Rows.{refused}
use Rattle.lua_iterators.proofs.examples.refused.Goals as goal

pub returns : goal.returns
returns c = refused
