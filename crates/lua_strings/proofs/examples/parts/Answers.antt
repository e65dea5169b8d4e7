use Rattle.lua_strings.proofs.Rows.{parts}
use Rattle.lua_strings.proofs.examples.parts.Goals as goal

pub returns : goal.returns
returns c = parts
