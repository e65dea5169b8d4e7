use Rattle.lua_strings.proofs.Rows.{made}
use Rattle.lua_strings.proofs.examples.made.Goals as goal

pub returns : goal.returns
returns c = made
