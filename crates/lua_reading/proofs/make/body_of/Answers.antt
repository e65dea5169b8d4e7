use Rattle.lua_syntax.proofs.Views.{function_made}
use Rattle.lua_reading.proofs.make.body_of.Goals as goal

pub returns : goal.returns
returns c = function_made _ _ _
