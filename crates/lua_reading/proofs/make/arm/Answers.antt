use Rattle.lua_syntax.proofs.Views.{arm_made}
use Rattle.lua_reading.proofs.make.arm.Goals as goal

pub returns : goal.returns
returns c = λ rest. arm_made _ _ rest
