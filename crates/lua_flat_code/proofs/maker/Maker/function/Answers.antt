use Rattle.lua_flat_code.proofs.FunctionLaws.{function_said}
use Rattle.lua_flat_code.proofs.maker.Maker.function.Goals as goal

pub returns : goal.returns
returns c = function_said _ _ _ _ _ c.begin_function.ensures c.in_ok-code.ensures c.in_ok-made.ensures
