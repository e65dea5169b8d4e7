use Rattle.lua_flat_code.specs.Making.{state_of}
use Rattle.lua_flat_code.proofs.TargetLaws.{said_variable, said_global_target}
use Rattle.lua_flat_code.proofs.maker.Maker.variable_target.Goals as goal

pub returns-in_ok-found-in-Variable : goal.returns-in_ok-found-in-Variable
returns-in_ok-found-in-Variable c = said_variable (state_of c.args.self.now) _ _ _ c.in-Variable.is c.in_ok-found-in-Variable.ensures

pub returns-in-Global : goal.returns-in-Global
returns-in-Global c = said_global_target (state_of c.args.self.now) _ _ _ c.in-Global.is
