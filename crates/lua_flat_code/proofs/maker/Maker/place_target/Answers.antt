use Rattle.lua_flat_code.specs.Making.{state_of}
use Rattle.lua_flat_code.proofs.TargetLaws.{said_plain_place, said_cell_place, said_captured_place}
use Rattle.lua_flat_code.proofs.maker.Maker.place_target.Goals as goal

pub returns-in_ok-register-in-Register : goal.returns-in_ok-register-in-Register
returns-in_ok-register-in-Register c = said_plain_place (state_of c.args.self.now) _ _ _ c.in-Register.is c.in_ok-register-in-Register.ensures

pub returns-in_ok-register-in-Cell : goal.returns-in_ok-register-in-Cell
returns-in_ok-register-in-Cell c = said_cell_place (state_of c.args.self.now) _ _ _ c.in-Cell.is c.in_ok-register-in-Cell.ensures

pub returns-in_ok-number-in-Captured : goal.returns-in_ok-number-in-Captured
returns-in_ok-number-in-Captured c = said_captured_place (state_of c.args.self.now) _ _ _ c.in-Captured.is c.in_ok-number-in-Captured.ensures.0
