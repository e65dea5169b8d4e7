use Rattle.std.proofs.Common.{ap}
use Rattle.lua_flat_code.specs.Making.{state_of}
use Rattle.lua_flat_code.proofs.OriginLaws.{captured_cell, captured_on}
use Rattle.lua_flat_code.proofs.maker.Maker.capture.Goals as goal

pub returns-in_ok-put-in-Cell : goal.returns-in_ok-put-in-Cell
returns-in_ok-put-in-Cell c = captured_cell (state_of c.args.self.now) _ c.args.place c.in-Cell.at c.in_ok-register-in-Cell.register c.in-Cell.is c.in_ok-register-in-Cell.ensures (ap (λ os. record (state_of c.args.self.now) { origins = os }) c.in_ok-put-in-Cell.ensures)

pub returns-in_ok-put-in-Captured : goal.returns-in_ok-put-in-Captured
returns-in_ok-put-in-Captured c = captured_on (state_of c.args.self.now) _ c.args.place c.in-Captured.at c.in_ok-number-in-Captured.number c.in-Captured.is c.in_ok-number-in-Captured.ensures.0 (ap (λ os. record (state_of c.args.self.now) { origins = os }) c.in_ok-put-in-Captured.ensures)
