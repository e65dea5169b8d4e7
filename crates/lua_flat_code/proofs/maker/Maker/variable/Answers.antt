use Rattle.std.proofs.lemmas.Result.{on_ok_weaker}
use Rattle.lua_flat_code.proofs.ValueLaws.{said_cell, said_captured}
use Rattle.lua_flat_code.proofs.maker.Maker.variable.Goals as goal

pub returns-in_ok-cell-in-Cell : goal.returns-in_ok-cell-in-Cell
returns-in_ok-cell-in-Cell c = on_ok_weaker c.emit.result (λ e. said_cell c.args.place _ _ _ _ _ _ c.in-Cell.is c.in_ok-begin.ensures c.in_ok-cell-in-Cell.ensures e) c.emit.ensures

pub returns-in_ok-captured-in-Captured : goal.returns-in_ok-captured-in-Captured
returns-in_ok-captured-in-Captured c = on_ok_weaker c.emit-in-Captured.result (λ e. said_captured c.args.place _ _ _ _ _ _ c.in-Captured.is c.in_ok-begin.ensures c.in_ok-captured-in-Captured.ensures.0 e) c.emit-in-Captured.ensures
