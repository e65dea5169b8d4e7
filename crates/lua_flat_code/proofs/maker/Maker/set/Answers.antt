use Rattle.std.proofs.lemmas.Result.{on_ok_weaker}
use Rattle.lua_flat_code.proofs.TargetLaws.{said_register, said_cell_set, said_captured_set, said_global_set, said_entry_set}
use Rattle.lua_flat_code.proofs.maker.Maker.set.Goals as goal

pub returns-in-Register : goal.returns-in-Register
returns-in-Register c = on_ok_weaker c.emit.result (λ e. said_register _ _ _ _ _ c.in-Register.is e) c.emit.ensures

pub returns-in-Cell : goal.returns-in-Cell
returns-in-Cell c = on_ok_weaker c.emit-in-Cell.result (λ e. said_cell_set _ _ _ _ _ c.in-Cell.is e) c.emit-in-Cell.ensures

pub returns-in-Captured : goal.returns-in-Captured
returns-in-Captured c = on_ok_weaker c.emit-in-Captured.result (λ e. said_captured_set _ _ _ _ _ c.in-Captured.is e) c.emit-in-Captured.ensures

pub returns-in-Global : goal.returns-in-Global
returns-in-Global c = on_ok_weaker c.emit_at.result (λ e. said_global_set _ _ _ _ _ _ c.in-Global.is e) c.emit_at.ensures

pub returns-in-Entry : goal.returns-in-Entry
returns-in-Entry c = on_ok_weaker c.emit_at-in-Entry.result (λ e. said_entry_set _ _ _ _ _ _ _ c.in-Entry.is e) c.emit_at-in-Entry.ensures
