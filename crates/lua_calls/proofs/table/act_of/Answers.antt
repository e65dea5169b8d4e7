use Rattle.std.proofs.Common.{◌∙◌, sym, subst}
use Rattle.mw_frame_calls.proofs.Lines.{in-table as frame-line}
use Rattle.lua_calls.specs.Table.{IsLine}
use Rattle.lua_calls.proofs.Lines.{other_line}
use Rattle.lua_calls.proofs.table.act_of.Goals as goal

pub returns-in-Some : goal.returns-in-Some
returns-in-Some c = c.in-Some.ensures

pub returns-in-Some-frame_function : goal.returns-in-Some-frame_function
returns-in-Some-frame_function c = frame-line c.args.which c.in-Some-frame_function.function (sym c.frame_function.ensures ∙ c.in-Some-frame_function.is)

pub returns-in-None-frame_function : goal.returns-in-None-frame_function
returns-in-None-frame_function c = subst (IsLine c.args.which) (sym c.other_act.ensures) (other_line c.args.which c.in-None.ensures (sym c.frame_function.ensures ∙ c.in-None-frame_function.is))
