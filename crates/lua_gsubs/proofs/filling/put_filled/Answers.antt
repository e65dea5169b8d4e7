use Rattle.std.proofs.Common.{◌∙◌, ap, Err}
use Rattle.std.proofs.lemmas.Result.{err_from_is_err_and}
use Rattle.mw_text.specs.LuaStringReplacements.{replaced_of}
use Rattle.lua_gsubs.proofs.Filled.{filled_put, filled_spent, filled_none, filled_no_memory}
use Rattle.lua_gsubs.proofs.filling.put_filled.Goals as goal

pub returns-in-None : goal.returns-in-None
returns-in-None c = filled_none (replaced_of c.args.whole.now c.args.captures.now c.args.replacement.now) c.args.between.now c.args.text.now.items c.args.text.now.items c.args.left.now c.in-None.ensures

pub returns-in-Err : goal.returns-in-Err
returns-in-Err c =
    filled_spent (replaced_of c.args.whole.now c.args.captures.now c.args.replacement.now) c.args.between.now c.args.text.now.items c.args.text.now.items c.args.left.now c.pay_both.new.left c.in-Some.size c.in-Err.field-0 c.in-Some.ensures c.in-Err.ensures

pub returns-in_ok-make_filled-in-Ok : goal.returns-in_ok-make_filled-in-Ok
returns-in_ok-make_filled-in-Ok c =
    filled_put (replaced_of c.args.whole.now c.args.captures.now c.args.replacement.now) c.args.between.now c.args.text.now.items c.make_filled.new.text.items c.args.left.now c.pay_both.new.left c.in-Some.size c.in-Some.ensures c.in-Ok.ensures c.in_ok-make_filled-in-Ok.ensures

pub returns-in_err-make_filled-in-Ok : goal.returns-in_err-make_filled-in-Ok
returns-in_err-make_filled-in-Ok c =
    let q = err_from_is_err_and c.from_residual.result c.from_residual.ensures.1 in
    filled_no_memory (replaced_of c.args.whole.now c.args.captures.now c.args.replacement.now) c.args.between.now c.args.text.now.items c.make_filled.new.text.items c.args.left.now c.pay_both.new.left c.from_residual.result (q.1 ∙ ap Err q.2)
