use Rattle.std.proofs.Common.{◌∙◌, ap, refl, subst, sym, Err}
use Rattle.std.proofs.lemmas.Result.{err_from_is_err_and}
use Rattle.mw_frame_texts.specs.LuaMeaningArguments.{passed}
use Rattle.mw_frame_texts.specs.LuaMeaningFrameMethods.{entry_arg}
use Rattle.mw_frame_texts.specs.LuaMeaningMessages.{bad_template_arguments}
use Rattle.mw_frame_texts.specs.MwFramesReading.{args_seen}
use Rattle.mw_frame_calls.specs.Parts.{entries_in}
use Rattle.mw_frame_calls.specs.Seen.{scenes_seen, Paid}
use Rattle.mw_frame_calls.proofs.Found.{found, not_found, raised, charged, not_charged}
use Rattle.mw_frame_calls.proofs.asking.template_read.Goals as goal

pub returns-in_err-pay_cleared-clause-answer : goal.returns-in_err-pay_cleared-clause-answer
returns-in_err-pay_cleared-clause-answer c =
    let p = err_from_is_err_and c.from_residual.result c.from_residual.ensures.1 in
    let s = c.args.store.now in
    not_charged (passed entry_arg (entries_in s.heap c.args.table)) _ s (scenes_seen c.args.scenes.now) c.args.left.now c.pay_cleared.new.left c.in_err-pay_cleared.field-0.0 c.from_residual.result c.in_err-pay_cleared.ensures (p.1 ∙ ap Err p.2)

pub returns-in_default-clause-answer : goal.returns-in_default-clause-answer
returns-in_default-clause-answer c =
    let s = c.args.store.now in
    let frames = scenes_seen c.args.scenes.now in
    let none = rw c.in_default.is at c.in_ok-args.ensures in
    let is = not_found _ _ bad_template_arguments s.heap frames _ none refl in
    charged (passed entry_arg (entries_in s.heap c.args.table)) _ s frames c.args.left.now c.pay_cleared.new.left c.pay_cleared.new.left c.refuse.new.store frames (Err c.refuse.result) c.in_ok-pay_cleared.ensures
    (raised _ bad_template_arguments s c.refuse.new.store frames c.pay_cleared.new.left c.refuse.result is c.refuse.ensures.raises)

pub returns-clause-answer : goal.returns-clause-answer
returns-clause-answer c =
    let s = c.args.store.now in
    let frames = scenes_seen c.args.scenes.now in
    let read = rw c.in-Some.is at c.in_ok-args.ensures in
    let is = found _ _ (args_seen c.in-Some.args) s.heap frames _ read refl in
    let answer = rw c.as_slice.ensures at c.ask_template.ensures.answer in
    charged (passed entry_arg (entries_in s.heap c.args.table)) _ s frames c.args.left.now c.pay_cleared.new.left c.ask_template.new.left c.ask_template.new.store frames c.ask_template.result c.in_ok-pay_cleared.ensures
    (subst (λ q. Paid q s frames c.pay_cleared.new.left c.ask_template.new.store frames c.ask_template.new.left c.ask_template.result) (sym is) answer)
