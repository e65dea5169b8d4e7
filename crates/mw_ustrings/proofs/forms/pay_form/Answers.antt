use Rattle.std.proofs.Common.{sym, subst}
use Rattle.mw_frame_texts.specs.MwFramesCosts.{Took}
use Rattle.mw_frame_texts.proofs.MwFramesSums.{took_none}
use Rattle.mw_ustrings.specs.Charges.{PaysInMemory}
use Rattle.mw_ustrings.proofs.Normalized.{charge_there, charge_none}
use Rattle.mw_ustrings.proofs.forms.pay_form.Goals as goal

pub returns-in-Ok : goal.returns-in-Ok
returns-in-Ok c =
    subst (λ n. PaysInMemory n c.args.left.now c.pay_text.new.left c.pay_text.result) (sym (charge_there c.args.form c.args.s.now c.in-Ok.ensures.cases.1)) (rw c.in-Ok.ensures.cases.0 at c.pay_text.ensures)

pub returns-in-Err : goal.returns-in-Err
returns-in-Err c = subst (λ n. Took n c.args.left.now c.args.left.now) (sym (charge_none c.args.form c.args.s.now c.in-Err.ensures.cases.0)) (took_none c.args.left.now)
