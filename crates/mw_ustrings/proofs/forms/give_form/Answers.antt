use Rattle.std.proofs.Common.{◌∙◌, ap, Err}
use Rattle.std.proofs.lemmas.Result.{err_from_is_err_and}
use Rattle.std.specs.Option.{option_map}
use Rattle.mw_ustrings.specs.Forms.{form_charge}
use Rattle.mw_ustrings.proofs.Costs.{short_in_memory}
use Rattle.mw_ustrings.proofs.Normalized.{form_charged, form_covers}
use Rattle.mw_ustrings.proofs.forms.give_form.Goals as goal

pub returns-in_err-pay_form-clause-answer : goal.returns-in_err-pay_form-clause-answer
returns-in_err-pay_form-clause-answer c =
    let p = err_from_is_err_and c.from_residual.result c.from_residual.ensures.1 in
    let s = c.args.store.now in
    short_in_memory (form_charge c.args.form c.args.s.now) _ s c.args.left.now c.pay_form.new.left c.in_err-pay_form.field-0.0 c.from_residual.result c.in_err-pay_form.ensures
    (form_charged c.args.form s.heap c.args.s.now) (p.1 ∙ ap Err p.2)

pub returns-clause-answer : goal.returns-clause-answer
returns-clause-answer c =
    form_covers c.args.form c.args.store.now.heap c.args.s.now (option_map (λ v. v.items) c.in_ok-made.made) c.form_values.new.store c.args.left.now c.pay_form.new.left c.in_ok-values.values
    c.in_ok-made.ensures c.in_ok-pay_form.ensures c.in_ok-values.ensures.heap c.in_ok-values.ensures.value
