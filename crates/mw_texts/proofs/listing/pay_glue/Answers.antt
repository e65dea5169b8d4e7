use Rattle.std.proofs.Common.{◌≡◌, ◌∙◌, ap, rules, arith, ◌+◌, ◌*◌, ◌<◌, Err}
use Rattle.std.proofs.lemmas.Result.{err_from_is_err_and}
use Rattle.mw_ustrings.proofs.MwFramesSums.{took_none}
use Rattle.mw_texts.proofs.ItemLists.{glue_few, glue_many}
use Rattle.mw_texts.proofs.PaidParts.{pays_then, pays_less}
use Rattle.mw_texts.proofs.listing.pay_glue.Goals as goal

pub returns-in-None : goal.returns-in-None
returns-in-None c =
    let few : c.args.count < 2 = search rules in
    rw (glue_few c.args.separator c.args.conjunction c.args.count few) (took_none c.args.left.now)

pub returns-in_err-pay-in-Some : goal.returns-in_err-pay-in-Some
returns-in_err-pay-in-Some c =
    let p = err_from_is_err_and c.from_residual.result c.from_residual.ensures.1 in
    let all : c.in-Some.separators + 2 ≡ c.args.count = search rules in
    rw (glue_many c.args.separator c.args.conjunction c.args.count c.in-Some.separators all)
    (pays_less c.args.conjunction _ c.args.left.now c.pay.new.left c.in_err-pay-in-Some.field-0.0 c.from_residual.result c.in_err-pay-in-Some.ensures (omega arith) (p.1 ∙ ap Err p.2))

pub returns-in_ok-pay-in-Some : goal.returns-in_ok-pay-in-Some
returns-in_ok-pay-in-Some c =
    let all : c.in-Some.separators + 2 ≡ c.args.count = search rules in
    rw (glue_many c.args.separator c.args.conjunction c.args.count c.in-Some.separators all)
    (pays_then c.args.conjunction (c.args.separator * c.in-Some.separators) c.args.left.now c.pay.new.left c.pay_times.new.left c.pay_times.result c.in_ok-pay-in-Some.ensures c.pay_times.ensures)
