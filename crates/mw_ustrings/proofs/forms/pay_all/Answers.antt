use Rattle.std.proofs.Common.{◌∙◌, ap, subst, sym, arith, length, Err, encode_utf8_all}
use Rattle.std.proofs.lemmas.Result.{err_from_is_err_and}
use Rattle.mw_frame_texts.proofs.MwFramesSums.{took_none}
use Rattle.mw_ustrings.specs.Charges.{PaysInMemory}
use Rattle.mw_ustrings.proofs.Costs.{unpaid_in_memory}
use Rattle.mw_ustrings.proofs.Iterated.{gives_next, gives_end, point_taken, point_unpaid, all_taken}
use Rattle.mw_ustrings.proofs.forms.pay_all.Goals as goal

pub each-init : goal.each-init
each-init g c = (c.requires.can, c.requires.ends, λ cs h. (cs, h, (0, took_none c.args.left.now, omega arith)))

pub each-preserved : goal.each-preserved
each-preserved g c =
    let goes = c.in-Some.ensures.goes.on c.each.invariant.1 in
    let step = rw c.in-Ok.is at c.in-Some.ensures.steps in (
      goes.0,
      goes.1,
      λ cs h.
          let now = c.each.invariant.2 cs h in
          let next = gives_next g.I.Iterator.next_gives _ _ _ _ step now.1 in (
            next.0,
            next.2,
            point_taken c.args.left.now c.each.left c.pay.new.left c.in-Ok.point c.len_utf8.result (length (encode_utf8_all cs)) now.0 next.0 next.1 c.len_utf8.ensures.len now.2 c.in_ok-pay-in-Ok.ensures,
          ),
    )

pub returns-in_err-pay-in-Ok : goal.returns-in_err-pay-in-Ok
returns-in_err-pay-in-Ok g c = λ cs h.
    let p = err_from_is_err_and c.from_residual.result c.from_residual.ensures.1 in
    let step = rw c.in-Ok.is at c.in-Some.ensures.steps in
    let now = c.each.invariant.2 cs h in
    let next = gives_next g.I.Iterator.next_gives _ _ _ _ step now.1 in
    let all = length (encode_utf8_all cs) in
    let e = c.in_err-pay-in-Ok.field-0.0 in
    let unpaid = point_unpaid c.args.left.now c.each.left c.pay.new.left c.in-Ok.point c.len_utf8.result all e now.0 next.0 next.1 c.len_utf8.ensures.len now.2 c.in_err-pay-in-Ok.ensures in
    subst (PaysInMemory all c.args.left.now c.pay.new.left) (sym (p.1 ∙ ap Err p.2)) (unpaid_in_memory all c.args.left.now c.pay.new.left e unpaid)

pub returns : goal.returns
returns g c = λ cs h.
    let now = c.each.invariant.2 cs h in
    all_taken c.args.left.now c.each.left (length (encode_utf8_all cs)) now.0 (gives_end g.I.Iterator.next_gives _ _ _ c.in_default.ensures.steps now.1) now.2
