use Rattle.std.proofs.Common.{◌∙◌, ap, subst, length, length-append}
use Rattle.mw_frame_texts.specs.LuaStoreSeen.{seen}
use Rattle.mw_frame_texts.specs.LuaBasicSeen.{values_seen, AllOf}
use Rattle.mw_frame_texts.proofs.MwFramesSums.{took-more}
use Rattle.mw_ustrings.specs.CodePoints.{point_bytes, points_bytes}
use Rattle.mw_ustrings.proofs.char_of.pay_points.Goals as goal

pub each-preserved : goal.each-preserved
each-preserved c =
    let s = c.args.store.now in
    let more = points_bytes (values_seen s.texts c.in-Some.more.now) in
    let point = point_bytes (seen s.texts c.in-Some.value) in
    let all = subst (AllOf s) c.in-Some.ensures c.each.invariant.0 in
    let paid = rw c.point_cost.ensures at c.in_ok-pay.ensures in (
      all.1,
      took-more c.args.left.now c.each.left c.pay.new.left (length (points_bytes (values_seen s.texts c.each.rest.now))) (length more) (length (points_bytes (values_seen s.texts c.args.values.now))) (length point) c.each.invariant.1
          (ap (λ vs. length (points_bytes (values_seen s.texts vs))) c.in-Some.ensures ∙ length-append point more) paid,
    )
