use Rattle.std.proofs.Common.{ap}
use Rattle.lua_pattern.specs.Sizes.{capture_bytes, captures_bytes}
use Rattle.mw_frame_texts.proofs.MwFramesSums.{took-more}
use Rattle.mw_ustrings.proofs.captures.pay_captures.Goals as goal

pub each-preserved : goal.each-preserved
each-preserved c =
    let step = rw c.capture_cost.ensures at c.in_ok-pay.ensures in
    took-more c.args.left.now c.each.left c.pay.new.left (captures_bytes c.each.rest.now) (captures_bytes c.in-Some.more.now) (captures_bytes c.args.captures.now) (capture_bytes c.in-Some.capture) c.each.invariant
    (ap captures_bytes c.in-Some.ensures) step
