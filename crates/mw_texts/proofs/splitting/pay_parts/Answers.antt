use Rattle.std.proofs.Common.{ap, length, ◌+◌}
use Rattle.mw_ustrings.proofs.MwFramesSums.{took-more}
use Rattle.mw_ustrings.specs.LuaMeaningTexts.{parts_charge}
use Rattle.mw_texts.proofs.splitting.pay_parts.Goals as goal

pub each-preserved : goal.each-preserved
each-preserved c =
    let step = rw c.as_slice.ensures at c.in_ok-pay_part.ensures in
    took-more c.args.left.now c.each.left c.pay_part.new.left (parts_charge c.each.rest.now) (parts_charge c.in-Some.more.now) (parts_charge c.args.parts.now) (4 + length c.in-Some.part.now) c.each.invariant
    (ap parts_charge c.in-Some.ensures) step
