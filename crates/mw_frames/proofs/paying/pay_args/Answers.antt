use Rattle.std.proofs.Common.{◌+◌, ap, length}
use Rattle.lua_home.specs.LuaMeaningFrames.{args_charge}
use Rattle.mw_frames.proofs.Sums.{took-more}
use Rattle.mw_frames.proofs.paying.pay_args.Goals as goal

pub each-preserved : goal.each-preserved
each-preserved c =
    let x = c.in-Some.arg.now in
    took-more c.args.left.now c.each.left c.pay_arg.new.left (args_charge c.each.rest.now) (args_charge c.in-Some.more.now) (args_charge c.args.args.now) (4 + length x.name + length x.value)
    c.each.invariant (ap args_charge c.in-Some.ensures) c.in_ok-pay_arg.ensures
