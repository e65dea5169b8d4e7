use Rattle.std.proofs.Common.{◌+◌, length, drop}
use Rattle.lua_home.specs.LuaMeaningFrames.{args_charge}
use Rattle.lua_basic.specs.Arguments.{text_bytes}
use Rattle.mw_frames.specs.Reading.{args_seen}
use Rattle.mw_frames.proofs.Sums.{took-more, one-more}
use Rattle.mw_frames.proofs.reading.pay_read.Goals as goal

pub texts-preserved : goal.texts-preserved
texts-preserved c =
    let xs = c.args.args.now in
    let i = c.texts.arg-index in
    let x = c.arg-item.result in
    took-more c.args.left.now c.texts.left c.pay_one.new.left (args_charge (args_seen (drop i xs))) (args_charge (args_seen (drop (i + 1) xs))) (args_charge (args_seen xs))
    (4 + length (text_bytes x.name) + length (text_bytes x.value)) c.texts.invariant (one-more args_charge xs i x c.texts-test.true c.arg-item.is) c.in_ok-pay_one.ensures
