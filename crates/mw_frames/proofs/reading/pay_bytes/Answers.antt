use Rattle.std.proofs.Common.{◌+◌, length, drop}
use Rattle.lua_home.specs.LuaMeaningFrames.{bytes_of}
use Rattle.lua_basic.specs.Arguments.{text_bytes}
use Rattle.mw_frames.specs.Reading.{args_seen}
use Rattle.mw_frames.proofs.Sums.{took-more, one-more}
use Rattle.mw_frames.proofs.reading.pay_bytes.Goals as goal

pub texts-preserved : goal.texts-preserved
texts-preserved c =
    let xs = c.args.args.now in
    let i = c.texts.arg-index in
    let x = c.arg-item.result in
    let step = rw (c.as_slice.ensures, c.as_slice-in-texts.ensures) at c.in_ok-pay_texts.ensures in
    took-more c.args.left.now c.texts.left c.pay_texts.new.left (bytes_of (args_seen (drop i xs))) (bytes_of (args_seen (drop (i + 1) xs))) (bytes_of (args_seen xs))
    (length (text_bytes x.name) + length (text_bytes x.value)) c.texts.invariant (one-more bytes_of xs i x c.texts-test.true c.arg-item.is) step
