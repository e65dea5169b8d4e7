use Rattle.std.proofs.Common.{length}
use Rattle.mw_text.specs.References.{nowiki_byte, nowiki_of}
use Rattle.mw_ustrings.proofs.MwFramesSums.{took-more}
use Rattle.mw_texts.proofs.Lengths.{nowiki_on}
use Rattle.mw_texts.proofs.paying.pay_nowiki.Goals as goal

pub bytes-preserved : goal.bytes-preserved
bytes-preserved c =
    let byte = c.in-Some.byte in
    let behind = c.in-Some.behind.now in
    let step = rw c.nowiki_cost.ensures at c.in_ok-pay.ensures in
    took-more c.args.left.now c.bytes.left c.pay.new.left (length (nowiki_of c.bytes.rest.now)) (length (nowiki_of behind)) (length (nowiki_of c.args.s.now)) (length (nowiki_byte byte))
    c.bytes.invariant (nowiki_on byte behind c.bytes.rest.now c.in-Some.ensures) step
