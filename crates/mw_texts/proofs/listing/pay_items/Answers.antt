use Rattle.std.proofs.Common.{length, map, drop, ◌+◌}
use Rattle.mw_text.specs.Answers.{total}
use Rattle.mw_ustrings.specs.LuaBasicArguments.{text_bytes}
use Rattle.mw_ustrings.proofs.MwFramesSums.{took-more}
use Rattle.mw_texts.proofs.ItemLists.{items_total}
use Rattle.mw_texts.proofs.listing.pay_items.Goals as goal

pub each-preserved : goal.each-preserved
each-preserved c =
    let xs = c.args.items.now in
    let i = c.each.item-index in
    let x = c.item-item.result in
    let step = rw c.as_slice.ensures at c.in_ok-pay.ensures in
    took-more c.args.left.now c.each.left c.pay.new.left (total (map text_bytes (drop i xs))) (total (map text_bytes (drop (i + 1) xs))) (total (map text_bytes xs)) (length (text_bytes x)) c.each.invariant
    (items_total xs i x c.each-test.true c.item-item.is) step
