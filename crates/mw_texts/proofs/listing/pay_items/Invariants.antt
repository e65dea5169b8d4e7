use Rattle.std.proofs.Common.{drop, map}
use Rattle.mw_text.specs.Answers.{total}
use Rattle.mw_ustrings.specs.LuaBasicArguments.{text_bytes}
use Rattle.mw_ustrings.specs.MwFramesCosts.{SoFar}
use Rattle.mw_texts.proofs.listing.pay_items.Given as goal

abbrev pub invariant-each : goal.invariant-each
invariant-each l = SoFar l.initial.left l.left (total (map text_bytes (drop l.item-index l.items))) (total (map text_bytes l.items))
