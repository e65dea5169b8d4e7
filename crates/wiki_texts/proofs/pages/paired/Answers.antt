use Rattle.std.proofs.Common.{◌∙◌}
use Rattle.wiki_texts.proofs.EntryLaws.{paired_once, paired_apart}
use Rattle.wiki_texts.proofs.pages.paired.Goals as goal

pub returns-then-is_same : goal.returns-then-is_same
returns-then-is_same c =
    c.same.ensures ∙ paired_once c.args.text.now _ _ _ c.in_ok-direct.ensures.shown c.in_ok-transcluded.ensures.shown (c.is_same.ensures.0 c.if-is_same.true) c.in_ok-read.ensures.paired

pub returns : goal.returns
returns c = c.apart.ensures ∙ paired_apart c.args.text.now _ _ _ _ c.in_ok-direct.ensures.shown c.in_ok-transcluded.ensures.shown c.in_ok-read.ensures.paired c.in_ok-included.ensures.paired
