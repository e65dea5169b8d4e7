use Rattle.std.proofs.Common.{◌<◌, sym, subst}
use Rattle.std.proofs.lemmas.Result.{IfOk-weaker}
use Rattle.std.specs.Prelude.{IfOk}
use Rattle.wiki_pages.specs.Forests.{size, Behind}
use Rattle.wiki_pages.specs.Constants.{Reads}
use Rattle.wiki_pages.proofs.ConstantLaws.{within_more}
use Rattle.wiki_pages.proofs.constants.read_constant.Goals as goal

pub returns-in-Text-clause-reads : goal.returns-in-Text-clause-reads
returns-in-Text-clause-reads c = subst (λ t. IfOk c.read_behind.result (λ k. Reads k t)) (sym (rw c.in-Text.is at c.in_ok-split.ensures.splits)) c.read_behind.ensures.reads

pub returns-in-Text-clause-within : goal.returns-in-Text-clause-within
returns-in-Text-clause-within c =
    let stays : Behind c.in-Text.rest c.args.part.now = rw c.in-Text.is at c.in_ok-split.ensures.stays in
    let falls : size c.in-Text.rest < size c.args.part.now = rw c.in-Text.is at c.in_ok-split.ensures.falls in
    IfOk-weaker _ _ _ (λ k w. within_more k c.in-Text.rest c.args.part.now stays.0 falls w) c.read_behind.ensures.within
