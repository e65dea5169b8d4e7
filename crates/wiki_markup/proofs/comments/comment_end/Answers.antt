use Rattle.std.proofs.Common.{◌∙◌, ap, arith, refl, drop, length, sym}
use Rattle.wiki_markup.specs.Shown.{behind, comment_end, or_end}
use Rattle.std.proofs.lemmas.List.{drop_all}
use Rattle.wiki_markup.proofs.PlaceLaws.{next_goes, next_here, next_end}
use Rattle.wiki_markup.proofs.comments.comment_end.Goals as goal

pub returns-in-Some-clause-same : goal.returns-in-Some-clause-same
returns-in-Some-clause-same c = ap or_end (c.loop-at.invariant ∙ next_here (behind comment_end) c.args.text.now (drop c.in-Some.p c.args.text.now) c.loop-at.at (omega arith) c.in-Some.ensures.same)

pub loop-at-preserved : goal.loop-at-preserved
loop-at-preserved c = c.loop-at.invariant ∙ next_goes (behind comment_end) c.args.text.now c.loop-at.at (omega arith) c.in_default.ensures.same

pub returns-clause-same : goal.returns-clause-same
returns-clause-same c =
    ap or_end (c.loop-at.invariant ∙ next_end (behind comment_end) c.args.text.now c.loop-at.at (omega arith) (unfold behind in refl))
    ∙ sym (drop_all (length c.args.text.now) c.args.text.now (omega arith))
