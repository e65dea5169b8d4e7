use Rattle.std.proofs.Common.{◌∙◌, arith, refl, drop}
use Rattle.wiki_markup.specs.Shown.{opening, behind}
use Rattle.wiki_markup.proofs.PlaceLaws.{next_goes, next_here, next_end}
use Rattle.wiki_markup.proofs.tags.next_opening.Goals as goal

pub returns-in-Some-clause-same : goal.returns-in-Some-clause-same
returns-in-Some-clause-same c = c.loop-at.invariant ∙ next_here (opening c.args.name) c.args.text.now (drop c.in-Some.p c.args.text.now) c.loop-at.at (omega arith) c.in-Some.ensures.same

pub loop-at-preserved : goal.loop-at-preserved
loop-at-preserved c = c.loop-at.invariant ∙ next_goes (opening c.args.name) c.args.text.now c.loop-at.at (omega arith) c.in_default.ensures.same

pub returns-clause-same : goal.returns-clause-same
unfolding opening behind
returns-clause-same c = c.loop-at.invariant ∙ next_end (opening c.args.name) c.args.text.now c.loop-at.at (omega arith) refl
