use Rattle.std.proofs.Common.{◌∙◌, arith, refl, drop}
use Rattle.wiki_markup.specs.Shown.{closing, behind}
use Rattle.wiki_markup.proofs.PlaceLaws.{next_goes, next_here, next_end, before_goes, before_here, before_end}
use Rattle.wiki_markup.proofs.tags.find_closing.Goals as goal

pub returns-in-Some-clause-same : goal.returns-in-Some-clause-same
returns-in-Some-clause-same c = c.loop-at.invariant.same ∙ next_here (closing c.args.name) c.args.text.now (drop c.in-Some.end c.args.text.now) c.loop-at.at (omega arith) c.in-Some.ensures.same

pub returns-in-Some-clause-front : goal.returns-in-Some-clause-front
returns-in-Some-clause-front c = before_here (closing c.args.name) c.args.text.now (drop c.in-Some.end c.args.text.now) c.args.from c.loop-at.at (omega arith) c.in-Some.ensures.same c.loop-at.invariant.front

pub loop-at-preserved : goal.loop-at-preserved
loop-at-preserved c = record {
  same = c.loop-at.invariant.same ∙ next_goes (closing c.args.name) c.args.text.now c.loop-at.at (omega arith) c.in_default.ensures.same;
  front = before_goes (closing c.args.name) c.args.text.now c.args.from c.loop-at.at c.loop-at.auto.at (omega arith) c.in_default.ensures.same c.loop-at.invariant.front;
}

pub returns-clause-same : goal.returns-clause-same
unfolding closing behind
returns-clause-same c = c.loop-at.invariant.same ∙ next_end (closing c.args.name) c.args.text.now c.loop-at.at (omega arith) refl

pub returns-clause-front : goal.returns-clause-front
returns-clause-front c = before_end (closing c.args.name) c.args.text.now c.args.from c.loop-at.at (omega arith) c.loop-at.invariant.front
