use Rattle.std.proofs.Common.{◌∙◌, sym, arith, drop}
use Rattle.wiki_markup.proofs.PlaceLaws.{after_nothing, after_ended, after_other, after_slash}
use Rattle.wiki_markup.proofs.literals.after_name.Goals as goal

pub returns-then-at-text-clause-same : goal.returns-then-at-text-clause-same
returns-then-at-text-clause-same c = after_nothing c.args.text.now c.args.at c.if-at-text.true

pub returns-then-ends_name-clause-same : goal.returns-then-ends_name-clause-same
returns-then-ends_name-clause-same c = after_ended c.args.text.now c.args.at (omega arith) (sym c.ends_name.ensures ∙ c.if-ends_name.true) ∙ c.attributes.ensures.same

pub returns-in_default-clause-same : goal.returns-in_default-clause-same
returns-in_default-clause-same c = after_other c.args.text.now c.args.at (omega arith) (sym c.ends_name.ensures ∙ c.if-ends_name.false) c.in_default.ensures.same

pub returns-clause-same : goal.returns-clause-same
returns-clause-same c = after_slash c.args.text.now (drop c.in-Some.place c.args.text.now) c.args.at (omega arith) (sym c.ends_name.ensures ∙ c.if-ends_name.false) c.in-Some.ensures.same
