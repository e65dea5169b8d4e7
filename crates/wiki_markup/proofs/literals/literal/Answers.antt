use Rattle.std.proofs.Common.{arith, drop, refl}
use Rattle.wiki_markup.specs.Shown.{closing, behind}
use Rattle.wiki_markup.proofs.PlaceLaws.{none_from, literal_open}
use Rattle.wiki_markup.proofs.literals.literal.Goals as goal

pub returns-then-opened-closed-clause-same : goal.returns-then-opened-closed-clause-same
unfolding closing behind
returns-then-opened-closed-clause-same c = literal_open c.args.name (drop c.args.at c.args.text.now) (drop c.in-Some.opened.place c.args.text.now) c.in-Some.opened.closes_itself c.in-Some.ensures.same c.if-opened.false
    (none_from (closing c.args.name) c.args.closed c.in-Some.opened.place c.args.text.now refl (omega arith) c.requires.closed)
