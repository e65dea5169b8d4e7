use Rattle.wiki_tests.proofs.RunLaws.{of_parts}
use Rattle.wiki_tests.proofs.running.lines.Goals as goal

pub returns : goal.returns
returns g c = of_parts c.args.wiki.now c.args.limits.now c.args.subjects.now c.in_ok-parts.parts.items c.gathered.result c.in_ok-parts.ensures c.gathered.ensures
