use Rattle.wiki_tests.proofs.LineLaws.{lines_are_counted}
use Rattle.wiki_tests.proofs.laws.lines_are_counted.Goals as goal

pub returns : goal.returns
returns c = lines_are_counted
