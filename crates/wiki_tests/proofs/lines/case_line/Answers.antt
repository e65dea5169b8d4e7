use Rattle.std.proofs.Common.{◌≡◌, ◌++◌, codes, rules}
use Rattle.wk_base.specs.Titles.{title_text}
use Rattle.wiki_tests.proofs.RunLaws.{case_made}
use Rattle.wiki_tests.proofs.lines.case_line.Goals as goal

pub returns : goal.returns
returns c =
    let named : c.as_slice.result.now ≡ title_text c.args.title.now ++ codes " " ++ c.args.name.now = search rules in
    case_made c.outcome_line.result c.args.wiki.now c.args.limits.now c.args.title.now c.args.name.now c.as_slice.result.now c.in_ok-outcome.outcome named c.in_ok-outcome.ensures c.outcome_line.ensures
