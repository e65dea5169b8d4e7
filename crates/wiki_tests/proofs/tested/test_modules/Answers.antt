use Rattle.std.proofs.Common.{◌≡◌, rules}
use Rattle.wiki_tests.specs.Tested.{test_titles}
use Rattle.wiki_tests.proofs.TextLaws.{modules_tested}
use Rattle.wiki_tests.proofs.tested.test_modules.Goals as goal

pub returns : goal.returns
returns c =
    let titles : c.as_slice.result.now ≡ test_titles c.args.pages.now = search rules in
    modules_tested c.args.pages.now c.as_slice.result.now c.in_ok-texts.texts.entries c.tested_of.result titles c.in_ok-texts.ensures c.tested_of.ensures
