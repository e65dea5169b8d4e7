use Rattle.std.proofs.Common.{◌≡◌, ◌∙◌, ap, rules}
use Rattle.std.specs.Prelude.{Some}
use Rattle.wiki_tests.proofs.TextLaws.{none_tested, one_tested}
use Rattle.wiki_tests.proofs.tested.tested.Goals as goal

pub returns-in-None : goal.returns-in-None
returns-in-None c = none_tested c.args.texts.now.entries c.args.title.now (rw c.in-None.is at c.in_ok-found.ensures)

pub returns-in_ok-title-in-Some : goal.returns-in_ok-title-in-Some
returns-in_ok-title-in-Some c =
    let text : c.as_slice.result.now ≡ c.in-Some.text.now = search rules in
    one_tested c.args.texts.now.entries c.args.title.now c.in_ok-title-in-Some.title c.as_slice.result.now c.in_ok-cases-in-Some.cases c.in_ok-title-in-Some.ensures (ap Some text ∙ rw c.in-Some.is at c.in_ok-found.ensures) c.in_ok-cases-in-Some.ensures
