use Rattle.wiki_tests.proofs.TextLaws.{of_chunk}
use Rattle.wiki_tests.proofs.tested.cases_in.Goals as goal

pub returns-in_ok-names-in-Ok : goal.returns-in_ok-names-in-Ok
returns-in_ok-names-in-Ok c = of_chunk c.args.text.now c.in-Ok.chunk c.in_ok-names-in-Ok.names c.in-Ok.ensures c.in_ok-names-in-Ok.ensures

pub returns-in-Err : goal.returns-in-Err
returns-in-Err c = c.no_cases.ensures c.args.text.now c.in-Err.ensures
