use Rattle.wiki_tests.specs.Due.{raw_pages}
use Rattle.wiki_tests.proofs.DueLemmas.{printed_report}
use Rattle.wiki_tests.proofs.answer.pages_report.Goals as goal

pub returns-clause-report : goal.returns-clause-report
returns-clause-report g c = printed_report c.args.limits.now c.in_ok-raw.raw (raw_pages c.args.pages) c.in_ok-made.made c.printed.result c.in_ok-raw.ensures c.printed.ensures.report c.in_ok-made.ensures.has_modules c.in_ok-made.ensures.report
