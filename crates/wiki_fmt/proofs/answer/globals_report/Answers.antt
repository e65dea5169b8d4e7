use Rattle.std.proofs.Common.{inl}
use Rattle.wiki_fmt.specs.Due.{refused}
use Rattle.wiki_fmt.proofs.DueLemmas.{globals_answer, refused_globals, status_of}
use Rattle.wiki_fmt.proofs.answer.globals_report.Goals as goal

pub returns-in-Ok-clause-report : goal.returns-in-Ok-clause-report
returns-in-Ok-clause-report c = inl c.in-Ok.ensures

pub returns-in-Ok-clause-answer : goal.returns-in-Ok-clause-answer
returns-in-Ok-clause-answer c = globals_answer c.args.title.now c.args.pages.now c.args.text.now c.in-Ok.report c.in-Ok.ensures

pub returns-in-Err-At-clause-report : goal.returns-in-Err-At-clause-report
returns-in-Err-At-clause-report c = refused_globals c.args.title.now c.args.pages.now c.args.text.now c.in-Err-At.fault c.refused.result (rw c.in-Err-At.field-0-is at c.in-Err-At.ensures) c.refused.ensures

pub returns-in-Err-At-clause-answer : goal.returns-in-Err-At-clause-answer
returns-in-Err-At-clause-answer c = status_of c.refused.result (refused c.args.title.now c.in-Err-At.fault) tt c.refused.ensures
