use Rattle.std.proofs.Common.{inl}
use Rattle.wiki_fmt.specs.Due.{refused}
use Rattle.wiki_fmt.proofs.DueLemmas.{refused_text, status_of}
use Rattle.wiki_fmt.proofs.answer.text_report.Goals as goal

pub returns-in-Ok-clause-report : goal.returns-in-Ok-clause-report
returns-in-Ok-clause-report c = inl (c.in-Ok.bytes, c.in-Ok.ensures.answer, c.printed.ensures)

pub returns-in-Err-At-clause-report : goal.returns-in-Err-At-clause-report
returns-in-Err-At-clause-report c = refused_text c.args.title.now c.refused.result c.args.text.now c.in-Err-At.fault (rw c.in-Err-At.field-0-is at c.in-Err-At.ensures.answer) c.refused.ensures

pub returns-in-Err-At-clause-answer : goal.returns-in-Err-At-clause-answer
returns-in-Err-At-clause-answer c = status_of c.refused.result (refused c.args.title.now c.in-Err-At.fault) tt c.refused.ensures
