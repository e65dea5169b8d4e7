use Rattle.page_tasks.proofs.Expanding.{by_answer}
use Rattle.page_tasks.proofs.telling.answer_expander.Goals as goal

pub answer-requires : goal.answer-requires
answer-requires c = record { waiting = rw c.get_mut.ensures.value c.requires }

pub returns-clause-answers : goal.returns-clause-answers
returns-clause-answers c =
    let e = c.answer.ensures in
    rw (← c.get_mut.ensures.value) (by_answer c.get_mut.result.now c.args.left.now c.args.text c.answer.new.self c.answer.new.left c.answer.result e.at e.left e.setting e.depth e.templates e.falls)

pub returns-clause-can : goal.returns-clause-can
returns-clause-can c = c.answer.ensures.ready
