use Rattle.lua_machine.specs.Events.{answer_outcome}
use Rattle.page_tasks.proofs.Answering.{by_answer}
use Rattle.page_tasks.proofs.telling.answer_machine.Goals as goal

pub answer-requires-clause-machine : goal.answer-requires-clause-machine
answer-requires-clause-machine c = rw c.get_mut.ensures.value c.requires.of

pub answer-requires-clause-answer : goal.answer-requires-clause-answer
answer-requires-clause-answer c = c.requires.answer

pub answer-requires-clause-height : goal.answer-requires-clause-height
answer-requires-clause-height c = rw c.get_mut.ensures.value c.requires.height

pub returns-clause-answers : goal.returns-clause-answers
returns-clause-answers c =
    let m = c.answer.ensures in
    rw (← c.get_mut.ensures.value)
    (by_answer c.args.store.now c.get_mut.result.now (answer_outcome c.args.store.now.texts c.args.answer) c.args.height c.answer.new.store c.answer.new.self c.answer.result m.later m.heap m.state m.point m.slots m.goes_on m.height)

pub returns-clause-of : goal.returns-clause-of
returns-clause-of c = c.answer.ensures.of
