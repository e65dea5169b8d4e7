use Rattle.lua_machine_cases.proofs.Stopped.{machine_later}
use Rattle.lua_machine_cases.proofs.runs.tell.Goals as goal

pub answer-requires-clause-machine : goal.answer-requires-clause-machine
answer-requires-clause-machine c = machine_later c.args.store.now c.answer_of.new.store c.args.machine.now c.in_ok-answer.ensures.later c.requires.machine
