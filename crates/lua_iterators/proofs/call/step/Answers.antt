use Rattle.lua_strings.proofs.LuaStoreLater.{later-itself}
use Rattle.lua_iterators.proofs.call.step.Goals as goal

pub cells_of-requires : goal.cells_of-requires
cells_of-requires c = c.first.ensures.of c.args.store.now c.requires

pub step_on-requires : goal.step_on-requires
step_on-requires c = c.in-Some.ensures.of

pub returns-in-None-clause-answer : goal.returns-in-None-clause-answer
returns-in-None-clause-answer c =
    let cells = rw (c.first.ensures.value c.args.store.now.texts) at c.in-None.ensures.cells in
    rw cells c.give_nothing.ensures.answer

pub returns-in-None-clause-later : goal.returns-in-None-clause-later
returns-in-None-clause-later c = rw c.give_nothing.ensures.same (later-itself c.args.store.now)

pub returns-in-Some-clause-answer : goal.returns-in-Some-clause-answer
returns-in-Some-clause-answer c =
    let cells = rw (c.first.ensures.value c.args.store.now.texts) at c.in-Some.ensures.cells in
    rw cells c.step_on.ensures.answer
