use Rattle.std.proofs.Common.{sym}
use Rattle.lua_strings.proofs.LuaStoreLater.{later-itself}
use Rattle.lua_iterators.proofs.pointing.point_step.Goals as goal

pub returns-in-None-clause-answer : goal.returns-in-None-clause-answer
returns-in-None-clause-answer c =
    let place = rw c.held_text-s.ensures at c.in-None.ensures.place in
    rw (sym place) c.give_nothing.ensures.answer

pub returns-in-None-clause-later : goal.returns-in-None-clause-later
returns-in-None-clause-later c = rw c.give_nothing.ensures.same (later-itself c.args.store.now)

pub returns-in-Some-clause-answer : goal.returns-in-Some-clause-answer
returns-in-Some-clause-answer c =
    let place = rw c.held_text-s.ensures at c.in-Some.ensures.place in
    let answer = rw c.held_text-s.ensures at c.point_at.ensures.answer in
    rw (sym place) answer
