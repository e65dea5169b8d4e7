use Rattle.std.proofs.Common.{sym}
use Rattle.lua_strings.proofs.LuaStoreLater.{later-itself}
use Rattle.lua_iterators.proofs.walking.walk_from.Goals as goal

pub returns-in-None-clause-answer : goal.returns-in-None-clause-answer
returns-in-None-clause-answer g c = rw (sym c.in-None.ensures.place) c.give_nothing.ensures.answer

pub returns-in-None-clause-later : goal.returns-in-None-clause-later
returns-in-None-clause-later g c = rw c.give_nothing.ensures.same (later-itself c.args.store.now)

pub returns-in-Some-clause-answer : goal.returns-in-Some-clause-answer
returns-in-Some-clause-answer g c =
    let answer = rw c.held_count-before.ensures at c.walk_at.ensures.answer in
    rw (sym c.in-Some.ensures.place) answer
