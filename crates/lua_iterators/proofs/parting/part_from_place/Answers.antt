use Rattle.std.proofs.Common.{sym}
use Rattle.lua_strings.proofs.LuaStoreLater.{later-itself}
use Rattle.lua_iterators.proofs.parting.part_from_place.Goals as goal

pub returns-in-None-clause-answer : goal.returns-in-None-clause-answer
returns-in-None-clause-answer c = rw (sym c.in-None.ensures.place) c.give_nothing.ensures.answer

pub returns-in-None-clause-later : goal.returns-in-None-clause-later
returns-in-None-clause-later c = rw c.give_nothing.ensures.same (later-itself c.args.store.now)

pub returns-in-Some-clause-answer : goal.returns-in-Some-clause-answer
returns-in-Some-clause-answer c = rw (sym c.in-Some.ensures.place) c.part_at.ensures.answer
