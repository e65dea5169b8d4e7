use Rattle.lua_strings.proofs.LuaStoreLater.{later-itself}
use Rattle.lua_strings.proofs.LuaBasicFound.{for_nothing}
use Rattle.lua_iterators.proofs.pointing.point_at.Goals as goal

pub returns-in-None-clause-answer : goal.returns-in-None-clause-answer
returns-in-None-clause-answer c = rw c.in-None.ensures.symbols c.give_nothing.ensures.answer

pub returns-in-None-clause-later : goal.returns-in-None-clause-later
returns-in-None-clause-later c = rw c.give_nothing.ensures.same (later-itself c.args.store.now)

pub returns-in-Some-clause-answer : goal.returns-in-Some-clause-answer
returns-in-Some-clause-answer c = rw c.in-Some.ensures.symbols (for_nothing _ c.args.store.now c.give_point.new.store c.args.left.now c.give_point.result c.give_point.ensures.answer)
