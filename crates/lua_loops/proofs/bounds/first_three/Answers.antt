use Rattle.std.proofs.Common.{subst}
use Rattle.lua_state.specs.LuaStackOf.{GivenOf}
use Rattle.lua_loops.proofs.Parts.{taken_of}
use Rattle.lua_loops.proofs.bounds.first_three.Goals as goal

pub returns-in-Many-clause-of : goal.returns-in-Many-clause-of
returns-in-Many-clause-of c = λ s h.
    let one = taken_of s c.in-Many.values c.take_first-first.new.self c.take_first-first.result c.take_first-first.ensures.first c.take_first-first.ensures.rest (subst (GivenOf s) c.in-Many.is h) in
    let two = taken_of s c.take_first-first.new.self c.take_first-second.new.self c.take_first-second.result c.take_first-second.ensures.first c.take_first-second.ensures.rest one.1 in
    let three = taken_of s c.take_first-second.new.self c.take_first-third.new.self c.take_first-third.result c.take_first-third.ensures.first c.take_first-third.ensures.rest two.1 in
    (one.0, two.0, three.0)
