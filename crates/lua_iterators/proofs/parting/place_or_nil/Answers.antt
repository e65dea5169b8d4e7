use Rattle.lua_iterators.proofs.parting.place_or_nil.Goals as goal

pub returns-in-Some-clause-value : goal.returns-in-Some-clause-value
returns-in-Some-clause-value c = rw c.in-Some.is c.number.ensures.value
