use Rattle.lua_iterators.proofs.walking.go_on.Goals as goal

pub set_cell-requires-in-Some-clause-value : goal.set_cell-requires-in-Some-clause-value
set_cell-requires-in-Some-clause-value g c = c.in_ok-place-in-Some.ensures.of c.args.store.now

pub set_cell-requires-in-Some-2-clause-value : goal.set_cell-requires-in-Some-2-clause-value
set_cell-requires-in-Some-2-clause-value g c = c.in_ok-count-in-Some.ensures.of c.set_cell-in-Some.new.self
