use Rattle.lua_acts.proofs.walks.ask.Goals as goal

pub call_and_wait-requires-clause-arguments : goal.call_and_wait-requires-clause-arguments
call_and_wait-requires-clause-arguments c = rw c.in_ok-arguments.ensures (c.requires.value, tt)

pub returns : goal.returns
returns c = rw c.in_ok-arguments.ensures at c.in_ok-turn.ensures
