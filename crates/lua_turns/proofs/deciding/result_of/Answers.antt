use Rattle.lua_turns.proofs.deciding.result_of.Goals as goal

pub returns-in-Not-clause-of : goal.returns-in-Not-clause-of
returns-in-Not-clause-of c = c.applied.ensures.of

pub returns-in-Not-clause-value : goal.returns-in-Not-clause-value
returns-in-Not-clause-value c = c.applied.ensures.value c.args.store.now

pub returns-in-Len-clause-of : goal.returns-in-Len-clause-of
returns-in-Len-clause-of c = c.length_of.ensures.of

pub returns-in-Len-clause-value : goal.returns-in-Len-clause-value
returns-in-Len-clause-value c = rw c.in-Len.is c.length_of.ensures.value

pub returns-in-Minus-clause-of : goal.returns-in-Minus-clause-of
returns-in-Minus-clause-of c = c.applied-in-Minus.ensures.of

pub returns-in-Minus-clause-value : goal.returns-in-Minus-clause-value
returns-in-Minus-clause-value c = c.applied-in-Minus.ensures.value c.args.store.now
