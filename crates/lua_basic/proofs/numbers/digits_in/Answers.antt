use Rattle.lua_basic.proofs.numbers.digits_in.Goals as goal

pub returns-clause-of : goal.returns-clause-of
returns-clause-of c = rw c.in_ok-values.ensures (c.number_or_nil.ensures.of c.args.store.now, tt)
