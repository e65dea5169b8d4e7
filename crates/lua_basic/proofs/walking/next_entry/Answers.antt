use Rattle.lua_basic.proofs.walking.next_entry.Goals as goal

pub returns-in_ok-values-in-Ok-clause-of : goal.returns-in_ok-values-in-Ok-clause-of
returns-in_ok-values-in-Ok-clause-of c = c.in_ok-values-in-Ok.ensures.of c.args.store.now c.in-Ok.ensures.of.0 c.in-Ok.ensures.of.1
