use Rattle.lua_strides.proofs.Paths.{idle_here}
use Rattle.lua_turns.proofs.operands.method.Goals as goal

pub method_named-requires-clause-text : goal.method_named-requires-clause-text
method_named-requires-clause-text g c = rw c.in-Some.is at c.constant_at_hand.ensures c.args.store.now c.requires

pub returns-in-Some : goal.returns-in-Some
returns-in-Some g c = c.method_named.ensures

pub returns-in-None : goal.returns-in-None
returns-in-None g c = idle_here c.args.store.now c.args.state.now c.args.left.now c.args.turns.now
