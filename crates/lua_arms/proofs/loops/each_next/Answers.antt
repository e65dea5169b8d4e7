use Rattle.std.proofs.Common.{◌∙◌}
use Rattle.lua_stack.specs.Lists.{given_values}
use Rattle.lua_arms.proofs.Counts.{over}
use Rattle.lua_arms.proofs.loops.each_next.Goals as goal

pub returns-then-is_nil-clause-of : goal.returns-then-is_nil-clause-of
returns-then-is_nil-clause-of c = c.nothing.ensures.of c.args.store.now

pub returns-then-is_nil-clause-move_ : goal.returns-then-is_nil-clause-move_
returns-then-is_nil-clause-move_ c = λ fs s.
    over c.args.store.now.texts (given_values c.args.results) c.first.result _ _ c.first.ensures (c.if-is_nil.ensures c.args.store.now.texts) ∙ c.nothing.ensures.move_ c.args.store.now fs s
