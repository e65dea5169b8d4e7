use Rattle.std.proofs.Common.{◌∙◌, ap}
use Rattle.std.specs.Prelude.{codes}
use Rattle.lua_code.specs.LuaMeaningMetatables.{common_handler}
use Rattle.lua_arms.specs.LuaStoreSeen.{seen}
use Rattle.lua_code.specs.LuaSlotsOperators as machine
use Rattle.lua_arms.specs.LuaStackSeen.{frames_seen}
use Rattle.lua_operators.proofs.Orders.{handler_as}
use Rattle.lua_operators.proofs.comparison.at_most_by_handler.Goals as goal

pub returns-clause-move_ : goal.returns-clause-move_
returns-clause-move_ c = λ s h.
    ap (λ v. machine.at_most_by v (common_handler s.heap (seen c.args.store.now.texts c.args.operands.0) (seen c.args.store.now.texts c.args.operands.1) (codes "__lt")) (seen c.args.store.now.texts c.args.operands.0) (seen c.args.store.now.texts c.args.operands.1) c.args.line (frames_seen c.args.store.now.texts c.args.frames.now) s)
    (handler_as c.args.store.now.heap s.heap _ _ _ _ _ h c.requires.env.at_most.1 c.common_handler-at_most.ensures.value)
    ∙ ap (λ v. machine.at_most_by (seen c.args.store.now.texts c.common_handler-at_most.result) v (seen c.args.store.now.texts c.args.operands.0) (seen c.args.store.now.texts c.args.operands.1) c.args.line (frames_seen c.args.store.now.texts c.args.frames.now) s)
    (handler_as c.args.store.now.heap s.heap _ _ _ _ _ h c.requires.env.less.1 c.common_handler-less.ensures.value)
    ∙ c.in_ok-step.ensures.move_ s h
