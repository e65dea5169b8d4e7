use Rattle.std.proofs.lemmas.Result.{IfOk-weaker}
use Rattle.lua_blocks.proofs.Parts.{costs, short}
use Rattle.lua_blocks.proofs.functions.local_function.Goals as goal

pub returns-then-not-pay : goal.returns-then-not-pay
returns-then-not-pay c = short c.args.store.now c.args.state.now c.args.left.now c.pay.new.left 8 _ c.requires.state c.if-not-pay.ensures

pub returns : goal.returns
returns c =
    IfOk-weaker c.declare_function.result _ _ (λ r e. costs c.args.store.now c.declare_function.new.store c.args.state.now c.declare_function.new.state c.args.left.now c.pay.new.left c.pay.new.left 8 _ _ c.if-not-pay.ensures e) (c.declare_function.ensures c.pay.new.left)
