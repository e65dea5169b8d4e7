use Rattle.std.proofs.lemmas.Result.{IfOk-weaker}
use Rattle.lua_evals.proofs.Ends.{costs, short}
use Rattle.lua_evals.proofs.closures.closure.Goals as goal

pub returns-then-not-pay : goal.returns-then-not-pay
returns-then-not-pay c = short c.args.store.now c.args.state.now c.args.left.now c.pay.new.left 8 _ c.requires.state c.if-not-pay.ensures

pub returns : goal.returns
returns c =
    IfOk-weaker c.new_closure.result _ _ (λ r e. costs c.args.store.now c.new_closure.new.store c.args.state.now c.args.state.now c.args.left.now c.pay.new.left c.pay.new.left 8 _ _
    c.if-not-pay.ensures e) (c.new_closure.ensures c.pay.new.left)
