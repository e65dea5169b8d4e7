use Rattle.lua_modules.proofs.Parts.{costs, short}
use Rattle.lua_modules.proofs.strict.require_strict.Goals as goal

pub returns-then-not-pay : goal.returns-then-not-pay
returns-then-not-pay c = short c.args.store.now c.args.state.now c.args.left.now c.pay.new.left 16 _ c.requires c.if-not-pay.ensures

pub returns : goal.returns
returns c =
    costs c.args.store.now c.give_guarded.new.store c.args.state.now c.args.state.now c.args.left.now c.pay.new.left c.pay.new.left 16 _ _
    c.if-not-pay.ensures (c.in_ok-turn.ensures c.pay.new.left)
