use Rattle.lua_modules.specs.LuaStackSeen.{joined_seen}
use Rattle.std.proofs.Common.{length}
use Rattle.lua_runs.proofs.Parts.{costs, short}
use Rattle.lua_runs.proofs.answers.answer.Goals as goal

pub returns-then-not-pay_texts : goal.returns-then-not-pay_texts
returns-then-not-pay_texts c =
    short c.args.store.now c.args.state.now c.args.left.now c.pay_texts.new.left (length (joined_seen c.args.store.now.texts c.args.ids.now)) _ c.requires.state c.if-not-pay_texts.ensures

pub returns : goal.returns
returns c =
    costs c.args.store.now c.give_joined.new.store c.args.state.now c.args.state.now c.args.left.now c.pay_texts.new.left c.pay_texts.new.left (length (joined_seen c.args.store.now.texts c.args.ids.now)) _ _
    c.if-not-pay_texts.ensures (c.in_ok-turn.ensures c.pay_texts.new.left)
