use Rattle.std.proofs.Common.{length, refl}
use Rattle.lua_store.specs.Seen.{text_at}
use Rattle.lua_modules.specs.LuaStackSeen.{joined_seen}
use Rattle.lua_runs.proofs.Behind.{first_text, length_first}
use Rattle.lua_runs.proofs.Sums.{paid_more, paid_short, paid_all}
use Rattle.lua_runs.proofs.answers.pay_texts.Goals as goal

pub texts-preserved : goal.texts-preserved
texts-preserved c =
    let texts = c.args.store.now.texts in (
      (first_text c.args.store.now _ _ _ c.in-Some.ensures c.texts.invariant.0).1,
      paid_more c.args.left.now c.texts.left c.pay_text.new.left _ (length (text_at texts c.in-Some.id.now.at)) (length (joined_seen texts c.in-Some.behind.now)) (length (joined_seen texts c.args.ids.now))
          (length_first texts _ _ _ c.in-Some.ensures) c.texts.invariant.1 c.if-not-pay_text.ensures,
    )

pub returns-then-not-pay_text : goal.returns-then-not-pay_text
returns-then-not-pay_text c =
    let texts = c.args.store.now.texts in
    paid_short c.args.left.now c.texts.left c.pay_text.new.left _ (length (text_at texts c.in-Some.id.now.at)) (length (joined_seen texts c.in-Some.behind.now)) (length (joined_seen texts c.args.ids.now))
    (length_first texts _ _ _ c.in-Some.ensures) c.texts.invariant.1 c.if-not-pay_text.ensures

pub returns : goal.returns
returns c =
    let texts = c.args.store.now.texts in
    paid_all c.args.left.now c.texts.left (length (joined_seen texts c.texts.rest.now)) (length (joined_seen texts c.args.ids.now)) (rw c.in_default.ensures refl) c.texts.invariant.1
