use Rattle.std.proofs.Common.{ap, arith}
use Rattle.lua_strings.specs.LuaStoreSeen.{StoreView}
use Rattle.mw_htmls.proofs.Changed.{style_pushed, style_text_put}
use Rattle.mw_htmls.proofs.settings.add_style_text.Goals as goal

pub take-node-requires : goal.take-node-requires
take-node-requires c = let le = c.in_ok-kept.ensures.later.markup in omega (arith, c.requires, le)

pub put-requires-clause-node : goal.put-requires-clause-node
put-requires-clause-node c =
    let of = c.in_ok-kept.ensures.of in
    let le = c.take-node.ensures.later.texts.length_ in
    style_pushed c.take-node.new.store c.take-node.result c.push.new.self c.in_ok-kept.kept c.take-node.ensures.of (omega (arith, of, le)) c.in_ok-push.ensures.ok

pub returns-clause-added : goal.returns-clause-added
returns-clause-added c =
    style_text_put c.args.store.now.heap c.text.new.self c.take-node.new.store c.put.new.store c.args.id.at c.take-node.result c.push.new.self c.in_ok-kept.kept c.args.text.now
    (ap (λ (x : StoreView). x.heap) c.in_ok-kept.ensures.added) c.in_ok-kept.ensures.there c.take-node.ensures.taken c.take-node.ensures.node c.in_ok-push.ensures.ok c.put.ensures.put
