use Rattle.std.proofs.Common.{◌≡◌, ap, arith}
use Rattle.lua_strings.specs.LuaStoreSeen.{StoreView}
use Rattle.mw_htmls.proofs.children.give_with_text.Goals as goal

pub give_with-requires-clause-id : goal.give_with-requires-clause-id
give_with-requires-clause-id c = let le = c.in_ok-kept.ensures.later.markup in omega (arith, c.requires, le)

pub give_with-requires-clause-children : goal.give_with-requires-clause-children
give_with-requires-clause-children c = (c.in_ok-kept.ensures.of, tt)

pub returns-clause-answer : goal.returns-clause-answer
returns-clause-answer c =
    let same : c.text.new.self.heap ≡ c.args.store.now.heap = ap (λ (x : StoreView). x.heap) c.in_ok-kept.ensures.added in
    rw (same, c.in_ok-kept.ensures.there) at c.give_with.ensures.answer
