use Rattle.std.proofs.Common.{◌∙◌, ap, arith, map}
use Rattle.lua_strings.specs.LuaStoreSeen.{seen_child}
use Rattle.mw_htmls.proofs.children.give_with_texts.Goals as goal

pub give_with-requires-clause-id : goal.give_with-requires-clause-id
give_with-requires-clause-id c = let le = c.text_children.ensures.later.markup in omega (arith, c.requires, le)

pub give_with-requires-clause-children : goal.give_with-requires-clause-children
give_with-requires-clause-children c = rw c.as_slice.ensures c.in_ok-children.ensures.of

pub returns-clause-answer : goal.returns-clause-answer
returns-clause-answer c =
    let is = ap (map (seen_child c.text_children.new.store.texts)) c.as_slice.ensures ∙ c.in_ok-children.ensures.children in
    rw (c.text_children.ensures.heap, is) at c.give_with.ensures.answer
