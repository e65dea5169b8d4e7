use Rattle.std.proofs.Common.{sym, subst, true, false, []}
use Rattle.std.specs.Result.{IfErr}
use Rattle.lua_strings.specs.LuaHeapValue.{is_nil}
use Rattle.lua_strings.specs.LuaBasicSeen.{values_seen, Refuses}
use Rattle.lua_strings.proofs.LuaBasicLists.{tested}
use Rattle.mw_htmls.proofs.Given.{no_child, object_child, text_child}
use Rattle.mw_htmls.proofs.children.a_child.Goals as goal

pub returns-then-is_nil-clause-found : goal.returns-then-is_nil-clause-found
returns-then-is_nil-clause-found c =
    let texts = c.args.store.now.texts in
    no_child (values_seen texts c.args.given.now) (tested is_nil _ _ true (c.first.ensures.value texts) (c.if-is_nil.ensures texts))

pub returns-in-Some-clause-found : goal.returns-in-Some-clause-found
returns-in-Some-clause-found c =
    let texts = c.args.store.now.texts in
    object_child (values_seen texts c.args.given.now) c.in-Some.object.at (c.in-Some.ensures.object texts 1 [])

pub returns-in-Some-clause-child : goal.returns-in-Some-clause-child
returns-in-Some-clause-child c = c.in-Some.ensures.of c.args.store.now c.requires

pub a_text_child-requires : goal.a_text_child-requires
a_text_child-requires c = c.requires

pub returns-in-None-clause-found : goal.returns-in-None-clause-found
returns-in-None-clause-found c =
    let texts = c.args.store.now.texts in
    let some = tested is_nil _ _ false (c.first.ensures.value texts) (c.if-is_nil.ensures texts) in
    rw (text_child (values_seen texts c.args.given.now) _ some (c.in-None.ensures.object texts 1 [])) c.a_text_child.ensures.found

pub returns-in-None-clause-refused : goal.returns-in-None-clause-refused
returns-in-None-clause-refused c =
    let texts = c.args.store.now.texts in
    let some = tested is_nil _ _ false (c.first.ensures.value texts) (c.if-is_nil.ensures texts) in
    subst (λ a. IfErr c.a_text_child.result (Refuses a c.args.store.now c.a_text_child.new.store)) (sym (text_child (values_seen texts c.args.given.now) _ some (c.in-None.ensures.object texts 1 []))) c.a_text_child.ensures.refused
