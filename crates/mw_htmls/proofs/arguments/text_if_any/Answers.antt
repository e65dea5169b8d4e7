use Rattle.std.proofs.Common.{◌∙◌, ap, true, false}
use Rattle.lua_strings.specs.LuaHeapValue.{is_nil}
use Rattle.lua_strings.specs.LuaBasicSeen.{values_seen}
use Rattle.lua_strings.proofs.LuaBasicLists.{tested}
use Rattle.lua_strings.specs.LuaMeaningTextArguments.{as_some}
use Rattle.mw_htmls.proofs.Given.{none_given, some_given, some_refused}
use Rattle.mw_htmls.proofs.arguments.text_if_any.Goals as goal

pub returns-then-is_nil-clause-found : goal.returns-then-is_nil-clause-found
returns-then-is_nil-clause-found c =
    let texts = c.args.store.now.texts in
    none_given c.args.n c.args.function.now (values_seen texts c.args.given.now) (tested is_nil _ _ true (c.first.ensures.value texts) (c.if-is_nil.ensures texts))

pub returns-in-Ok-clause-found : goal.returns-in-Ok-clause-found
returns-in-Ok-clause-found c =
    let texts = c.args.store.now.texts in
    let some = tested is_nil _ _ false (c.first.ensures.value texts) (c.if-is_nil.ensures texts) in
    some_given c.args.n c.args.function.now (values_seen texts c.args.given.now) some ∙ ap as_some c.in-Ok.ensures.found

pub returns-in-Err-clause-refused : goal.returns-in-Err-clause-refused
returns-in-Err-clause-refused c =
    let texts = c.args.store.now.texts in
    let some = tested is_nil _ _ false (c.first.ensures.value texts) (c.if-is_nil.ensures texts) in
    some_refused c.args.n c.args.function.now (values_seen texts c.args.given.now) c.args.store.now c.a_text.new.store _ some c.in-Err.ensures.refused
