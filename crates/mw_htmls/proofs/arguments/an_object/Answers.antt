use Rattle.std.proofs.Common.{codes}
use Rattle.lua_strings.specs.LuaMeaningMessages.{bad_argument, expected}
use Rattle.lua_strings.specs.LuaBasicSeen.{values_seen}
use Rattle.lua_strings.proofs.LuaBasicFound.{refused}
use Rattle.mw_htmls.proofs.arguments.an_object.Goals as goal

pub returns-in-Some-clause-found : goal.returns-in-Some-clause-found
returns-in-Some-clause-found c = c.in-Some.ensures.object c.args.store.now.texts 1 c.args.function.now

pub returns-in-None-clause-refused : goal.returns-in-None-clause-refused
returns-in-None-clause-refused c =
    let given = values_seen c.args.store.now.texts c.args.given.now in
    refused _ (bad_argument 1 c.args.function.now (expected (codes "table") given)) c.args.store.now c.refuse_kind.new.store c.refuse_kind.result
    (c.in-None.ensures.object c.args.store.now.texts 1 c.args.function.now) c.refuse_kind.ensures.raises
