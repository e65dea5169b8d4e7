use Rattle.std.proofs.Common.{codes}
use Rattle.lua_meaning.specs.Messages.{bad_argument, expected}
use Rattle.lua_basic.specs.Seen.{values_seen}
use Rattle.lua_basic.proofs.Found.{refused}
use Rattle.lua_basic.proofs.handlers.a_metatable.Goals as goal

pub returns-in-Some-clause-value : goal.returns-in-Some-clause-value
returns-in-Some-clause-value c = c.in-Some.ensures.of c.args.store.now c.requires

pub returns-in-None-clause-refused : goal.returns-in-None-clause-refused
returns-in-None-clause-refused c =
    let given = values_seen c.args.store.now.texts c.args.given.now in
    refused _ (bad_argument 2 (codes "setmetatable") (expected (codes "table") given)) c.args.store.now c.refuse_kind.new.store c.refuse_kind.result
    (c.in-None.ensures.meta c.args.store.now.texts) c.refuse_kind.ensures.raises
