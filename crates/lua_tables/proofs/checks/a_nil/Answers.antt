use Rattle.std.proofs.Common.{codes, true, false}
use Rattle.lua_basic.specs.LuaHeapValue.{is_nil}
use Rattle.lua_basic.specs.LuaMeaningMessages.{bad_argument, expected}
use Rattle.lua_basic.specs.Seen.{values_seen}
use Rattle.lua_basic.proofs.Lists.{tested}
use Rattle.lua_basic.proofs.Found.{refused}
use Rattle.lua_tables.proofs.Checked.{nil_given, value_given}
use Rattle.lua_tables.proofs.checks.a_nil.Goals as goal

pub returns-then-is_nil-clause-found : goal.returns-then-is_nil-clause-found
returns-then-is_nil-clause-found c =
    let texts = c.args.store.now.texts in
    nil_given c.args.n c.args.function.now (values_seen texts c.args.given.now) (tested is_nil _ _ true (c.first.ensures.value texts) (c.if-is_nil.ensures texts))

pub returns-clause-refused : goal.returns-clause-refused
returns-clause-refused c =
    let texts = c.args.store.now.texts in
    let given = values_seen texts c.args.given.now in
    refused _ (bad_argument c.args.n c.args.function.now (expected (codes "nil") given)) c.args.store.now c.refuse_kind.new.store c.refuse_kind.result
    (value_given c.args.n c.args.function.now given (tested is_nil _ _ false (c.first.ensures.value texts) (c.if-is_nil.ensures texts))) c.refuse_kind.ensures.raises
