use Rattle.std.proofs.Common.{sym, true, false, subst, w64}
use Rattle.std.specs.Result.{IfErr}
use Rattle.std.proofs.lemmas.Int.{to_z-of_z}
use Rattle.lua_meaning.specs.LuaHeapValue.{is_nil}
use Rattle.lua_basic.specs.Seen.{values_seen, Refuses}
use Rattle.lua_basic.proofs.Lists.{tested}
use Rattle.lua_basic.proofs.Found.{left_out, not_left_out}
use Rattle.lua_basic.proofs.arguments.number_or.Goals as goal

pub a_number-requires : goal.a_number-requires
a_number-requires c = c.requires

pub returns-then-is_nil-clause-found : goal.returns-then-is_nil-clause-found
returns-then-is_nil-clause-found c =
    let texts = c.args.store.now.texts in
    let nil = tested is_nil _ _ true (c.first.ensures.value texts) (c.if-is_nil.ensures texts) in
    rw (to_z-of_z w64 c.args.default c.ranges.default) (left_out c.args.default c.args.n c.args.function.now (values_seen texts c.args.given.now) nil)

pub returns-clause-found : goal.returns-clause-found
returns-clause-found c =
    let texts = c.args.store.now.texts in
    let some = tested is_nil _ _ false (c.first.ensures.value texts) (c.if-is_nil.ensures texts) in
    rw (not_left_out c.args.default c.args.n c.args.function.now (values_seen texts c.args.given.now) some) c.a_number.ensures.found

pub returns-clause-refused : goal.returns-clause-refused
returns-clause-refused c =
    let texts = c.args.store.now.texts in
    let some = tested is_nil _ _ false (c.first.ensures.value texts) (c.if-is_nil.ensures texts) in
    subst (λ a. IfErr c.a_number.result (Refuses a c.args.store.now c.a_number.new.store)) (sym (not_left_out c.args.default c.args.n c.args.function.now (values_seen texts c.args.given.now) some)) c.a_number.ensures.refused
