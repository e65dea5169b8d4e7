use Rattle.std.proofs.Common.{refl, true, false}
use Rattle.lua_meaning.specs.LuaHeapValue.{is_true, is_nil}
use Rattle.lua_basic.specs.Seen.{values_seen}
use Rattle.lua_basic.proofs.Lists.{tested}
use Rattle.lua_basic.proofs.Basic.{assert-none, assert-some}
use Rattle.lua_basic.proofs.raising.assert.Goals as goal

pub returns-then-is_true-clause-answer : goal.returns-then-is_true-clause-answer
returns-then-is_true-clause-answer c =
    let texts = c.args.store.now.texts in
    rw (c.in_ok-values.ensures, tested is_true _ _ true (c.first.ensures.value texts) (c.if-is_true.ensures texts)) refl

pub returns-then-is_nil-clause-answer : goal.returns-then-is_nil-clause-answer
returns-then-is_nil-clause-answer c =
    let texts = c.args.store.now.texts in
    rw (c.in_ok-text.ensures.there, c.in_ok-text.ensures.added)
    (assert-none c.args.store.now.heap (values_seen texts c.args.args.now) (tested is_true _ _ false (c.first.ensures.value texts) (c.if-is_true.ensures texts))
    (tested is_nil _ _ true (c.second-message.ensures.value texts) (c.if-is_nil.ensures texts)))

pub returns-clause-answer : goal.returns-clause-answer
returns-clause-answer c =
    let texts = c.args.store.now.texts in
    rw (c.second-message.ensures.value texts)
    (assert-some c.args.store.now.heap (values_seen texts c.args.args.now) (tested is_true _ _ false (c.first.ensures.value texts) (c.if-is_true.ensures texts))
    (tested is_nil _ _ false (c.second-message.ensures.value texts) (c.if-is_nil.ensures texts)))

pub returns-clause-of : goal.returns-clause-of
returns-clause-of c = c.second-message.ensures.of c.args.store.now c.requires
