use Rattle.std.proofs.Common.{sym}
use Rattle.lua_store.specs.Seen.{seen}
use Rattle.lua_basic.specs.Seen.{values_seen}
use Rattle.lua_basic.proofs.Basic.{meta-shown, shown-none, shown-some}
use Rattle.lua_basic.proofs.handlers.get_metatable.Goals as goal

pub metatable-meta-requires : goal.metatable-meta-requires
metatable-meta-requires c = c.first.ensures.of c.args.store.now c.requires

pub returns-then-is_nil-clause-answer : goal.returns-then-is_nil-clause-answer
returns-then-is_nil-clause-answer c =
    let texts = c.args.store.now.texts in
    rw (c.in_ok-values.ensures, c.in_ok-protected.ensures.heap, (c.in_ok-protected.ensures.stays c.metatable-meta.result c.metatable-meta.ensures.of).1)
    (meta-shown c.args.store.now.heap (values_seen texts c.args.args.now) _ (seen texts c.metatable-meta.result) _ _ (c.first.ensures.value texts) c.metatable-meta.ensures.value c.in_ok-protected.ensures.value
    (shown-none _ _ (sym (c.if-is_nil.ensures c.field.new.store.texts))))

pub returns-clause-answer : goal.returns-clause-answer
returns-clause-answer c =
    let texts = c.args.store.now.texts in
    rw (c.in_ok-values-2.ensures, c.in_ok-protected.ensures.heap)
    (meta-shown c.args.store.now.heap (values_seen texts c.args.args.now) _ (seen texts c.metatable-meta.result) _ _ (c.first.ensures.value texts) c.metatable-meta.ensures.value c.in_ok-protected.ensures.value
    (shown-some _ _ (sym (c.if-is_nil.ensures c.field.new.store.texts))))
