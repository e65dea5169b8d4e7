use Rattle.std.proofs.Common.{◌∙◌, sym, ap}
use Rattle.std.specs.Prelude.{codes}
use Rattle.lua_code.specs.LuaHeapProc.{Proc}
use Rattle.lua_code.specs.LuaHeapHeap.{Heap, table_at}
use Rattle.lua_code.specs.LuaHeapTable.{get}
use Rattle.lua_code.specs.LuaHeapValue.{Table, is_nil}
use Rattle.lua_operators.specs.LuaMeaningMetatables.{handler}
use Rattle.lua_operators.specs.LuaStoreSeen.{seen}
use Rattle.lua_turns.proofs.EntrySet.{there_plain, absent_plain}
use Rattle.lua_turns.proofs.setting.is_plain.Goals as goal

pub returns-then-is_nil-2 : goal.returns-then-is_nil-2
returns-then-is_nil-2 c = λ plain value line fs s h.
    let t = c.args.table.at in
    let texts = c.args.store.now.texts in
    let key = seen texts c.args.key in
    absent_plain t key value line fs s (ap (λ (x : Heap Proc). (table_at x t).frozen) h ∙ sym c.is_frozen.ensures ∙ c.if-is_frozen.false) (sym (c.is_nil.ensures texts) ∙ c.if-is_nil.false)
    (ap (λ (x : Heap Proc). is_nil (get (table_at x t).entries key)) h ∙ ap is_nil (sym c.get.ensures.value) ∙ sym (c.is_nil-2.ensures texts) ∙ c.if-is_nil-2.true)
    (ap (λ (x : Heap Proc). is_nil (handler x (Table t) (codes "__newindex"))) h ∙ ap (λ n. is_nil (handler c.args.store.now.heap (Table t) n)) (sym c.requires.env.set_index.1) ∙ ap is_nil (sym c.handler.ensures.value) ∙ sym (c.is_nil-then-is_nil-2.ensures texts) ∙ plain)

pub returns : goal.returns
returns c = λ plain value line fs s h.
    let t = c.args.table.at in
    let texts = c.args.store.now.texts in
    let key = seen texts c.args.key in
    there_plain t key value line fs s (ap (λ (x : Heap Proc). (table_at x t).frozen) h ∙ sym c.is_frozen.ensures ∙ c.if-is_frozen.false) (sym (c.is_nil.ensures texts) ∙ c.if-is_nil.false)
    (ap (λ (x : Heap Proc). is_nil (get (table_at x t).entries key)) h ∙ ap is_nil (sym c.get.ensures.value) ∙ sym (c.is_nil-2.ensures texts) ∙ c.if-is_nil-2.false)
