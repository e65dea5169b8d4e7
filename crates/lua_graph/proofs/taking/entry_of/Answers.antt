use Rattle.std.proofs.Common.{sym, ◌∙◌}
use Rattle.lua_store.specs.Seen.{seen}
use Rattle.lua_store.proofs.Changes.{nil-seen}
use Rattle.lua_graph.specs.Plain.{plain_item}
use Rattle.lua_graph.specs.Put.{named}
use Rattle.lua_graph.specs.Taken.{places}
use Rattle.lua_graph.proofs.Grown.{entry_read, key_fault, value_fault}
use Rattle.lua_graph.proofs.taking.entry_of.Goals as goal

pub returns-in-Err-clause-err : goal.returns-in-Err-clause-err
returns-in-Err-clause-err c = λ s k. (
  nil-seen s.texts c.args.value ∙ sym c.if-is_nil.ensures.test,
  key_fault (places c.args.order.now.keys) (seen s.texts c.args.key) (seen s.texts c.args.value) c.in-Err.fault (c.in-Err.ensures.err s),
)

pub returns-in-Ok-value_item-clause-ok : goal.returns-in-Ok-value_item-clause-ok
returns-in-Ok-value_item-clause-ok c = λ s k v.
    entry_read s (places c.args.order.now.keys) c.args.texts.now.keys c.key_item.new.texts.keys c.value_item.new.texts.keys (seen s.texts c.args.key) (seen s.texts c.args.value)
    c.in-Ok.key c.in-Ok-value_item.value (nil-seen s.texts c.args.value ∙ sym c.if-is_nil.ensures.test) (c.in-Ok.ensures.ok s k) (c.in-Ok-value_item.ensures.ok s v)

pub returns-in-Err-value_item-clause-err : goal.returns-in-Err-value_item-clause-err
returns-in-Err-value_item-clause-err c = λ s k. (
  nil-seen s.texts c.args.value ∙ sym c.if-is_nil.ensures.test,
  value_fault (places c.args.order.now.keys) (seen s.texts c.args.key) (seen s.texts c.args.value) (plain_item (named s.texts c.key_item.new.texts.keys) c.in-Ok.key) c.in-Err-value_item.fault
      (c.in-Ok.ensures.ok s k).value (c.in-Err-value_item.ensures.err s),
)
