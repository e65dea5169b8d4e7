use Rattle.std.proofs.Common.{◌<◌, ◌∙◌, ap, sym, subst, rules, w64}
use Rattle.std.proofs.lemmas.Int.{to_z-of_z}
use Rattle.lua_store.specs.LuaHeapHeap.{table_at}
use Rattle.lua_meaning.specs.Basic.{entries_from}
use Rattle.lua_store.specs.Seen.{seen}
use Rattle.lua_basic.specs.Seen.{values_seen, AllOf}
use Rattle.lua_basic.proofs.Lists.{all-with, seen-with}
use Rattle.lua_basic.proofs.Counts.{entry-read}
use Rattle.lua_basic.proofs.unpacking.entries_from.Goals as goal

pub numbers-preserved : goal.numbers-preserved
numbers-preserved c =
    let texts = c.args.store.now.texts in
    let es = (table_at c.args.store.now.heap c.args.table.at).entries in
    let first = to_z-of_z w64 c.args.first c.ranges.first in
    let lt : c.numbers.offset < c.args.count = search rules in
    let value = rw first at c.value_at.ensures.value in
    let so_far = rw first at c.numbers.invariant.1 in
    rw first (
      subst (AllOf c.args.store.now) (sym c.in_ok-push.ensures.ok) (all-with c.args.store.now c.numbers.values c.value_at.result c.numbers.invariant.0 c.value_at.ensures.of),
      entry-read (values_seen texts c.numbers.values) (values_seen texts c.push.new.self) (seen texts c.value_at.result) c.args.count c.numbers.offset c.args.first es (entries_from c.args.count c.args.first es)
          lt (ap (values_seen texts) c.in_ok-push.ensures.ok ∙ seen-with texts c.numbers.values c.value_at.result) value so_far,
    )
