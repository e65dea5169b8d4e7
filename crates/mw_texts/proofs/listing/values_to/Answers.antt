use Rattle.std.proofs.Common.{◌<◌, ◌∙◌, ap, sym, subst, rules}
use Rattle.std.specs.Prelude.{pos}
use Rattle.mw_ustrings.specs.LuaHeapHeap.{table_at}
use Rattle.mw_ustrings.specs.LuaMeaningBasic.{entries_from}
use Rattle.mw_ustrings.specs.LuaStoreSeen.{seen}
use Rattle.mw_ustrings.specs.LuaBasicSeen.{values_seen, AllOf}
use Rattle.mw_ustrings.proofs.LuaBasicLists.{all-with, seen-with}
use Rattle.mw_ustrings.proofs.LuaBasicCounts.{entry-read}
use Rattle.mw_texts.proofs.listing.values_to.Goals as goal

pub numbers-preserved : goal.numbers-preserved
numbers-preserved c =
    let s = c.args.store.now in
    let es = (table_at s.heap c.args.table.at).entries in
    let lt : c.numbers.offset < c.args.count = search rules in (
      subst (AllOf s) (sym c.in_ok-push.ensures.ok) (all-with s c.numbers.values c.value_at.result c.numbers.invariant.0 c.value_at.ensures.of),
      entry-read (values_seen s.texts c.numbers.values) (values_seen s.texts c.push.new.self) (seen s.texts c.value_at.result) c.args.count c.numbers.offset (pos 1) es (entries_from c.args.count (pos 1) es)
          lt (ap (values_seen s.texts) c.in_ok-push.ensures.ok ∙ seen-with s.texts c.numbers.values c.value_at.result) c.value_at.ensures.value c.numbers.invariant.1,
    )
