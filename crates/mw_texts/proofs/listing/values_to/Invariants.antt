use Rattle.std.proofs.Common.{◌≡◌, ◌++◌, ◌-◌, ◌+ℤ◌}
use Rattle.std.specs.Prelude.{pos}
use Rattle.mw_ustrings.specs.LuaHeapHeap.{table_at}
use Rattle.mw_ustrings.specs.LuaMeaningBasic.{entries_from}
use Rattle.mw_ustrings.specs.LuaBasicSeen.{values_seen, AllOf}
use Rattle.mw_texts.proofs.listing.values_to.Given as goal

-- what is read and what is still to read are all
abbrev pub invariant-numbers : goal.invariant-numbers
invariant-numbers l =
    let es = (table_at l.fn.store.heap l.fn.table.at).entries in
    AllOf l.fn.store l.values × (values_seen l.fn.store.texts l.values ++ entries_from (l.fn.count - l.offset) (pos 1 +ℤ pos l.offset) es ≡ entries_from l.fn.count (pos 1) es)
