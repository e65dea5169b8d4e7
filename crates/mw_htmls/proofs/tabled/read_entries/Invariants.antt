use Rattle.std.proofs.Common.{◌≡◌, ℕ, drop}
use Rattle.mw_html.specs.LuaHeapHeap.{table_at}
use Rattle.lua_strings.specs.Costs.{Takes}
use Rattle.mw_htmls.proofs.Tables.{IsReadSoFar}
use Rattle.mw_htmls.proofs.tabled.read_entries.Given as goal

abbrev pub invariant-places : goal.invariant-places
invariant-places l =
    let es = (table_at l.initial.store.heap l.table.at).entries in
    ((k : ℕ) × Takes k l.initial.left l.left × IsReadSoFar l.setter es (drop l.place es) k l.settings) × (l.store ≡ l.initial.store)
