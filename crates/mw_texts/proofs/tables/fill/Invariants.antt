use Rattle.std.proofs.Common.{◌≡◌, length}
use Rattle.mw_ustrings.specs.LuaGraphPut.{filled}
use Rattle.mw_ustrings.specs.LuaStoreParts.{IsTableOf, IsLater}
use Rattle.mw_ustrings.specs.LuaMeaningTexts.{text_entries}
use Rattle.mw_texts.proofs.tables.fill.Given as goal

-- what was set and what is still to set are all
abbrev pub invariant-each : goal.invariant-each
invariant-each l =
    (filled l.table.at (text_entries l.at l.rest) l.store.heap ≡ filled l.table.at (text_entries 1 l.texts) l.initial.store.heap)
    × IsTableOf l.store l.table
    × IsLater l.initial.store l.store

abbrev pub decreases-each : goal.decreases-each
decreases-each l = length l.rest
