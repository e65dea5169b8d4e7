use Rattle.std.proofs.Common.{◌≡◌, length, map}
use Rattle.mw_ustrings.specs.LuaBasicArguments.{text_bytes}
use Rattle.mw_ustrings.specs.LuaBasicSeen.{values_seen, AllOf}
use Rattle.mw_ustrings.specs.LuaMeaningTexts.{items_of}
use Rattle.mw_texts.proofs.ItemLists.{onto}
use Rattle.mw_texts.proofs.listing.the_items.Given as goal

-- the store is as it was; what was read and what is still to read are all
abbrev pub invariant-each : goal.invariant-each
invariant-each l =
    (l.store ≡ l.initial.store)
    × AllOf l.initial.store l.left
    × (onto (map text_bytes l.items) (items_of (values_seen l.initial.store.texts l.left)) ≡ items_of (values_seen l.initial.store.texts l.values))

abbrev pub decreases-each : goal.decreases-each
decreases-each l = length l.left
