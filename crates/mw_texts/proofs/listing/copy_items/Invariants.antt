use Rattle.std.proofs.Common.{◌≡◌, take, map}
use Rattle.mw_ustrings.specs.LuaBasicArguments.{text_bytes}
use Rattle.mw_texts.proofs.listing.copy_items.Given as goal

abbrev pub invariant-each : goal.invariant-each
invariant-each l = l.copies ≡ map text_bytes (take l.item-index l.items)
