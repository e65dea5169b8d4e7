use Rattle.std.proofs.Common.{◌≡◌, length, map}
use Rattle.std.specs.List.{AllByRecursion}
use Rattle.lua_strings.specs.LuaMeaningHtmlNodes as nodes
use Rattle.lua_strings.specs.LuaStoreSeen.{text_at, seen_pair}
use Rattle.lua_strings.specs.LuaStoreParts.{IsPairOf}
use Rattle.mw_htmls.proofs.classes.value_named.Given as goal

abbrev pub invariant-each : goal.invariant-each
invariant-each l = AllByRecursion (IsPairOf l.store) l.rest × (nodes.value_of (text_at l.store.texts l.name.at) (map (seen_pair l.store.texts) l.rest) ≡ nodes.value_of (text_at l.store.texts l.name.at) (map (seen_pair l.store.texts) l.pairs))

abbrev pub decreases-each : goal.decreases-each
decreases-each l = length l.rest
