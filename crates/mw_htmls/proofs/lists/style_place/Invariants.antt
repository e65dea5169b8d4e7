use Rattle.lua_strings.specs.LuaMeaningHtmlNodes.{is_item}
use Rattle.lua_strings.specs.LuaStoreSeen.{text_at, seen_style}
use Rattle.mw_htmls.proofs.Settled.{Passed}
use Rattle.mw_htmls.proofs.lists.style_place.Given as goal

abbrev pub invariant-places : goal.invariant-places
invariant-places l = Passed (seen_style l.store.texts) (is_item (text_at l.store.texts l.name.at)) l.styles l.place
