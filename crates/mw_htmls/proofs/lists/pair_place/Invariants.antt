use Rattle.lua_strings.specs.LuaMeaningHtmlNodes.{is_attr}
use Rattle.lua_strings.specs.LuaStoreSeen.{text_at, seen_pair}
use Rattle.mw_htmls.proofs.Settled.{Passed}
use Rattle.mw_htmls.proofs.lists.pair_place.Given as goal

abbrev pub invariant-places : goal.invariant-places
invariant-places l = Passed (seen_pair l.store.texts) (is_attr (text_at l.store.texts l.name.at)) l.pairs l.place
