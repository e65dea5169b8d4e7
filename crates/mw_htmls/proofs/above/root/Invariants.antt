use Rattle.lua_strings.specs.LuaStoreParts.{IsMarkupOf}
use Rattle.mw_htmls.proofs.Climbs.{IsAbove}
use Rattle.mw_htmls.proofs.above.root.Given as goal

abbrev pub invariant-up : goal.invariant-up
invariant-up l = IsMarkupOf l.store l.object × IsAbove l.store.heap.markup l.fn.id.at l.object.at
