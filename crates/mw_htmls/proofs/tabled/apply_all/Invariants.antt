use Rattle.std.proofs.Common.{◌≡◌, take}
use Rattle.mw_html.specs.LuaHeapHeap.{markup_at, set_markup_in}
use Rattle.lua_strings.specs.LuaStoreParts.{IsMarkupOf, IsLater}
use Rattle.mw_htmls.specs.Setters.{all_set}
use Rattle.mw_htmls.proofs.tabled.apply_all.Given as goal

abbrev pub invariant-each : goal.invariant-each
invariant-each l =
    IsMarkupOf l.store l.id
    × (l.store.heap ≡ set_markup_in l.initial.store.heap l.id.at (all_set l.setter (take l.setting-index l.settings) (markup_at l.initial.store.heap l.id.at)))
    × IsLater l.initial.store l.store
