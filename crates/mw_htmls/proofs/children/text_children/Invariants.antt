use Rattle.std.proofs.Common.{◌≡◌, map, take}
use Rattle.std.specs.List.{AllByRecursion}
use Rattle.mw_html.specs.LuaHeapHeap.{ChildText}
use Rattle.lua_strings.specs.LuaStoreSeen.{seen_child}
use Rattle.lua_strings.specs.LuaStoreParts.{IsChildOf, IsLater}
use Rattle.lua_strings.specs.LuaBasicArguments.{text_bytes}
use Rattle.mw_htmls.proofs.children.text_children.Given as goal

abbrev pub invariant-each : goal.invariant-each
invariant-each l =
    AllByRecursion (IsChildOf l.store) l.children
    × (map (seen_child l.store.texts) l.children ≡ map ChildText (map text_bytes (take l.text-index l.texts)))
    × (l.store.heap ≡ l.initial.store.heap)
    × IsLater l.initial.store l.store
