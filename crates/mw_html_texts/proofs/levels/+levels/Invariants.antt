use Rattle.std.proofs.Common.{◌+◌, ◌*◌, length, map}
use Rattle.std.specs.List.{AllByRecursion}
use Rattle.mw_html.specs.declared.sheet.Sheet.{Sheet}
use Rattle.mw_html.specs.Render as spec
use Rattle.mw_html.specs.Sheet.{Leads}
use Rattle.lua_strings.specs.LuaStoreSeen.{seen_child}
use Rattle.lua_strings.specs.LuaStoreParts.{IsChildOf}
use Rattle.mw_html_texts.proofs.levels.+levels.Given as goal

abbrev pub invariant-children-loop-next : goal.invariant-children-loop-next
invariant-children-loop-next l = AllByRecursion (IsChildOf l.store) l.rest
    × ((t : Sheet) → Leads l.sheet t (spec.children (spec.node l.store.heap.markup l.room) (map (seen_child l.store.texts) l.rest))
    → Leads l.initial.sheet t (spec.children (spec.node l.store.heap.markup l.room) (map (seen_child l.store.texts) l.list)))

abbrev pub decreases-node : goal.decreases-node
decreases-node l = 4 * l.room

abbrev pub decreases-child : goal.decreases-child
decreases-child l = 4 * l.room + 1

abbrev pub decreases-children : goal.decreases-children
decreases-children l = 4 * l.room + 2

abbrev pub decreases-children-loop-next : goal.decreases-children-loop-next
decreases-children-loop-next l = length l.rest

abbrev pub decreases-inside : goal.decreases-inside
decreases-inside l = 4 * l.room + 3
