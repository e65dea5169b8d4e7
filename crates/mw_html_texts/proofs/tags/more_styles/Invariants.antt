use Rattle.std.proofs.Common.{length, map}
use Rattle.std.specs.List.{AllByRecursion, flat_map}
use Rattle.mw_html.specs.declared.sheet.Sheet.{Sheet}
use Rattle.mw_html.specs.Render as spec
use Rattle.mw_html.specs.Render.{given}
use Rattle.mw_html.specs.Sheet.{Leads}
use Rattle.lua_strings.specs.LuaStoreSeen.{seen_style}
use Rattle.lua_strings.specs.LuaStoreParts.{IsStyleOf}
use Rattle.mw_html_texts.proofs.tags.more_styles.Given as goal

abbrev pub invariant-loop-rest : goal.invariant-loop-rest
invariant-loop-rest l = AllByRecursion (IsStyleOf l.store) l.rest × ((t : Sheet) → Leads l.sheet t (given (flat_map spec.next_style (map (seen_style l.store.texts) l.rest))) → Leads l.initial.sheet t (given (flat_map spec.next_style (map (seen_style l.store.texts) l.list))))

abbrev pub decreases-loop-rest : goal.decreases-loop-rest
decreases-loop-rest l = length l.rest
