use Rattle.std.proofs.Common.{◌≡◌, ◌++◌, length, map, IsCharBoundary}
use Rattle.std.specs.List.{AllByRecursion}
use Rattle.lua_pattern.specs.Places.{IsCaptureAt}
use Rattle.mw_frame_texts.specs.LuaStoreParts.{IsLater}
use Rattle.mw_frame_texts.specs.LuaBasicSeen.{values_seen, AllOf}
use Rattle.mw_frame_texts.specs.LuaMeaningUstring.{capture_value}
use Rattle.mw_ustrings.proofs.captures.add_captures.Given as goal

-- what was added and what is still to add are all
abbrev pub invariant-each : goal.invariant-each
invariant-each l =
    AllByRecursion (IsCaptureAt (IsCharBoundary l.s)) l.rest
    × AllOf l.store l.values
    × (values_seen l.store.texts l.values ++ map (capture_value l.s) l.rest ≡ values_seen l.initial.store.texts l.initial.values ++ map (capture_value l.s) l.captures)
    × (l.store.heap ≡ l.initial.store.heap)
    × IsLater l.initial.store l.store

abbrev pub decreases-each : goal.decreases-each
decreases-each l = length l.rest
