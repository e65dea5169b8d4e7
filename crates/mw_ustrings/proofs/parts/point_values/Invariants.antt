use Rattle.std.proofs.Common.{◌≡◌, ◌++◌, ℕ, List, length}
use Rattle.mw_frame_texts.specs.LuaStoreSeen.{StoreView}
use Rattle.mw_frame_texts.specs.LuaBasicSeen.{values_seen, AllOf}
use Rattle.mw_frame_texts.specs.LuaMeaningUstring.{point_values}
use Rattle.mw_ustrings.proofs.parts.point_values.Given as goal

-- what is made and what is still to make are all
abbrev pub invariant-each : goal.invariant-each
invariant-each l = ((s : StoreView) → AllOf s l.values) × ((texts : List (List ℕ)) → values_seen texts l.values ++ point_values l.left ≡ point_values l.codes)

abbrev pub decreases-each : goal.decreases-each
decreases-each l = length l.left
