use Rattle.std.proofs.Common.{◌≡◌, ◌++◌, length}
use Rattle.mw_frame_texts.specs.LuaBasicSeen.{values_seen, AllOf}
use Rattle.mw_ustrings.specs.CodePoints.{points_bytes}
use Rattle.mw_ustrings.proofs.char_of.the_text.Given as goal

abbrev pub invariant-each : goal.invariant-each
invariant-each l = AllOf l.store l.rest × (l.made.items ++ points_bytes (values_seen l.store.texts l.rest) ≡ points_bytes (values_seen l.store.texts l.values))

abbrev pub decreases-each : goal.decreases-each
decreases-each l = length l.rest
