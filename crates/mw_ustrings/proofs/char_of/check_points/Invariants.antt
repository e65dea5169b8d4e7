use Rattle.std.proofs.Common.{◌≡◌}
use Rattle.mw_frame_texts.specs.LuaBasicSeen.{values_seen}
use Rattle.mw_frame_texts.specs.LuaMeaningUstring.{points_text}
use Rattle.mw_ustrings.proofs.Points.{CheckedTo}
use Rattle.mw_ustrings.proofs.char_of.check_points.Given as goal

-- the store is as it was; those before this place are code points
abbrev pub invariant-each : goal.invariant-each
invariant-each l =
    let vs = values_seen l.initial.store.texts l.fn.args in
    (l.store ≡ l.initial.store) × CheckedTo l.at vs (points_text 1 vs)
