use Rattle.std.proofs.Common.{ℕ, List, length, encode_utf8_all}
use Rattle.std.specs.Iterator.{IsFinite, size}
use Rattle.mw_frame_texts.specs.MwFramesCosts.{SoFar}
use Rattle.mw_ustrings.specs.CodePoints.{GivesPoints}
use Rattle.mw_ustrings.proofs.forms.pay_all.Given as goal

abbrev pub invariant-each : goal.invariant-each
invariant-each g l =
    g.I.Iterator.can_next l.points
    × IsFinite (g.I.Iterator.remaining l.points)
    × ((cs : List ℕ) → GivesPoints g.I.Iterator.next_gives l.fn.points cs
    → (rest : List ℕ) × GivesPoints g.I.Iterator.next_gives l.points rest × SoFar l.initial.left l.left (length (encode_utf8_all rest)) (length (encode_utf8_all cs)))

abbrev pub decreases-each : goal.decreases-each
decreases-each g l = size (g.I.Iterator.remaining l.points)
