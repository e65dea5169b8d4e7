use Rattle.std.proofs.Common.{length, ◌-◌}
use Rattle.lua_syntax.specs.View.{expr_view}
use Rattle.lua_reading.proofs.functions.PathExits.{PathState}
use Rattle.lua_parser.proofs.functions.path.Given as goal

abbrev pub invariant-marks : goal.invariant-marks
invariant-marks l = PathState l.toks l.context l.i (expr_view l.path.value) l.end l.height

abbrev pub decreases-marks : goal.decreases-marks
decreases-marks l = length l.toks - l.end
