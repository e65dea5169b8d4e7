use Rattle.std.proofs.Common.{length}
use Rattle.lua_home.specs.LuaMeaningFrames.{args_charge}
use Rattle.mw_frames.specs.Costs.{SoFar}
use Rattle.mw_frames.proofs.paying.pay_args.Given as goal

abbrev pub invariant-each : goal.invariant-each
invariant-each l = SoFar l.initial.left l.left (args_charge l.rest) (args_charge l.args)

abbrev pub decreases-each : goal.decreases-each
decreases-each l = length l.rest
