use Rattle.std.proofs.Common.{drop}
use Rattle.lua_home.specs.LuaMeaningFrames.{args_charge}
use Rattle.mw_frames.specs.Costs.{SoFar}
use Rattle.mw_frames.specs.Reading.{args_seen}
use Rattle.mw_frames.proofs.reading.pay_read.Given as goal

abbrev pub invariant-texts : goal.invariant-texts
invariant-texts l = SoFar l.initial.left l.left (args_charge (args_seen (drop l.arg-index l.args))) (args_charge (args_seen l.args))
