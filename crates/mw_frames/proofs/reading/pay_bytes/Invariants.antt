use Rattle.std.proofs.Common.{drop}
use Rattle.lua_home.specs.LuaMeaningFrames.{bytes_of}
use Rattle.mw_frames.specs.Costs.{SoFar}
use Rattle.mw_frames.specs.Reading.{args_seen}
use Rattle.mw_frames.proofs.reading.pay_bytes.Given as goal

abbrev pub invariant-texts : goal.invariant-texts
invariant-texts l = SoFar l.initial.left l.left (bytes_of (args_seen (drop l.arg-index l.args))) (bytes_of (args_seen l.args))
