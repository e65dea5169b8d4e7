use Rattle.std.proofs.Common.{length}
use Rattle.mw_frames.specs.LuaMeaningArguments.{text_charge}
use Rattle.mw_frames.specs.LuaBasicSeen.{values_seen, AllOf}
use Rattle.mw_frames.specs.Costs.{SoFar}
use Rattle.mw_frame_texts.proofs.costs.pay_given.Given as goal

abbrev pub invariant-values : goal.invariant-values
invariant-values l = AllOf l.store l.rest × SoFar l.initial.left l.left (text_charge (values_seen l.store.texts l.rest)) (text_charge (values_seen l.store.texts l.given))

abbrev pub decreases-values : goal.decreases-values
decreases-values l = length l.rest
