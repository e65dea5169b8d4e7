use Rattle.std.proofs.Common.{length, drop}
use Rattle.mw_frames.specs.Costs.{SoFar}
use Rattle.mw_frame_texts.specs.Written.{attrs_written}
use Rattle.mw_frame_texts.proofs.costs.pay_attrs.Given as goal

abbrev pub invariant-attrs : goal.invariant-attrs
invariant-attrs l = SoFar l.initial.left l.left (length (attrs_written (drop l.attr-index l.attrs))) (length (attrs_written l.attrs))
