use Rattle.std.proofs.Common.{◌≡◌, take}
use Rattle.mw_frames.proofs.copying.copy_args.Given as goal

abbrev pub invariant-loop-arg : goal.invariant-loop-arg
invariant-loop-arg l = l.made ≡ take l.arg-index l.args
