use Rattle.std.proofs.Common.{◌≡◌, take}
use Rattle.mw_frame.specs.Scenes.{NamesDiffer}
use Rattle.page_ground.proofs.scenes.check_names.Given as goal

abbrev pub invariant-loop-arg : goal.invariant-loop-arg
invariant-loop-arg l = (l.names ≡ take l.arg-index l.args) × NamesDiffer l.names
