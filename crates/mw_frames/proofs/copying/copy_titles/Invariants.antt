use Rattle.std.proofs.Common.{◌≡◌, take}
use Rattle.mw_frames.proofs.copying.copy_titles.Given as goal

abbrev pub invariant-loop-title : goal.invariant-loop-title
invariant-loop-title l = l.made ≡ take l.title-index l.titles
