use Rattle.std.proofs.Common.{◌≡◌, drop, map, true}
use Rattle.wk_shelf.specs.MemoryFiles.{file_of, are_files}
use Rattle.wk_shelf.proofs.memory_shelf.can_hold.Given as goal

abbrev pub invariant-loop-at : goal.invariant-loop-at
invariant-loop-at l = are_files (map file_of (drop l.at l.files)) ≡ true
