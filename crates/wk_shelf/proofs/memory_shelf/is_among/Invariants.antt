use Rattle.std.proofs.Common.{◌≡◌, drop, map}
use Rattle.std.specs.List.{list_any}
use Rattle.wk_shelf.specs.MemoryFiles.{file_of, same_place}
use Rattle.wk_shelf.proofs.memory_shelf.is_among.Given as goal

abbrev pub invariant-loop-other : goal.invariant-loop-other
invariant-loop-other l =
    list_any (same_place (file_of l.file)) (map file_of (drop l.other-index l.others)) ≡ list_any (same_place (file_of l.file)) (map file_of l.others)
