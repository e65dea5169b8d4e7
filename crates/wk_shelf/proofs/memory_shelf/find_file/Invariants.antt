use Rattle.std.proofs.Common.{◌≡◌, drop, map}
use Rattle.wk_shelf.specs.Files.{bytes_at}
use Rattle.wk_shelf.specs.MemoryFiles.{file_of}
use Rattle.wk_shelf.proofs.memory_shelf.find_file.Given as goal

abbrev pub invariant-loop-file : goal.invariant-loop-file
invariant-loop-file l = bytes_at l.folder l.name (map file_of (drop l.file-index l.files)) ≡ bytes_at l.folder l.name (map file_of l.files)
