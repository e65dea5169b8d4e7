use Rattle.std.proofs.Common.{◌≡◌, ◌++◌, drop, map, string_bytes}
use Rattle.wk_shelf.specs.Files.{names_in}
use Rattle.wk_shelf.specs.MemoryFiles.{file_of}
use Rattle.wk_shelf.proofs.memory_shelf.names_of.Given as goal

abbrev pub invariant-loop-file : goal.invariant-loop-file
invariant-loop-file l = map string_bytes l.names.items ++ names_in l.folder (map file_of (drop l.file-index l.files)) ≡ names_in l.folder (map file_of l.files)
