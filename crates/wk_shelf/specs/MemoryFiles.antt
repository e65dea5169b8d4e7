-- Files in memory, as the files that a shelf holds.
use Rattle.std.specs.Prelude.{Bool, true, not, ◌&&◌, List, [], ◌∷◌}
use Rattle.std.specs.List.{list_any}
use Rattle.std.specs.Str.{bytes_eq, is_utf8}
use Rattle.wk_shelf.specs.Files.{StoredFile}
use Rattle.wk_shelf.specs.declared.memory_shelf.MemoryFile.{MemoryFile}

abbrev pub file_of : MemoryFile → StoredFile
file_of f = record { folder = f.folder; name = f.name; bytes = f.bytes }

abbrev pub same_place : StoredFile → StoredFile → Bool
same_place f g = bytes_eq f.folder g.folder && bytes_eq f.name g.name

-- each name is text, and no two files agree in folder and name
abbrev pub are_files : List StoredFile → Bool
are_files [] = true
are_files (f ∷ fs) = (is_utf8 f.name && not (list_any (same_place f) fs)) && are_files fs
