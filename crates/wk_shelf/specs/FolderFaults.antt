-- What a fault of a folder says.
use Rattle.std.specs.Prelude.{ℕ, List, Option, Some, None}
use Rattle.wk_shelf.specs.declared.folder.FolderFault.{FolderFault}
use Rattle.wk_shelf.specs.declared.folder.FolderFault.TheVariants.{Read, Source, NoMemory}
use Rattle.wk_shelf.specs.declared.shelf.ShelfFault.{ShelfFault}
use Rattle.wk_shelf.specs.declared.shelf.ShelfFault.TheVariants.{Failed}

-- the line of a source fault
abbrev pub source_line : FolderFault → Option (List ℕ)
source_line Read = None
source_line (Source line) = Some line
source_line NoMemory = None

-- what a shelf's fault is to the folder
abbrev pub shelf_fault : ShelfFault → FolderFault
shelf_fault Failed = Read
shelf_fault _ = NoMemory
