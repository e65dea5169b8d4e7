-- WHAT THE CODE HOLDS while it reads the modules of a folder.
use Rattle.std.specs.Prelude.{◌≡◌, List, ◌++◌, Option}
use Rattle.wk_tool.specs.WkShelfDeclaredFolderFolderPage.{FolderPage}
use Rattle.lua_syntax.specs.Tree.{Block}
use Rattle.lua_uses.specs.Modules.{Named}
use Rattle.lua_lint.specs.declared.reading.Named.{Named as CodeNamed}
use Rattle.lua_lint.specs.Reading.{modules_seen}
use Rattle.wiki_lint.specs.Linting.{IsTreeOf, AreTrees, as_module, modules_of}

-- a page more was read
abbrev pub AddsModule : FolderPage → List CodeNamed → List CodeNamed → Type 0
AddsModule page old new = (tree : Option Block) × IsTreeOf page tree × (modules_seen new ≡ modules_seen old ++ as_module page.title tree)

-- these are the modules of pages
abbrev pub HasModules : List FolderPage → List Named → Type 0
HasModules pages modules = (trees : List (Option Block)) × AreTrees pages trees × (modules ≡ modules_of pages trees)

-- so they are, with those of the pages that are left
abbrev pub HasRest : List FolderPage → List Named → List FolderPage → Type 0
HasRest pages modules rest = (trees : List (Option Block)) → AreTrees rest trees → HasModules pages (modules ++ modules_of rest trees)
