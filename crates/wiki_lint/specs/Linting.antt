-- WHAT IS TOLD of a module of a folder: the globals that it uses, with the modules that it requires.
use Rattle.std.specs.Prelude.{◌≡◌, ◌⊎◌, ℕ, true, false, List, [], ◌∷◌, ◌++◌, slice_get, Option, Some, None, unwrap_or, Result, Ok, Err, codes}
use Rattle.std.specs.Fmt.{decimal}
use Rattle.wk_base.specs.declared.title.Title.{Title}
use Rattle.wk_base.specs.Titles.{title_text, is_module}
use Rattle.wk_tool.specs.WkShelfDeclaredFolderFolderPage.{FolderPage}
use Rattle.lua_syntax.specs.declared.Chunk.{Chunk}
use Rattle.lua_syntax.specs.declared.fault.SyntaxFault.{SyntaxFault}
use Rattle.lua_syntax.specs.declared.fault.SyntaxFault.TheVariants.{At, NoMemory as WantOfMemory}
use Rattle.lua_syntax.specs.Tree.{Block}
use Rattle.lua_syntax.specs.View.{chunk_view}
use Rattle.lua_parser.specs.Chunks.{IsParsed}
use Rattle.lua_uses.specs.Modules.{Named, Unknown, GlobalUses, Names, CannotTell as Hidden, place_from, uses}
use Rattle.wk_tool.specs.declared.report.Report.{Report}
use Rattle.wk_tool.specs.declared.report.Status.{Status}
use Rattle.wk_tool.specs.declared.report.Status.TheVariants.{Done, CannotTell}
use Rattle.wk_tool.specs.Report.{line, refusal}
use Rattle.wiki_lint.specs.Told.{tool, printed}

-- ---- the modules of a folder: those whose texts are Lua

-- the tree that a text spells
abbrev pub IsTree : List ℕ → Block → Type 0
IsTree text tree = (chunk : Chunk) × (chunk_view chunk ≡ tree) × IsParsed (Ok chunk) text

-- it spells none
abbrev pub HasNoTree : List ℕ → Type 0
HasNoTree text = (tree : Block) → IsTree text tree → ⊥

-- a page of namespace Module has the tree of its text, if that is Lua; other pages have none
abbrev pub IsTreeOf : FolderPage → Option Block → Type 0
IsTreeOf page None = (is_module page.title.ns ≡ false) ⊎ HasNoTree page.bytes
IsTreeOf page (Some tree) = (is_module page.title.ns ≡ true) × IsTree page.bytes tree

abbrev pub AreTrees : List FolderPage → List (Option Block) → Type 0
AreTrees [] [] = Unit {0}
AreTrees (page ∷ pages) (tree ∷ trees) = IsTreeOf page tree × AreTrees pages trees
AreTrees pages trees = ⊥

-- a page as a module, if it has a tree
abbrev pub as_module : Title → Option Block → List Named
as_module title None = []
as_module title (Some tree) = record { title = title; chunk = tree } ∷ []

abbrev pub modules_of : List FolderPage → List (Option Block) → List Named
modules_of (page ∷ pages) (tree ∷ trees) = as_module page.title tree ++ modules_of pages trees
modules_of pages trees = []

-- ---- what is told

-- names, each with LF behind it
abbrev pub lines : List (List ℕ) → List ℕ
lines [] = []
lines (name ∷ names) = name ++ (10 ∷ lines names)

abbrev pub title_in : Option Named → List ℕ
title_in None = []
title_in (Some m) = title_text m.title

-- a place at which it can't be told
abbrev pub place_line : List ℕ → ℕ → List ℕ
place_line title at = line tool (codes "cannot tell: " ++ title ++ codes ":" ++ decimal at)

abbrev pub cannot_tell : List Named → Unknown → Report
cannot_tell modules at = refusal CannotTell (place_line (title_in (slice_get modules at.place)) at.line)

abbrev pub told : List Named → GlobalUses → Report
told modules (Names names) = printed (lines names)
told modules (Hidden at) = cannot_tell modules at

-- the place of the module in the list; it is there where its text has a tree
abbrev pub place_of : List Named → Title → ℕ
place_of modules title = unwrap_or (place_from 0 modules title) 0

abbrev pub IsTold : Title → List FolderPage → Report → Type 0
IsTold title pages report =
    (trees : List (Option Block)) × AreTrees pages trees × (report ≡ told (modules_of pages trees) (uses (modules_of pages trees) (place_of (modules_of pages trees) title)))

-- the statuses that this has
abbrev pub IsToldStatus : Status → Type 0
IsToldStatus Done = Unit {0}
IsToldStatus CannotTell = Unit {0}
IsToldStatus _ = ⊥

-- WHAT IS TOLD of a module with this text on these pages, if it is Lua; or the first fault of the text. Want of memory says nothing.
abbrev pub IsLinted : Title → List FolderPage → List ℕ → Result Report SyntaxFault → Type 0
IsLinted title pages text (Ok report) = ((tree : Block) × IsTree text tree) × IsTold title pages report
IsLinted title pages text (Err (At fault)) = IsParsed (Err (At fault)) text
IsLinted title pages text (Err WantOfMemory) = Unit {0}
