-- NAMES, FUNCTIONS AND PLACES OF THE TEXT (manual 2.3, 2.5.9, 2.6).
use Rattle.std.specs.Prelude.{ℕ, List, [], ◌∷◌, Option, Some, None, if◌then◌else◌, bytes_eq}
use Rattle.lua_syntax.specs.Tree.{Fun}
use Rattle.lua_walk.specs.LuaHeapValue.{Value}

abbrev pub Bytes : Type 0
Bytes = List ℕ

-- The names that are seen at a place of the text, each with the cell of its variable, the newest first.
abbrev pub Names : Type 0
Names = List (Bytes × ℕ)

-- the cell of a local variable; a name that has none is a global variable
abbrev pub cell_of : Names → Bytes → Option ℕ
cell_of [] name = None
cell_of (n ∷ names) name = if bytes_eq n.0 name then Some n.1 else cell_of names name

-- A PLACE of the text, for messages: the title of its module, and the line.
pub record Place : Type 0 where
  pub source : Bytes
  pub line : ℕ

-- THE LEVELS of an error (manual 5.1, `error`), from level 1 on: first the place that failed or that called the function of the
-- library that failed, then the place that called the function in which that one stands, and so on. Where a function
-- of the library is the caller, no place called, and the levels end.
abbrev pub Levels : Type 0
Levels = List Place

-- A FUNCTION of Lua: its node in the tree, the names that are seen where it stands, and the title of its module (manual 2.5.9, 2.6).
pub record Function : Type 0 where
  pub node : Fun
  pub names : Names
  pub source : Bytes

-- THE SCOPE of a part of the text: the names that are seen there, the values of `...`, the title of its module, and the levels
-- above the function in which it stands.
pub record Scope : Type 0 where
  pub names : Names
  pub dots : List Value
  pub source : Bytes
  pub callers : Levels

-- the levels of an error at this line
abbrev pub levels : Scope → ℕ → Levels
levels scope line = record { source = scope.source; line = line } ∷ scope.callers

-- the title of the module in whose text level 1 stands
abbrev pub source_of : Levels → Bytes
source_of [] = []
source_of (p ∷ more) = p.source

-- one more local variable, in front of those that are seen
abbrev pub with_name : Bytes → ℕ → Scope → Scope
with_name name cell scope = record scope { names = (name, cell) ∷ scope.names }
