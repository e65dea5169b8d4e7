-- The files of a shelf, and what a shelf may say of them.
use Rattle.std.specs.Prelude.{◌≡◌, ℕ, Bool, true, not, ◌&&◌, if◌then◌else◌, List, [], ◌∷◌, take, Option, Some, None, IsPermutation}
use Rattle.std.specs.Str.{bytes_eq}
use Rattle.std.specs.List.{list_any}

-- a file: its folder and its name in UTF-8, and its bytes
pub record StoredFile : Type 0 where
  pub folder : List ℕ
  pub name : List ℕ
  pub bytes : List ℕ

-- the names of a folder's files
abbrev pub names_in : List ℕ → List StoredFile → List (List ℕ)
names_in folder [] = []
names_in folder (f ∷ fs) = if bytes_eq folder f.folder then f.name ∷ names_in folder fs else names_in folder fs

-- the bytes of a file, none where it isn't held
abbrev pub bytes_at : List ℕ → List ℕ → List StoredFile → List ℕ
bytes_at folder name [] = []
bytes_at folder name (f ∷ fs) = if bytes_eq folder f.folder && bytes_eq name f.name then f.bytes else bytes_at folder name fs

-- no name is one of those after it
abbrev pub all_differ : List (List ℕ) → Bool
all_differ [] = true
all_differ (n ∷ ns) = not (list_any (bytes_eq n) ns) && all_differ ns

-- the names of the folder in some order, each once, where what is held is known
abbrev pub Lists : Option (List StoredFile) → List ℕ → List (List ℕ) → Type 0
Lists None folder names = Unit {0}
Lists (Some files) folder names = IsPermutation names (names_in folder files) × (all_differ names ≡ true)

-- the first `most` bytes of the file, where what is held is known
abbrev pub Reads : Option (List StoredFile) → List ℕ → List ℕ → ℕ → List ℕ → Type 0
Reads None folder name most bytes = Unit {0}
Reads (Some files) folder name most bytes = bytes ≡ take most (bytes_at folder name files)
