-- The files that a shelf in memory can hold.
use Rattle.std.proofs.Common.{◌≡◌, ℕ, zero, suc, ◌<◌, Bool, true, false, not, ◌&&◌, get_or, List, [], ◌∷◌, map, drop, length, refl, sym, subst, arith}
use Rattle.std.specs.List.{list_any}
use Rattle.std.proofs.lemmas.Bool.{and_parts, or_parts, not-true}
use Rattle.std.specs.List.Sorted.{IsPermutation}
use Rattle.std.proofs.lemmas.List.Sorted.{IsPermutation-refl}
use Rattle.std.specs.Str.{bytes_eq, is_utf8}
use Rattle.std.specs.Cmp.Lexicographic.{same_text}
use Rattle.wk_shelf.specs.declared.memory_shelf.MemoryFile.{MemoryFile}
use Rattle.std.specs.Prelude.{if◌then◌else◌}
use Rattle.wk_shelf.specs.Files.{StoredFile, names_in, all_differ}
use Rattle.wk_shelf.specs.MemoryFiles.{file_of, same_place, are_files}

not_both : (a b : Bool) → a ≡ true → (a && b) ≡ false → b ≡ false
not_both true b e h = h
not_both false b e h = cc

all_refused : (a b : Bool) → false ≡ b → false ≡ (a && b)
all_refused true b h = h
all_refused false b h = refl

-- two files of one folder differ in their names
other_name : (folder : List ℕ) (f g : StoredFile) → bytes_eq folder f.folder ≡ true → bytes_eq folder g.folder ≡ true → same_place f g ≡ false → bytes_eq f.name g.name ≡ false
other_name folder f g here there h =
    let one : folder ≡ f.folder = same_text folder f.folder (sym here) in
    let same : bytes_eq f.folder g.folder ≡ true = subst (λ t. bytes_eq t g.folder ≡ true) one there in
    not_both _ _ same h

unlisted_at : (folder : List ℕ) (f g : StoredFile) (gs : List StoredFile) (b : Bool) → bytes_eq folder g.folder ≡ b → bytes_eq folder f.folder ≡ true → same_place f g ≡ false → list_any (bytes_eq f.name) (names_in folder gs) ≡ false → list_any (bytes_eq f.name) (if b then g.name ∷ names_in folder gs else names_in folder gs) ≡ false
unlisted_at folder f g gs true e here h rest = rw (other_name folder f g here e h) rest
unlisted_at folder f g gs false e here h rest = rest

-- the name of a file that is none of those that follow isn't listed with them
unlisted : (folder : List ℕ) (f : StoredFile) (fs : List StoredFile) → bytes_eq folder f.folder ≡ true → list_any (same_place f) fs ≡ false → list_any (bytes_eq f.name) (names_in folder fs) ≡ false
unlisted folder f [] here h = refl
unlisted folder f (g ∷ gs) here h =
    let parts = or_parts (same_place f g) (list_any (same_place f) gs) h in
    unlisted_at folder f g gs (bytes_eq folder g.folder) refl here parts.0 (unlisted folder f gs here parts.1)

differ_at : (folder : List ℕ) (f : StoredFile) (fs : List StoredFile) (b : Bool) → bytes_eq folder f.folder ≡ b → list_any (same_place f) fs ≡ false → all_differ (names_in folder fs) ≡ true → all_differ (if b then f.name ∷ names_in folder fs else names_in folder fs) ≡ true
differ_at folder f fs true e h rest = rw (unlisted folder f fs e h) rest
differ_at folder f fs false e h rest = rest

-- the names of one folder differ
pub all_differ-names_in : (folder : List ℕ) (files : List StoredFile) → are_files files ≡ true → all_differ (names_in folder files) ≡ true
all_differ-names_in folder [] h = refl
all_differ-names_in folder (f ∷ fs) h =
    let parts = and_parts (is_utf8 f.name && not (list_any (same_place f) fs)) (are_files fs) h in
    let new = and_parts (is_utf8 f.name) (not (list_any (same_place f) fs)) parts.0 in
    differ_at folder f fs (bytes_eq folder f.folder) refl (not-true _ new.1) (all_differ-names_in folder fs parts.1)

-- the name of the file at a place is text
pub text_at : (i : ℕ) (f : MemoryFile) (files : List MemoryFile) → i < length files → are_files (map file_of files) ≡ true → is_utf8 (get_or files i f).name ≡ true
text_at i f [] low h = absurd (omega arith)
text_at zero f (g ∷ gs) low h = (and_parts (is_utf8 g.name) _ (and_parts _ (are_files (map file_of gs)) h).0).0
text_at (suc i) f (g ∷ gs) low h = text_at i f gs (omega arith) (and_parts _ (are_files (map file_of gs)) h).1

-- a file that is no text, or is one of those that follow, keeps them from being held
pub refused_at : (i : ℕ) (f : MemoryFile) (files : List MemoryFile) → i < length files → f ≡ get_or files i f → (is_utf8 f.name && not (list_any (same_place (file_of f)) (map file_of (drop (suc i) files)))) ≡ false → false ≡ are_files (map file_of files)
refused_at i f [] low same h = absurd (omega arith)
refused_at zero f (g ∷ gs) low same h =
    let P : MemoryFile → Type 0 = λ m. (is_utf8 m.name && not (list_any (same_place (file_of m)) (map file_of gs))) ≡ false in
    let first = subst P same h in
    rw first refl
refused_at (suc i) f (g ∷ gs) low same h = all_refused _ _ (refused_at i f gs (omega arith) same h)

-- names in the order of the files are the folder's, each once
pub lists_exactly : (folder : List ℕ) (files : List StoredFile) (names : List (List ℕ)) → names ≡ names_in folder files → are_files files ≡ true → IsPermutation names (names_in folder files) × (all_differ names ≡ true)
lists_exactly folder files names e h =
    let P : List (List ℕ) → Type 0 = λ ns. IsPermutation ns (names_in folder files) × (all_differ ns ≡ true) in
    subst P (sym e) (IsPermutation-refl (names_in folder files), all_differ-names_in folder files h)
