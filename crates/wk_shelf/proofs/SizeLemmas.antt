-- What was read of a file tells its fault, or the file.
use Rattle.std.proofs.Common.{◌≡◌, ℕ, ◌+◌, ◌-◌, ◌<◌, ◌≤◌, List, ◌++◌, take, length, min, refl, sym, ◌∙◌, ap, subst, arith}
use Rattle.std.specs.Prelude.{Option, Some, None, IfSome, MatchOption, codes}
use Rattle.std.proofs.lemmas.Bool.{lt-ltb, le-ltb}
use Rattle.std.proofs.lemmas.List.{length-take, take_all}
use Rattle.wk_shelf.specs.Files.{StoredFile, Reads, bytes_at}
use Rattle.wk_shelf.specs.Folder.{most_file_bytes, most_folder_bytes, File, file_at, size_of, size_fault_after, IsRead}

-- a fault that says this line, where it says one, is the fault that is due
pub says : {A : Type 0} (told : Option (List ℕ)) (never : Type 0) (line : List ℕ) (held : Option A) (Due : A → List ℕ → Type 0) → MatchOption told never (λ t. t ≡ line) → IfSome held (λ a. Due a line) → IfSome told (λ t. IfSome held (λ a. Due a t))
says None never line held Due h due = tt
says (Some t) never line held Due h due = subst (λ u. IfSome held (λ a. Due a u)) (sym h) due

too_long : (total : ℕ) (file : File) → most_file_bytes < size_of file → size_fault_after total file ≡ Some (file.name ++ codes ": too long")
too_long total file h = rw (lt-ltb most_file_bytes (size_of file) h) refl

too_many : (total : ℕ) (file : File) → size_of file ≤ most_file_bytes → most_folder_bytes < total + size_of file → size_fault_after total file ≡ Some (codes "too many bytes")
too_many total file h k = rw (le-ltb most_file_bytes (size_of file) h, lt-ltb most_folder_bytes (total + size_of file) k) refl

fits : (total : ℕ) (file : File) → size_of file ≤ most_file_bytes → total + size_of file ≤ most_folder_bytes → size_fault_after total file ≡ None
fits total file h k = rw (le-ltb most_file_bytes (size_of file) h, le-ltb most_folder_bytes (total + size_of file) k) refl

-- a file of which less was read than was asked was read whole
whole : (bytes held : List ℕ) → bytes ≡ take 2097153 held → length bytes ≤ most_file_bytes → bytes ≡ held
whole bytes held is h =
    let n : length bytes ≡ min 2097153 (length held) = ap length is ∙ length-take 2097153 held in
    is ∙ take_all 2097153 held (omega arith)

pub known_long : (held : Option (List StoredFile)) (folder name bytes : List ℕ) (total : ℕ) → Reads held folder name 2097153 bytes → most_file_bytes < length bytes → IfSome held (λ files. size_fault_after total (file_at folder files name) ≡ Some (name ++ codes ": too long"))
known_long None folder name bytes total is h = tt
known_long (Some files) folder name bytes total is h =
    let n : length bytes ≡ min 2097153 (length (bytes_at folder name files)) = ap length is ∙ length-take 2097153 (bytes_at folder name files) in
    too_long total (file_at folder files name) (omega arith)

pub known_many : (held : Option (List StoredFile)) (folder name bytes : List ℕ) (total : ℕ) → Reads held folder name 2097153 bytes → length bytes ≤ most_file_bytes → most_folder_bytes - total < length bytes → IfSome held (λ files. size_fault_after total (file_at folder files name) ≡ Some (codes "too many bytes"))
known_many None folder name bytes total is h k = tt
known_many (Some files) folder name bytes total is h k =
    let n : length bytes ≡ length (bytes_at folder name files) = ap length (whole bytes (bytes_at folder name files) is h) in
    too_many total (file_at folder files name) (omega arith) (omega arith)

pub known_read : (held : Option (List StoredFile)) (folder name bytes : List ℕ) (total : ℕ) → Reads held folder name 2097153 bytes → length bytes ≤ most_file_bytes → total + length bytes ≤ most_folder_bytes → IfSome held (λ files. IsRead total (file_at folder files name) bytes)
known_read None folder name bytes total is h k = tt
known_read (Some files) folder name bytes total is h k =
    let same = whole bytes (bytes_at folder name files) is h in
    let n : length bytes ≡ length (bytes_at folder name files) = ap length same in
    (same, fits total (file_at folder files name) (omega arith) (omega arith))
