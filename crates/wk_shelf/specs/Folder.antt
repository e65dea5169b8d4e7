-- A folder of files as the pages of a wiki.
use Rattle.std.specs.Prelude.{◌≡◌, ℕ, ◌+◌, ◌-◌, Bool, false, nat_lt, if◌then◌else◌, List, [], ◌∷◌, ◌++◌, map, filter, take, drop, length, sum_by, Option, Some, None, is_some, option_and_then, Result, Ok, Err, codes}
use Rattle.std.specs.List.{list_any, filter_map}
use Rattle.std.specs.Result.{result_ok}
use Rattle.std.specs.Str.{bytes_eq}
use Rattle.percent_encoding.specs.Percent.{percent_decode}
use Rattle.wk_base.specs.declared.title.Title.{Title}
use Rattle.wk_base.specs.declared.title.Namespace.TheVariants.{Main}
use Rattle.wk_base.specs.contracts.title.TitlePartialEq.TheImpl as titles
use Rattle.wk_base.specs.Titles.{title_of}
use Rattle.wk_shelf.specs.Files.{StoredFile, names_in, bytes_at}
use Rattle.wk_shelf.specs.Order.{in_byte_order}
use Rattle.wk_shelf.specs.declared.folder.FolderPage.{FolderPage}

-- a file of the folder
pub record File : Type 0 where
  pub name : List ℕ
  pub bytes : List ℕ

abbrev pub file_at : List ℕ → List StoredFile → List ℕ → File
file_at folder files name = record { name = name; bytes = bytes_at folder name files }

-- the folder's files in byte order of their names
abbrev pub files_of : List ℕ → List StoredFile → List File
files_of folder files = map (file_at folder files) (in_byte_order (names_in folder files))

-- ---- names

abbrev pub option_or : {A : Type 0} → Option A → Option A → Option A
option_or None other = other
option_or (Some x) other = Some x

-- what stands before a suffix
abbrev pub without : List ℕ → List ℕ → Option (List ℕ)
without suffix name =
    let n = length name - length suffix in
    if bytes_eq (drop n name) suffix then Some (take n name) else None

-- A file whose name ends in one of the two suffixes is a page.
abbrev pub stem_of : List ℕ → Option (List ℕ)
stem_of name = option_or (without (codes ".wiki") name) (without (codes ".lua") name)

abbrev pub is_page : List ℕ → Bool
is_page name = is_some (stem_of name)

-- the title that a file's name stands for, its percent escapes decoded
abbrev pub title_of_file : List ℕ → Option Title
title_of_file name = option_and_then (λ stem. result_ok (title_of (percent_decode stem) Main)) (stem_of name)

-- ---- what a folder may hold: how many pages, and how many bytes in a file and in all of them

abbrev pub most_pages : ℕ
most_pages = 100000

abbrev pub most_file_bytes : ℕ
most_file_bytes = 2097152

abbrev pub most_folder_bytes : ℕ
most_folder_bytes = 67108864

-- ---- source faults

-- the first fault that one of them has, each tested with those before it
abbrev pub first_fault : {A : Type 0} → (List A → A → Option (List ℕ)) → List A → List A → Option (List ℕ)
first_fault fault earlier [] = None
first_fault fault earlier (x ∷ xs) = option_or (fault earlier x) (first_fault fault (earlier ++ x ∷ []) xs)

abbrev pub is_title : Title → Option Title → Bool
is_title title None = false
is_title title (Some other) = titles.ghosts.eq title other

-- a name that has no title, or whose title an earlier one has
abbrev pub title_fault_of : List (List ℕ) → List ℕ → Option Title → Option (List ℕ)
title_fault_of earlier name None = Some (name ++ codes ": not a title")
title_fault_of earlier name (Some title) =
    if list_any (λ other. is_title title (title_of_file other)) earlier then Some (name ++ codes ": title is taken") else None

abbrev pub title_fault : List (List ℕ) → List ℕ → Option (List ℕ)
title_fault earlier name = title_fault_of earlier name (title_of_file name)

abbrev pub size_of : File → ℕ
size_of file = length file.bytes

-- a file that is too long, or one with which all so far have too many bytes
abbrev pub size_fault_after : ℕ → File → Option (List ℕ)
size_fault_after total file =
    if nat_lt most_file_bytes (size_of file) then Some (file.name ++ codes ": too long")
    else if nat_lt most_folder_bytes (total + size_of file) then Some (codes "too many bytes")
    else None

abbrev pub size_fault : List File → File → Option (List ℕ)
size_fault earlier file = size_fault_after (sum_by size_of earlier) file

-- ---- the wiki

abbrev pub page_titled : List ℕ → Option Title → Option FolderPage
page_titled bytes None = None
page_titled bytes (Some title) = Some (record { title = title; bytes = bytes })

abbrev pub page_of : File → Option FolderPage
page_of file = page_titled file.bytes (title_of_file file.name)

abbrev pub unless_fault : Option (List ℕ) → Result (List FolderPage) (List ℕ) → Result (List FolderPage) (List ℕ)
unless_fault None pages = pages
unless_fault (Some line) pages = Err line

abbrev pub pages_of : List File → Result (List FolderPage) (List ℕ)
pages_of files =
    if nat_lt most_pages (length files) then Err (codes "too many files")
    else unless_fault (first_fault title_fault [] (map (λ file. file.name) files))
    (unless_fault (first_fault size_fault [] files) (Ok (filter_map page_of files)))

-- the pages of a folder's files, or the line of its first fault
abbrev pub wiki_of : List File → Result (List FolderPage) (List ℕ)
wiki_of files = pages_of (filter (λ file. is_page file.name) files)

-- ---- what reading gives

-- the bytes of a file that has no fault where all before it have this total
abbrev pub IsRead : ℕ → File → List ℕ → Type 0
IsRead total file bytes = (bytes ≡ file.bytes) × (size_fault_after total file ≡ None)

-- the pages of files that have no fault
abbrev pub AreRead : List File → List FolderPage → Type 0
AreRead files pages = (pages ≡ filter_map page_of files) × (first_fault size_fault [] files ≡ None)
