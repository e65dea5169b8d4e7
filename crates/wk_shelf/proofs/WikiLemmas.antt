-- From the names of a folder's pages to its wiki.
use Rattle.std.proofs.Common.{◌≡◌, ℕ, ◌<◌, ◌≤◌, Bool, true, false, cond, List, [], ◌∷◌, map, filter, length, refl, sym, ◌∙◌, ap, arith, string_bytes, String, Global}
use Rattle.std.specs.Prelude.{Option, Some, None, IfSome, MatchOption, Result, Ok, Err, IfOk, IfErr, codes}
use Rattle.std.specs.List.{filter_map}
use Rattle.std.proofs.lemmas.Bool.{lt-ltb, le-ltb}
use Rattle.std.proofs.lemmas.List.{length-map}
use Rattle.wk_shelf.specs.Files.{StoredFile, names_in}
use Rattle.wk_shelf.specs.Order.{in_byte_order}
use Rattle.wk_shelf.specs.Folder.{most_pages, File, file_at, files_of, is_page, first_fault, title_fault, size_fault, page_of, pages_of, wiki_of, unless_fault, AreRead}
use Rattle.wk_shelf.specs.FolderFaults.{source_line}
use Rattle.wk_shelf.specs.declared.folder.FolderFault.{FolderFault}
use Rattle.wk_shelf.specs.declared.folder.FolderPage.{FolderPage}

one_more_passes : {X Y : Type 0} (g : X → Y) (b : Bool) (x : X) (ys : List Y) (xs : List X) → ys ≡ map g xs → cond b (g x ∷ ys) ys ≡ map g (cond b (x ∷ xs) xs)
one_more_passes g true x ys xs e = ap (λ rest. g x ∷ rest) e
one_more_passes g false x ys xs e = e

-- a filter goes through a map
filter_of_map : {X Y : Type 0} (g : X → Y) (p : Y → Bool) (xs : List X) → filter p (map g xs) ≡ map g (filter (λ x. p (g x)) xs)
filter_of_map g p [] = refl
filter_of_map g p (x ∷ xs) = one_more_passes g (p (g x)) x _ _ (filter_of_map g p xs)

-- the names are those of the folder's pages, in byte order
abbrev pub AreKept : Option (List StoredFile) → List ℕ → List (List ℕ) → Type 0
AreKept told folder names = IfSome told (λ held. names ≡ filter is_page (in_byte_order (names_in folder held)))

pub kept_names : (told : Option (List StoredFile)) (folder : List ℕ) (before after : List (String Global)) → IfSome told (λ held. map string_bytes before ≡ in_byte_order (names_in folder held)) → after ≡ filter (λ name. is_page (string_bytes name)) before → AreKept told folder (map string_bytes after)
kept_names None folder before after told kept = tt
kept_names (Some held) folder before after told kept = ap (map string_bytes) kept ∙ sym (filter_of_map string_bytes is_page before) ∙ ap (filter is_page) told

-- the folder's pages are the files of these names
wiki_is : (held : List StoredFile) (folder : List ℕ) (names : List (List ℕ)) → names ≡ filter is_page (in_byte_order (names_in folder held)) → wiki_of (files_of folder held) ≡ pages_of (map (file_at folder held) names)
wiki_is held folder names kept =
    ap pages_of (filter_of_map (file_at folder held) (λ file. is_page file.name) (in_byte_order (names_in folder held)) ∙ ap (map (file_at folder held)) (sym kept))

names_are : (held : List StoredFile) (folder : List ℕ) (names : List (List ℕ)) → map (λ (file : File). file.name) (map (file_at folder held) names) ≡ names
names_are held folder [] = refl
names_are held folder (n ∷ ns) = ap (λ rest. n ∷ rest) (names_are held folder ns)

pub too_many_files : (told : Option (List StoredFile)) (folder : List ℕ) (names : List (List ℕ)) → AreKept told folder names → most_pages < length names → IfSome told (λ held. wiki_of (files_of folder held) ≡ Err (codes "too many files"))
too_many_files None folder names kept many = tt
too_many_files (Some held) folder names kept many =
    let more : most_pages < length (map (file_at folder held) names) = omega (arith, length-map names (file_at folder held)) in
    wiki_is held folder names kept ∙ rw (lt-ltb most_pages (length (map (file_at folder held) names)) more) refl

-- where the number of files is no fault
few_files : (held : List StoredFile) (folder : List ℕ) (names : List (List ℕ)) → names ≡ filter is_page (in_byte_order (names_in folder held)) → length names ≤ most_pages → wiki_of (files_of folder held) ≡ unless_fault (first_fault title_fault [] names) (unless_fault (first_fault size_fault [] (map (file_at folder held) names)) (Ok (filter_map page_of (map (file_at folder held) names))))
few_files held folder names kept few =
    let fits : length (map (file_at folder held) names) ≤ most_pages = omega (arith, length-map names (file_at folder held)) in
    wiki_is held folder names kept ∙ rw (le-ltb most_pages (length (map (file_at folder held) names)) fits, names_are held folder names) refl

pub title_fault_is : (told : Option (List StoredFile)) (folder : List ℕ) (names : List (List ℕ)) (line : List ℕ) → AreKept told folder names → length names ≤ most_pages → first_fault title_fault [] names ≡ Some line → IfSome told (λ held. wiki_of (files_of folder held) ≡ Err line)
title_fault_is None folder names line kept few fault = tt
title_fault_is (Some held) folder names line kept few fault = few_files held folder names kept few ∙ rw fault refl

size_fault_is : (held : List StoredFile) (folder : List ℕ) (names : List (List ℕ)) (line : List ℕ) → names ≡ filter is_page (in_byte_order (names_in folder held)) → length names ≤ most_pages → first_fault title_fault [] names ≡ None → first_fault size_fault [] (map (file_at folder held) names) ≡ Some line → wiki_of (files_of folder held) ≡ Err line
size_fault_is held folder names line kept few titled fault = few_files held folder names kept few ∙ rw (titled, fault) refl

pages_are : (held : List StoredFile) (folder : List ℕ) (names : List (List ℕ)) (pages : List FolderPage) → names ≡ filter is_page (in_byte_order (names_in folder held)) → length names ≤ most_pages → first_fault title_fault [] names ≡ None → AreRead (map (file_at folder held) names) pages → wiki_of (files_of folder held) ≡ Ok pages
pages_are held folder names pages kept few titled read = few_files held folder names kept few ∙ rw (titled, read.1) (ap (λ ps. Ok ps) (sym read.0))

pub all_pages : (result : Result (List FolderPage) FolderFault) (told : Option (List StoredFile)) (folder : List ℕ) (names : List (List ℕ)) → AreKept told folder names → length names ≤ most_pages → first_fault title_fault [] names ≡ None → IfOk result (λ pages. IfSome told (λ held. AreRead (map (file_at folder held) names) pages)) → IfOk result (λ pages. IfSome told (λ held. wiki_of (files_of folder held) ≡ Ok pages))
all_pages (Err e) told folder names kept few titled read = tt
all_pages (Ok pages) None folder names kept few titled read = tt
all_pages (Ok pages) (Some held) folder names kept few titled read = pages_are held folder names pages kept few titled read

size_fault_told : (line : Option (List ℕ)) (told : Option (List StoredFile)) (folder : List ℕ) (names : List (List ℕ)) → AreKept told folder names → length names ≤ most_pages → first_fault title_fault [] names ≡ None → IfSome line (λ l. IfSome told (λ held. first_fault size_fault [] (map (file_at folder held) names) ≡ Some l)) → IfSome line (λ l. IfSome told (λ held. wiki_of (files_of folder held) ≡ Err l))
size_fault_told None told folder names kept few titled fault = tt
size_fault_told (Some l) None folder names kept few titled fault = tt
size_fault_told (Some l) (Some held) folder names kept few titled fault = size_fault_is held folder names l kept few titled fault

pub file_fault : (result : Result (List FolderPage) FolderFault) (told : Option (List StoredFile)) (folder : List ℕ) (names : List (List ℕ)) → AreKept told folder names → length names ≤ most_pages → first_fault title_fault [] names ≡ None → IfErr result (λ fault. IfSome (source_line fault) (λ line. IfSome told (λ held. first_fault size_fault [] (map (file_at folder held) names) ≡ Some line))) → IfErr result (λ fault. IfSome (source_line fault) (λ line. IfSome told (λ held. wiki_of (files_of folder held) ≡ Err line)))
file_fault (Ok pages) told folder names kept few titled fault = tt
file_fault (Err f) told folder names kept few titled fault = size_fault_told (source_line f) told folder names kept few titled fault

-- a fault of a title, where it says one, is the wiki's
pub name_fault : (line : Option (List ℕ)) (never : Type 0) (told : Option (List StoredFile)) (folder : List ℕ) (names : List (List ℕ)) → AreKept told folder names → length names ≤ most_pages → MatchOption line never (λ l. first_fault title_fault [] names ≡ Some l) → IfSome line (λ l. IfSome told (λ held. wiki_of (files_of folder held) ≡ Err l))
name_fault None never told folder names kept few fault = tt
name_fault (Some l) never told folder names kept few fault = title_fault_is told folder names l kept few fault
