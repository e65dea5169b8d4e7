-- The loops over the names of a folder, in steps.
use Rattle.std.proofs.Common.{◌≡◌, ℕ, ◌+◌, ◌<◌, ◌≤◌, Bool, true, false, List, [], ◌∷◌, ◌++◌, map, take, drop, length, get_or, sum_by, refl, sym, ◌∙◌, ap, subst, arith, string_bytes, String, Global}
use Rattle.std.specs.Prelude.{Option, Some, None, IfSome, MatchOption, Result, Ok, Err, IfErr, IsErrAnd, if◌then◌else◌, not, codes}
use Rattle.std.specs.List.{list_any, filter_map, cons_option}
use Rattle.std.proofs.Math.ListN.{get_or-map}
use Rattle.std.proofs.lemmas.List.{take_more, take_all, drop_all, length-map}
use Rattle.std.proofs.lemmas.List.Elements.{filter_map-append}
use Rattle.std.proofs.lemmas.List.Sums.{sum_by_more}
use Rattle.wk_base.specs.declared.title.Title.{Title}
use Rattle.wk_base.specs.contracts.title.TitlePartialEq.TheImpl as titles
use Rattle.wk_shelf.specs.Files.{StoredFile}
use Rattle.wk_shelf.specs.Folder.{File, file_at, first_fault, title_fault, title_of_file, is_title, size_fault, size_fault_after, size_of, page_of, page_titled, IsRead, AreRead}
use Rattle.wk_shelf.specs.declared.folder.FolderPage.{FolderPage}
use Rattle.wk_shelf.specs.declared.folder.FolderFault.{FolderFault}
use Rattle.wk_shelf.proofs.FolderLemmas.{passes, stops, is_taken, has_title}

-- ---- names

pub name_at : (names : List (String Global)) (i : ℕ) (name : String Global) → name ≡ get_or names i name → string_bytes name ≡ get_or (map string_bytes names) i (string_bytes name)
name_at names i name is = ap string_bytes is ∙ sym (get_or-map string_bytes names i name)

-- the titles of the names so far, none of which has a fault
pub record Titled (names : List (List ℕ)) (i : ℕ) (keys : List Title) : Type 0 where
  pub keys_are : keys ≡ filter_map title_of_file (take i names)
  pub rest : first_fault title_fault [] names ≡ first_fault title_fault (take i names) (drop i names)

pub untitled_fault : (names : List (List ℕ)) (i : ℕ) (keys : List Title) (name : List ℕ) → Titled names i keys → i < length names → name ≡ get_or names i name → title_of_file name ≡ None → first_fault title_fault [] names ≡ Some (name ++ codes ": not a title")
untitled_fault names i keys name h low is none =
    let fault : title_fault (take i names) name ≡ Some (name ++ codes ": not a title") = rw none refl in
    h.rest ∙ stops title_fault names i name _ low is fault

earlier_one : (names : List (List ℕ)) (i : ℕ) (keys : List Title) (title : Title) (b : Bool) → Titled names i keys → list_any (titles.ghosts.eq title) keys ≡ b → list_any (λ other. is_title title (title_of_file other)) (take i names) ≡ b
earlier_one names i keys title b h e = is_taken title (take i names) ∙ ap (list_any (titles.ghosts.eq title)) (sym h.keys_are) ∙ e

pub taken_fault : (names : List (List ℕ)) (i : ℕ) (keys : List Title) (name : List ℕ) (title : Title) → Titled names i keys → i < length names → name ≡ get_or names i name → title_of_file name ≡ Some title → list_any (titles.ghosts.eq title) keys ≡ true → first_fault title_fault [] names ≡ Some (name ++ codes ": title is taken")
taken_fault names i keys name title h low is some taken =
    let earlier = earlier_one names i keys title true h taken in
    let fault : title_fault (take i names) name ≡ Some (name ++ codes ": title is taken") = rw (some, earlier) refl in
    h.rest ∙ stops title_fault names i name _ low is fault

-- what `not` was told
pub was_true : (b c : Bool) → c ≡ not b → c ≡ false → b ≡ true
was_true true c e h = refl
was_true false c e h = absurd cc

pub was_false : (b c : Bool) → c ≡ not b → c ≡ true → b ≡ false
was_false true c e h = absurd cc
was_false false c e h = refl

pub Titled-more : (names : List (List ℕ)) (i : ℕ) (keys keys' : List Title) (name : List ℕ) (title : Title) → Titled names i keys → i < length names → name ≡ get_or names i name → title_of_file name ≡ Some title → list_any (titles.ghosts.eq title) keys ≡ false → keys' ≡ (if list_any (titles.ghosts.eq title) keys then keys else keys ++ title ∷ []) → Titled names (i + 1) keys'
Titled-more names i keys keys' name title h low is some new added =
    let earlier = earlier_one names i keys title false h new in
    let none : title_fault (take i names) name ≡ None = rw (some, earlier) refl in
    let more : take (i + 1) names ≡ take i names ++ name ∷ [] = take_more names i name low ∙ ap (λ n. take i names ++ n ∷ []) (sym is) in
    record {
      keys_are = added ∙ rw new refl ∙ ap (λ ks. ks ++ title ∷ []) h.keys_are ∙ ap (λ o. filter_map title_of_file (take i names) ++ cons_option o []) (sym some) ∙ sym (filter_map-append title_of_file (take i names) (name ∷ [])) ∙ ap (filter_map title_of_file) (sym more);
      rest = h.rest ∙ passes title_fault names i name low is none;
    }

-- ---- files

-- the files so far were read, none of which has a fault
pub record ReadSoFar (files : List File) (i : ℕ) (pages : List FolderPage) (total : ℕ) : Type 0 where
  pub pages_are : pages ≡ filter_map page_of (take i files)
  pub total_is : total ≡ sum_by size_of (take i files)
  pub rest : first_fault size_fault [] files ≡ first_fault size_fault (take i files) (drop i files)

read_fault : (files : List File) (i : ℕ) (pages : List FolderPage) (total : ℕ) (file : File) (line : List ℕ) → ReadSoFar files i pages total → i < length files → file ≡ get_or files i file → size_fault_after total file ≡ Some line → first_fault size_fault [] files ≡ Some line
read_fault files i pages total file line h low is fault =
    let here : size_fault (take i files) file ≡ Some line = ap (λ n. size_fault_after n file) (sym h.total_is) ∙ fault in
    h.rest ∙ stops size_fault files i file line low is here

page_is : (file : File) (bytes : List ℕ) (title : Title) → bytes ≡ file.bytes → title_of_file file.name ≡ Some title → page_of file ≡ Some (record { title = title; bytes = bytes })
page_is file bytes title same some = ap (page_titled file.bytes) some ∙ ap (λ bs. page_titled bs (Some title)) (sym same)

read_more : (files : List File) (i : ℕ) (pages : List FolderPage) (total : ℕ) (file : File) (bytes : List ℕ) (title : Title) → ReadSoFar files i pages total → i < length files → file ≡ get_or files i file → IsRead total file bytes → title_of_file file.name ≡ Some title → ReadSoFar files (i + 1) (pages ++ record { title = title; bytes = bytes } ∷ []) (total + length bytes)
read_more files i pages total file bytes title h low is read some =
    let none : size_fault (take i files) file ≡ None = ap (λ n. size_fault_after n file) (sym h.total_is) ∙ read.1 in
    let more : take (i + 1) files ≡ take i files ++ file ∷ [] = take_more files i file low ∙ ap (λ n. take i files ++ n ∷ []) (sym is) in
    let page : cons_option (page_of file) [] ≡ record { title = title; bytes = bytes } ∷ [] = ap (λ o. cons_option o []) (page_is file bytes title read.0 some) in
    record {
      pages_are = ap (λ ps. ps ++ record { title = title; bytes = bytes } ∷ []) h.pages_are ∙ ap (λ ps. filter_map page_of (take i files) ++ ps) (sym page) ∙ sym (filter_map-append page_of (take i files) (file ∷ [])) ∙ ap (filter_map page_of) (sym more);
      total_is = ap (λ n. n + length bytes) h.total_is ∙ ap (λ bs. sum_by size_of (take i files) + length bs) read.0 ∙ ap (λ f. sum_by size_of (take i files) + size_of f) is ∙ sym (sum_by_more size_of files i file low);
      rest = h.rest ∙ passes size_fault files i file low is none;
    }

-- ---- the same where the shelf may not tell its files

-- the files of these names
abbrev pub named_files : List ℕ → List StoredFile → List (String Global) → List File
named_files folder held names = map (file_at folder held) (map string_bytes names)

file_is : (folder : List ℕ) (held : List StoredFile) (names : List (String Global)) (i : ℕ) (name : String Global) → name ≡ get_or names i name → file_at folder held (string_bytes name) ≡ get_or (named_files folder held names) i (file_at folder held (string_bytes name))
file_is folder held names i name is = ap (file_at folder held) (name_at names i name is) ∙ sym (get_or-map (file_at folder held) (map string_bytes names) i (string_bytes name))

-- the fault of the file that is read is the first
pub one_fault : (told : Option (List StoredFile)) (line : Option (List ℕ)) (folder : List ℕ) (names : List (String Global)) (i : ℕ) (pages : List FolderPage) (total : ℕ) (name : String Global) → i < length names → name ≡ get_or names i name → IfSome told (λ held. ReadSoFar (named_files folder held names) i pages total) → IfSome line (λ l. IfSome told (λ held. size_fault_after total (file_at folder held (string_bytes name)) ≡ Some l)) → IfSome line (λ l. IfSome told (λ held. first_fault size_fault [] (named_files folder held names) ≡ Some l))
one_fault told None folder names i pages total name low is h fault = tt
one_fault None (Some l) folder names i pages total name low is h fault = tt
one_fault (Some held) (Some l) folder names i pages total name low is h fault =
    read_fault (named_files folder held names) i pages total _ l h (omega (arith, length-map (map string_bytes names) (file_at folder held), length-map names (string_bytes {Z = Global}))) (file_is folder held names i name is) fault

-- one more file was read
pub one_more : (told : Option (List StoredFile)) (folder : List ℕ) (names : List (String Global)) (i : ℕ) (pages : List FolderPage) (total : ℕ) (name : String Global) (bytes : List ℕ) (title : Title) → i < length names → name ≡ get_or names i name → title_of_file (string_bytes name) ≡ Some title → IfSome told (λ held. ReadSoFar (named_files folder held names) i pages total) → IfSome told (λ held. IsRead total (file_at folder held (string_bytes name)) bytes) → IfSome told (λ held. ReadSoFar (named_files folder held names) (i + 1) (pages ++ record { title = title; bytes = bytes } ∷ []) (total + length bytes))
one_more None folder names i pages total name bytes title low is some h read = tt
one_more (Some held) folder names i pages total name bytes title low is some h read =
    read_more (named_files folder held names) i pages total _ bytes title h (omega (arith, length-map (map string_bytes names) (file_at folder held), length-map names (string_bytes {Z = Global}))) (file_is folder held names i name is) read some

all_of : (files : List File) (i : ℕ) (pages : List FolderPage) (total : ℕ) → length files ≤ i → ReadSoFar files i pages total → AreRead files pages
all_of files i pages total past h =
    let whole : take i files ≡ files = take_all i files past in
    let none : drop i files ≡ [] = drop_all i files past in
    (h.pages_are ∙ ap (filter_map page_of) whole, h.rest ∙ ap (first_fault size_fault (take i files)) none)

-- all were read
pub all_read : (told : Option (List StoredFile)) (folder : List ℕ) (names : List (String Global)) (i : ℕ) (pages : List FolderPage) (total : ℕ) → length names ≤ i → IfSome told (λ held. ReadSoFar (named_files folder held names) i pages total) → IfSome told (λ held. AreRead (named_files folder held names) pages)
all_read None folder names i pages total past h = tt
all_read (Some held) folder names i pages total past h =
    all_of (named_files folder held names) i pages total (omega (arith, length-map (map string_bytes names) (file_at folder held), length-map names (string_bytes {Z = Global}))) h

-- a name of those without a fault has a title
pub is_titled : (names : List (String Global)) (i : ℕ) (name : String Global) → first_fault title_fault [] (map string_bytes names) ≡ None → i < length names → name ≡ get_or names i name → title_of_file (string_bytes name) ≡ None → ⊥
is_titled names i name h low is none =
    has_title [] (map string_bytes names) i (string_bytes name) h (omega (arith, length-map names (string_bytes {Z = Global}))) (ap title_of_file (sym (name_at names i name is)) ∙ none)

-- a fault that says this line, where it says one, says the one that is due
pub says_fault : (told : Option (List ℕ)) (never : Type 0) (line : List ℕ) (due : Option (List ℕ)) → MatchOption told never (λ t. t ≡ line) → due ≡ Some line → MatchOption told never (λ t. due ≡ Some t)
says_fault None never line due h e = h
says_fault (Some t) never line due h e = e ∙ ap (λ u. Some u) (sym h)

-- what is said of a fault holds of the same fault handed on
pub handed_on : {T : Type 0} (result : Result T FolderFault) (fault : FolderFault) (P : FolderFault → Type 0) → IsErrAnd result (λ f. f ≡ fault) → P fault → IfErr result P
handed_on (Ok x) fault P h p = tt
handed_on (Err f) fault P h p = subst P (sym h) p
