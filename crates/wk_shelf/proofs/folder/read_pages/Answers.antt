use Rattle.std.proofs.Common.{◌≡◌, ◌+◌, ◌≤◌, [], List, ℕ, rules, ap, sym, subst, ◌∙◌, length, string_bytes, None, Some, IfSome}
use Rattle.std.specs.Prelude.{Option}
use Rattle.wk_shelf.specs.Files.{StoredFile}
use Rattle.wk_shelf.specs.Folder.{most_folder_bytes, title_of_file, first_fault, size_fault, size_fault_after, file_at, IsRead}
use Rattle.wk_shelf.specs.FolderFaults.{source_line}
use Rattle.wk_shelf.specs.declared.folder.FolderFault.{FolderFault}
use Rattle.wk_shelf.specs.declared.folder.FolderPage.{FolderPage}
use Rattle.wk_shelf.proofs.ReadLemmas.{one_fault, one_more, is_titled, handed_on, named_files, ReadSoFar}
use Rattle.wk_shelf.proofs.folder.read_pages.Goals as goal

pub returns-in_err-bytes-clause-fault : goal.returns-in_err-bytes-clause-fault
returns-in_err-bytes-clause-fault g c =
    let files = g.S.Shelf.files c.args.shelf.now in
    let Due = λ (fault : FolderFault). IfSome (source_line fault) (λ line. IfSome files (λ held. first_fault size_fault [] (named_files c.args.folder.now held c.args.names.now) ≡ Some line)) in
    let Here = λ (told : Option (List StoredFile)) (name : List ℕ). IfSome (source_line c.in_err-bytes.field-0.0) (λ line. IfSome told (λ held. size_fault_after c.loop-name.total (file_at c.args.folder.now held name) ≡ Some line)) in
    let first : Here (g.S.Shelf.files c.loop-name.shelf) c.as_str.result.now = c.in_err-bytes.ensures.fault in
    let second : Here files c.as_str.result.now = subst (λ told. Here told c.as_str.result.now) c.loop-name.invariant.same first in
    let here : Here files (string_bytes c.name-item.result) = subst (Here files) c.as_str.ensures.value second in
    handed_on c.from_residual.result c.in_err-bytes.field-0.0 Due c.from_residual.ensures.1
    (one_fault files (source_line c.in_err-bytes.field-0.0) c.args.folder.now c.args.names.now c.loop-name.name-index c.loop-name.pages c.loop-name.total c.name-item.result c.loop-name-test.true c.name-item.is c.loop-name.invariant.known here)

pub unreachable-requires : goal.unreachable-requires
unreachable-requires g c =
    let none : title_of_file (string_bytes c.name-item.result) ≡ None = ap title_of_file (sym c.as_bytes.ensures.value) ∙ sym c.in_ok-title.ensures ∙ c.in_default.is in
    is_titled c.args.names.now c.loop-name.name-index c.name-item.result c.requires c.loop-name-test.true c.name-item.is none

pub loop-name-preserved : goal.loop-name-preserved
loop-name-preserved g c =
    let files = g.S.Shelf.files c.args.shelf.now in
    let n : length c.as_slice.result.now ≡ length c.in_ok-bytes.bytes = ap length c.as_slice.ensures in
    let some : title_of_file (string_bytes c.name-item.result) ≡ Some c.in-Some.title = ap title_of_file (sym c.as_bytes.ensures.value) ∙ sym c.in_ok-title.ensures ∙ c.in-Some.is in
    let Read = λ (told : Option (List StoredFile)) (name : List ℕ). IfSome told (λ held. IsRead c.loop-name.total (file_at c.args.folder.now held name) c.in_ok-bytes.bytes) in
    let first : Read (g.S.Shelf.files c.loop-name.shelf) c.as_str.result.now = c.in_ok-bytes.ensures.bytes in
    let second : Read files c.as_str.result.now = subst (λ told. Read told c.as_str.result.now) c.loop-name.invariant.same first in
    let read : Read files (string_bytes c.name-item.result) = subst (Read files) c.as_str.ensures.value second in
    let more = one_more files c.args.folder.now c.args.names.now c.loop-name.name-index c.loop-name.pages c.loop-name.total c.name-item.result c.in_ok-bytes.bytes c.in-Some.title c.loop-name-test.true c.name-item.is some c.loop-name.invariant.known read in
    let Known = λ (pages : List FolderPage) (total : ℕ). IfSome files (λ held. ReadSoFar (named_files c.args.folder.now held c.args.names.now) (c.loop-name.name-index + 1) pages total) in
    let pushed : Known c.push.new.self (c.loop-name.total + length c.in_ok-bytes.bytes) = subst (λ pages. Known pages (c.loop-name.total + length c.in_ok-bytes.bytes)) (sym c.in_ok-push.ensures.ok) more in
    let fits : c.loop-name.total + length c.in_ok-bytes.bytes ≤ most_folder_bytes = c.in_ok-bytes.ensures.fits in
    record {
      same = search rules;
      later = search rules;
      small = subst (λ k. c.loop-name.total + k ≤ most_folder_bytes) (sym n) fits;
      known = subst (λ k. Known c.push.new.self (c.loop-name.total + k)) (sym n) pushed;
    }
