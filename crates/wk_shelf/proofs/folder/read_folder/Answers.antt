use Rattle.std.proofs.Common.{◌≡◌, [], List, map, length, string_bytes, arith, ◌∙◌, subst, Some, Err, IfSome, IfOk, IfErr}
use Rattle.std.specs.Prelude.{Option, codes}
use Rattle.std.proofs.lemmas.List.{length-map}
use Rattle.wk_shelf.specs.Files.{StoredFile}
use Rattle.wk_shelf.specs.Folder.{wiki_of, files_of, first_fault, size_fault, file_at, AreRead}
use Rattle.wk_shelf.specs.FolderFaults.{source_line}
use Rattle.wk_shelf.specs.declared.folder.FolderFault.TheVariants.{NoMemory}
use Rattle.wk_shelf.proofs.ReadLemmas.{handed_on}
use Rattle.wk_shelf.proofs.SizeLemmas.{says}
use Rattle.wk_shelf.proofs.WikiLemmas.{AreKept, kept_names, too_many_files, name_fault, all_pages, file_fault}
use Rattle.wk_shelf.proofs.folder.read_folder.Goals as goal

pub returns-then-pages-gt-MOST_PAGES-clause-fault : goal.returns-then-pages-gt-MOST_PAGES-clause-fault
returns-then-pages-gt-MOST_PAGES-clause-fault g c =
    let told = g.S.Shelf.files c.args.shelf.now in
    let items = c.as_slice-pages.result.now in
    let names = map string_bytes items in
    let kept : AreKept told c.args.folder.now names = kept_names told c.args.folder.now c.in_ok-names.names.items items c.in_ok-names.ensures.names (c.as_slice-pages.ensures.value ∙ c.keep_pages.ensures) in
    let n : length names ≡ length items = length-map items string_bytes in
    says (source_line c.fault_line.result) (c.fault_line.result ≡ NoMemory) (codes "too many files") told (λ held line. wiki_of (files_of c.args.folder.now held) ≡ Err line)
    c.fault_line.ensures (too_many_files told c.args.folder.now names kept (omega arith))

pub returns-in_err-check_titles-clause-fault : goal.returns-in_err-check_titles-clause-fault
returns-in_err-check_titles-clause-fault g c =
    let told = g.S.Shelf.files c.args.shelf.now in
    let items = c.as_slice-pages.result.now in
    let names = map string_bytes items in
    let kept : AreKept told c.args.folder.now names = kept_names told c.args.folder.now c.in_ok-names.names.items items c.in_ok-names.ensures.names (c.as_slice-pages.ensures.value ∙ c.keep_pages.ensures) in
    let n : length names ≡ length items = length-map items string_bytes in
    let fault = c.in_err-check_titles.field-0.0 in
    handed_on c.from_residual-in_err-check_titles.result fault (λ f. IfSome (source_line f) (λ line. IfSome told (λ held. wiki_of (files_of c.args.folder.now held) ≡ Err line))) c.from_residual-in_err-check_titles.ensures.1
    (name_fault (source_line fault) (fault ≡ NoMemory) told c.args.folder.now names kept (omega arith) c.in_err-check_titles.ensures.fault)

pub returns-clause-pages : goal.returns-clause-pages
returns-clause-pages g c =
    let told = g.S.Shelf.files c.args.shelf.now in
    let items = c.as_slice-pages.result.now in
    let names = map string_bytes items in
    let kept : AreKept told c.args.folder.now names = kept_names told c.args.folder.now c.in_ok-names.names.items items c.in_ok-names.ensures.names (c.as_slice-pages.ensures.value ∙ c.keep_pages.ensures) in
    let n : length names ≡ length items = length-map items string_bytes in
    let Read = λ (files : Option (List StoredFile)). IfOk c.read_pages.result (λ pages. IfSome files (λ held. AreRead (map (file_at c.args.folder.now held) names) pages)) in
    let read : Read (g.S.Shelf.files c.sorted_names.new.shelf) = c.read_pages.ensures.pages in
    all_pages c.read_pages.result told c.args.folder.now names kept (omega arith) c.in_ok-check_titles.ensures.ok (subst Read c.in_ok-names.ensures.same read)

pub returns-clause-fault : goal.returns-clause-fault
returns-clause-fault g c =
    let told = g.S.Shelf.files c.args.shelf.now in
    let items = c.as_slice-pages.result.now in
    let names = map string_bytes items in
    let kept : AreKept told c.args.folder.now names = kept_names told c.args.folder.now c.in_ok-names.names.items items c.in_ok-names.ensures.names (c.as_slice-pages.ensures.value ∙ c.keep_pages.ensures) in
    let n : length names ≡ length items = length-map items string_bytes in
    let Said = λ (files : Option (List StoredFile)). IfErr c.read_pages.result (λ fault. IfSome (source_line fault) (λ line. IfSome files (λ held. first_fault size_fault [] (map (file_at c.args.folder.now held) names) ≡ Some line))) in
    let said : Said (g.S.Shelf.files c.sorted_names.new.shelf) = c.read_pages.ensures.fault in
    file_fault c.read_pages.result told c.args.folder.now names kept (omega arith) c.in_ok-check_titles.ensures.ok (subst Said c.in_ok-names.ensures.same said)
