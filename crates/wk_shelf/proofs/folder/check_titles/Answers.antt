use Rattle.std.proofs.lemmas.List.{length-map}
use Rattle.std.proofs.Common.{◌≡◌, arith, Global, string_bytes, ap, sym, ◌∙◌, true, false, None, Some}
use Rattle.std.specs.List.{list_any}
use Rattle.wk_base.specs.contracts.title.TitlePartialEq.TheImpl as titles
use Rattle.wk_shelf.specs.Folder.{title_of_file}
use Rattle.wk_shelf.specs.FolderFaults.{source_line}
use Rattle.wk_shelf.specs.declared.folder.FolderFault.TheVariants.{NoMemory}
use Rattle.wk_shelf.proofs.ReadLemmas.{untitled_fault, taken_fault, Titled-more, name_at, says_fault, was_true, was_false}
use Rattle.wk_shelf.proofs.folder.check_titles.Goals as goal

pub returns-in_default-clause-fault : goal.returns-in_default-clause-fault
returns-in_default-clause-fault c =
    let none : title_of_file (string_bytes c.name-item.result) ≡ None = ap title_of_file (sym c.as_bytes.ensures.value) ∙ sym c.in_ok-title.ensures ∙ c.in_default.is in
    let told = rw c.as_bytes-in_default.ensures.value at c.fault_line.ensures in
    says_fault (source_line c.fault_line.result) (c.fault_line.result ≡ NoMemory) _ _ told
    (untitled_fault _ c.loop-name.name-index c.loop-name.taken.keys _ c.loop-name.invariant (omega (arith, length-map c.args.names.now (string_bytes {Z = Global}))) (name_at c.args.names.now c.loop-name.name-index c.name-item.result c.name-item.is) none)

pub returns-in-Ok-false-clause-fault : goal.returns-in-Ok-false-clause-fault
returns-in-Ok-false-clause-fault c =
    let title = c.in-Some.title in
    let some : title_of_file (string_bytes c.name-item.result) ≡ Some title = ap title_of_file (sym c.as_bytes.ensures.value) ∙ sym c.in_ok-title.ensures ∙ c.in-Some.is in
    let taken : list_any (titles.ghosts.eq title) c.loop-name.taken.keys ≡ true = was_true _ _ c.in-Ok-false.ensures.added c.in-Ok-false.field-0-test in
    let told = rw c.as_bytes-in-Ok-false.ensures.value at c.fault_line-in-Ok-false.ensures in
    says_fault (source_line c.fault_line-in-Ok-false.result) (c.fault_line-in-Ok-false.result ≡ NoMemory) _ _ told
    (taken_fault _ c.loop-name.name-index c.loop-name.taken.keys _ title c.loop-name.invariant (omega (arith, length-map c.args.names.now (string_bytes {Z = Global}))) (name_at c.args.names.now c.loop-name.name-index c.name-item.result c.name-item.is) some taken)

pub loop-name-preserved : goal.loop-name-preserved
loop-name-preserved c =
    let title = c.in-Some.title in
    let some : title_of_file (string_bytes c.name-item.result) ≡ Some title = ap title_of_file (sym c.as_bytes.ensures.value) ∙ sym c.in_ok-title.ensures ∙ c.in-Some.is in
    let new : list_any (titles.ghosts.eq title) c.loop-name.taken.keys ≡ false = was_false _ _ c.in-Ok-true.ensures.added c.in-Ok-true.field-0-test in
    Titled-more _ c.loop-name.name-index c.loop-name.taken.keys _ _ title c.loop-name.invariant (omega (arith, length-map c.args.names.now (string_bytes {Z = Global}))) (name_at c.args.names.now c.loop-name.name-index c.name-item.result c.name-item.is) some new c.in-Ok-true.ensures.keys
