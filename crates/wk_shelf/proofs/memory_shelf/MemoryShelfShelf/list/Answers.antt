use Rattle.std.proofs.Common.{◌≡◌, ◌∙◌, ap, List, map, true, subst}
use Rattle.std.proofs.lemmas.Result.{IfOk-weaker}
use Rattle.wk_shelf.specs.Files.{StoredFile, names_in}
use Rattle.wk_shelf.specs.MemoryFiles.{file_of, are_files}
use Rattle.wk_shelf.specs.States.{ShelfState}
use Rattle.wk_shelf.proofs.FileLemmas.{lists_exactly}
use Rattle.wk_shelf.proofs.memory_shelf.MemoryShelfShelf.list.Goals as goal

pub returns-clause-names : goal.returns-clause-names
returns-clause-names c =
    let files_of : ShelfState → List StoredFile = λ s. s.files in
    let kept : map file_of c.self.inside.files ≡ c.args.self.now.files = ap files_of (c.self.view_is ∙ c.counts.ensures.state) in
    let held : map file_of c.as_slice.result.now ≡ c.args.self.now.files = ap (map file_of) c.as_slice.ensures ∙ kept in
    let sound : are_files c.args.self.now.files ≡ true = subst (λ fs. are_files fs ≡ true) kept c.self.invariant in
    IfOk-weaker c.names_of.result _ _
    (λ names exact. lists_exactly c.args.folder.now c.args.self.now.files _ (exact ∙ ap (names_in c.as_bytes.result.now) held ∙ ap (λ t. names_in t c.args.self.now.files) c.as_bytes.ensures.value) sound)
    c.names_of.ensures.names
