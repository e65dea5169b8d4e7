use Rattle.std.proofs.Common.{◌≡◌, List, ℕ, IsUtf8, true, sym, subst}
use Rattle.std.specs.Str.{is_utf8}
use Rattle.std.proofs.lemmas.Str.{IsUtf8-from_is_utf8}
use Rattle.wk_shelf.specs.declared.memory_shelf.MemoryFile.{MemoryFile}
use Rattle.wk_shelf.proofs.FileLemmas.{text_at}
use Rattle.wk_shelf.proofs.memory_shelf.names_of.Goals as goal

pub unreachable-requires : goal.unreachable-requires
unreachable-requires c =
    let P : MemoryFile → Type 0 = λ f. is_utf8 f.name ≡ true in
    let text = subst P (sym c.file-item.is) (text_at c.loop-file.file-index c.file-item.result c.args.files.now c.loop-file-test.true c.requires) in
    let Q : List ℕ → Type 0 = λ bytes. IsUtf8 bytes in
    c.in_default.ensures.cases.0 (subst Q (sym c.as_slice-then-eq.ensures) (IsUtf8-from_is_utf8 _ text))
