use Rattle.std.proofs.Common.{◌≡◌, List, ℕ, Some, length, ap, arith}
use Rattle.wk_shelf.specs.Files.{StoredFile}
use Rattle.wk_shelf.specs.Folder.{size_fault_after, file_at}
use Rattle.wk_shelf.proofs.SizeLemmas.{says, known_long, known_many, known_read}
use Rattle.wk_shelf.proofs.folder.read_page.Goals as goal

pub returns-then-size-gt-MOST_FILE_BYTES-clause-fault : goal.returns-then-size-gt-MOST_FILE_BYTES-clause-fault
returns-then-size-gt-MOST_FILE_BYTES-clause-fault g c =
    let Due = λ (held : List StoredFile) (line : List ℕ). size_fault_after c.args.total (file_at c.args.folder.now held c.args.name.now) ≡ Some line in
    let told = rw c.as_bytes.ensures.value at c.fault_line.ensures in
    let n : length c.as_slice-size.result.now ≡ length c.in_ok-bytes.bytes = ap length c.as_slice-size.ensures in
    says _ _ _ (g.S.Shelf.files c.args.shelf.now) Due told (known_long _ _ _ _ c.args.total c.in_ok-bytes.ensures.bytes (omega arith))

pub returns-then-size-total-clause-fault : goal.returns-then-size-total-clause-fault
returns-then-size-total-clause-fault g c =
    let Due = λ (held : List StoredFile) (line : List ℕ). size_fault_after c.args.total (file_at c.args.folder.now held c.args.name.now) ≡ Some line in
    let n : length c.as_slice-size.result.now ≡ length c.in_ok-bytes.bytes = ap length c.as_slice-size.ensures in
    says _ _ _ (g.S.Shelf.files c.args.shelf.now) Due c.fault_line-then-size-total.ensures
    (known_many _ _ _ _ c.args.total c.in_ok-bytes.ensures.bytes (omega arith) (omega arith))

pub returns-clause-bytes : goal.returns-clause-bytes
returns-clause-bytes g c =
    let n : length c.as_slice-size.result.now ≡ length c.in_ok-bytes.bytes = ap length c.as_slice-size.ensures in
    known_read _ _ _ _ _ c.in_ok-bytes.ensures.bytes (omega arith) (omega arith)
