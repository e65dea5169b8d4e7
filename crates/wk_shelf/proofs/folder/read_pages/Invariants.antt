use Rattle.std.proofs.Common.{◌≡◌, ◌≤◌}
use Rattle.std.specs.Prelude.{IfSome}
use Rattle.wk_shelf.specs.Folder.{most_folder_bytes}
use Rattle.wk_shelf.proofs.ReadLemmas.{ReadSoFar, named_files}
use Rattle.wk_shelf.proofs.folder.read_pages.Given as goal

abbrev pub invariant-loop-name : goal.invariant-loop-name
invariant-loop-name g l = record {
  same : g.S.Shelf.files l.shelf ≡ g.S.Shelf.files l.initial.shelf;
  later : g.S.Shelf.faults l.initial.shelf ≤ g.S.Shelf.faults l.shelf;
  small : l.total ≤ most_folder_bytes;
  known : IfSome (g.S.Shelf.files l.initial.shelf) (λ held. ReadSoFar (named_files l.folder held l.names) l.name-index l.pages l.total);
}
