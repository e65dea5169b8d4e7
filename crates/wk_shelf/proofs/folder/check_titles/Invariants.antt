use Rattle.std.proofs.Common.{map, string_bytes}
use Rattle.wk_shelf.proofs.ReadLemmas.{Titled}
use Rattle.wk_shelf.proofs.folder.check_titles.Given as goal

abbrev pub invariant-loop-name : goal.invariant-loop-name
invariant-loop-name l = Titled (map string_bytes l.names) l.name-index l.taken.keys
