use Rattle.wiki_pages.specs.CaseTables.{AreRight}
use Rattle.wiki_pages.proofs.preparing.tables_of.Given as goal

abbrev pub invariant-loop-at : goal.invariant-loop-at
invariant-loop-at l = AreRight l.text.nodes l.tables
