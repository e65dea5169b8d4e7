use Rattle.wiki_pages.specs.Forests.{nodes_in, size, Amid}
use Rattle.wiki_pages.specs.CaseTables.{AreRight}
use Rattle.wiki_pages.proofs.preparing.add_tables.Given as goal

abbrev pub invariant-loop-parts : goal.invariant-loop-parts
invariant-loop-parts l = record {
  amid : Amid l.parts l.initial.parts;
  right : AreRight (nodes_in l.parts.nodes) l.tables;
}

abbrev pub decreases-loop-parts : goal.decreases-loop-parts
decreases-loop-parts l = size l.parts
