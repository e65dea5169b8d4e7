use Rattle.std.proofs.Common.{◌≡◌, ◌-◌}
use Rattle.wiki_pages.specs.Forests.{nodes_in}
use Rattle.wiki_pages.specs.CaseTables.{IsRightRun}
use Rattle.wiki_pages.proofs.preparing.case_run.Given as goal

abbrev pub invariant-loop-table : goal.invariant-loop-table
invariant-loop-table l = record {
  right : IsRightRun (nodes_in l.parts.nodes) l.parts.at l.table;
  end : l.table.end ≡ l.parts.end;
}

abbrev pub decreases-loop-table : goal.decreases-loop-table
decreases-loop-table l = l.table.end - l.table.stop.at
