use Rattle.std.proofs.Common.{◌≤◌, drop}
use Rattle.std.specs.Prelude.{None}
use Rattle.lua_print.specs.Layout.{laid_from}
use Rattle.lua_print.proofs.LayLemmas.{Lays}
use Rattle.lua_print.proofs.laying.laid.Given as goal

abbrev pub invariant-loop-item : goal.invariant-loop-item
invariant-loop-item l = record {
  whole : Lays l.made.items l.opened l.closed l.before (drop l.item-index l.items) (laid_from 0 0 None l.items);
  few_opened : l.opened ≤ l.item-index;
  few_closed : l.closed ≤ l.item-index;
}
