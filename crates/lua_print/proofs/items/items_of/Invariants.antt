use Rattle.std.proofs.Common.{◌≡◌, ◌≤◌, ◌+◌, length, drop}
use Rattle.lua_print.specs.Items.{items_of}
use Rattle.lua_print.proofs.ItemLemmas.{Rest}
use Rattle.lua_print.proofs.items.items_of.Given as goal

abbrev pub invariant-loop-left : goal.invariant-loop-left
invariant-loop-left l = record {
  rest : Rest (drop l.next l.tokens) l.items.items l.gap l.left l.place (items_of l.text);
  sum : l.place + length l.left ≡ length l.text;
  few : l.next ≤ l.place;
}

abbrev pub decreases-loop-left : goal.decreases-loop-left
decreases-loop-left l = length l.left
