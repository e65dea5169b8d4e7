use Rattle.std.proofs.Common.{◌≡◌, ◌+◌, length}
use Rattle.lua_pattern.specs.Texts.{later_bytes}
use Rattle.lua_pattern.proofs.alphabet.count_later.Given as goal

abbrev pub invariant-loop-left : goal.invariant-loop-left
invariant-loop-left l = record {
  same : l.count + later_bytes l.left ≡ later_bytes l.initial.left;
  room : l.count + length l.left ≡ length l.initial.left;
}

abbrev pub decreases-loop-left : goal.decreases-loop-left
decreases-loop-left l = length l.left
