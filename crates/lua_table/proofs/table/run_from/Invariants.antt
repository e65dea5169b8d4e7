use Rattle.std.proofs.Common.{◌≡◌, ℕ, ◌+◌, ◌<◌, ◌≤◌, pos, length}
use Rattle.lua_table.specs.Entries.{value_at}
use Rattle.lua_table.specs.Holes.{marked}
use Rattle.lua_table.proofs.table.run_from.Given as goal

abbrev pub invariant-loop-n : goal.invariant-loop-n
invariant-loop-n g l =
    (l.n ≤ length l.holes) × (length l.initial.holes ≤ length l.holes)
    × ((k : ℕ) → k + 1 < l.from → marked l.holes k ≡ marked l.initial.holes k)
    × ((k : ℕ) → l.from ≤ k → k < l.n → marked l.holes k ≡ g.V.PartialEq.eq (value_at g.V.PartialEq.eq g.V.Slot.nil_value l.entries (g.V.Slot.number_of (pos (k + 1)))) g.V.Slot.nil_value)
