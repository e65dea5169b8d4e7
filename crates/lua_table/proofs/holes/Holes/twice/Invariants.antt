use Rattle.std.proofs.Common.{◌≡◌, ◌<◌, ◌≤◌, ℕ, false, length}
use Rattle.lua_table.specs.Holes.{marked}
use Rattle.lua_table.proofs.holes.Holes.twice.Given as goal

abbrev pub invariant-loop-place : goal.invariant-loop-place
invariant-loop-place l =
    (length l.self < length l.new) × ((k : ℕ) → k < l.place → marked l.new k ≡ marked l.self k) × ((k : ℕ) → l.place ≤ k → marked l.new k ≡ false)
