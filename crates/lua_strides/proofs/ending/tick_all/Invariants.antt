use Rattle.std.proofs.Common.{◌≡◌, ◌+◌}
use Rattle.lua_strides.proofs.ending.tick_all.Given as goal

-- so many are counted
abbrev pub invariant-ticks : goal.invariant-ticks
invariant-ticks g l = l.turns ≡ l.fn.turns + l.at
