use Rattle.std.proofs.Common.{drop}
use Rattle.lua_blocks.proofs.Pairs.{Assigns}
use Rattle.lua_blocks.proofs.assignments.settings.Given as goal

abbrev pub invariant-loop-at : goal.invariant-loop-at
invariant-loop-at l = Assigns l.store l.targets (drop l.at l.targets) l.fn.values l.values l.pairs
