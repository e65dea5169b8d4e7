use Rattle.std.proofs.Common.{◌≡◌, map, drop}
use Rattle.lua_code.specs.Seen.{target_seen}
use Rattle.lua_cells.specs.Registers.{targets_gone}
use Rattle.lua_cells.proofs.expressions.targets.Given as goal

abbrev pub invariant-loop-code : goal.invariant-loop-code
invariant-loop-code l = targets_gone (map target_seen (drop l.code-index l.list)) l.registers ≡ targets_gone (map target_seen l.list) l.initial.registers
