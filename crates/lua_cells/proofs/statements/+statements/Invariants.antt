use Rattle.std.proofs.Common.{◌≡◌, drop}
use Rattle.lua_code.specs.Seen.{block_seen, branches_seen}
use Rattle.lua_cells.specs.Registers.{block_gone, arms_gone}
use Rattle.lua_cells.proofs.statements.+statements.Given as goal

abbrev pub invariant-statements-loop-code : goal.invariant-statements-loop-code
invariant-statements-loop-code l = block_gone (block_seen (drop l.code-index l.list)) l.registers ≡ block_gone (block_seen l.list) l.initial.registers

abbrev pub invariant-branches-loop-code : goal.invariant-branches-loop-code
invariant-branches-loop-code l = arms_gone (branches_seen (drop l.code-index l.list)) l.registers ≡ arms_gone (branches_seen l.list) l.initial.registers
