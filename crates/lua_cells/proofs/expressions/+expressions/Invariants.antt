use Rattle.std.proofs.Common.{◌≡◌, drop}
use Rattle.lua_code.specs.Seen.{expressions_seen, entries_seen}
use Rattle.lua_cells.specs.Registers.{expressions_gone, fields_gone}
use Rattle.lua_cells.proofs.expressions.+expressions.Given as goal

abbrev pub invariant-expressions-loop-code : goal.invariant-expressions-loop-code
invariant-expressions-loop-code l = expressions_gone (expressions_seen (drop l.code-index l.list)) l.registers ≡ expressions_gone (expressions_seen l.list) l.initial.registers

abbrev pub invariant-entries-loop-code : goal.invariant-entries-loop-code
invariant-entries-loop-code l = fields_gone (entries_seen (drop l.code-index l.list)) l.registers ≡ fields_gone (entries_seen l.list) l.initial.registers
