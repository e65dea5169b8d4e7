use Rattle.std.proofs.Common.{◌≡◌, ◌+◌, drop, length}
use Rattle.lua_code.specs.Seen.{expressions_seen, entries_seen}
use Rattle.lua_flat_code.specs.Making.{state_of}
use Rattle.lua_flat_code.specs.Parts.{RowSoFar, FieldsSoFar}
use Rattle.lua_flat_code.proofs.maker.Maker.+values.Given as goal

abbrev pub invariant-row-loop-e : goal.invariant-row-loop-e
invariant-row-loop-e l = RowSoFar l.register l.at (expressions_seen l.es) (expressions_seen (drop l.e-index l.es)) (state_of l.initial.self) (state_of l.self) × (l.left + l.e-index ≡ length l.es)

abbrev pub invariant-table-loop-entry : goal.invariant-table-loop-entry
invariant-table-loop-entry l = FieldsSoFar l.free l.to 1 l.line (entries_seen l.entries) (entries_seen (drop l.entry-index l.entries)) (state_of l.initial.self) (state_of l.self) l.place × (l.left + l.entry-index ≡ length l.entries)
