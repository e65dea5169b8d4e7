use Rattle.std.proofs.Common.{◌≡◌, ◌+◌, drop, length}
use Rattle.lua_code.specs.Seen.{block_seen}
use Rattle.lua_flat_code.specs.Making.{state_of}
use Rattle.lua_flat_code.specs.Parts.{BlockSoFar}
use Rattle.lua_flat_code.specs.Whole.{arms_then, ArmsSaid}
use Rattle.lua_flat_code.proofs.maker.Maker.+parts.Given as goal

abbrev pub invariant-statements-loop-statement : goal.invariant-statements-loop-statement
invariant-statements-loop-statement l = BlockSoFar l.free (block_seen l.body) (block_seen (drop l.statement-index l.body)) (state_of l.initial.self) (state_of l.self) l.at

abbrev pub invariant-arms-loop-branch : goal.invariant-arms-loop-branch
invariant-arms-loop-branch l = ArmsSaid l.free (arms_then l.branches) (drop l.branch-index l.branches) l.initial.ends l.ends (state_of l.initial.self) (state_of l.self)

abbrev pub invariant-choice_plain-loop-branch : goal.invariant-choice_plain-loop-branch
invariant-choice_plain-loop-branch l = ArmsSaid l.free (arms_then l.branches) (drop l.branch-index l.branches) l.initial.ends l.ends (state_of l.initial.self) (state_of l.self) × (l.left + l.branch-index ≡ length l.branches)
