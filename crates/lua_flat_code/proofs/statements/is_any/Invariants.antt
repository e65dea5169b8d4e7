use Rattle.std.proofs.Common.{◌≡◌, length}
use Rattle.lua_flat.specs.IsStatement.{is_any}
use Rattle.lua_flat_code.proofs.statements.is_any.Given as goal

abbrev pub invariant-flags : goal.invariant-flags
invariant-flags l = is_any l.left ≡ is_any l.initial.left

abbrev pub decreases-flags : goal.decreases-flags
decreases-flags l = length l.left
