use Rattle.lua_scopes.proofs.WholeLaws.{started}
use Rattle.lua_scopes.proofs.scopes.Scopes.new.Goals as goal

pub invariant_of-result : goal.invariant_of-result
invariant_of-result c = λ e. started _ _ _ c.new-2.ensures c.new-3.ensures c.into_spots.ensures
