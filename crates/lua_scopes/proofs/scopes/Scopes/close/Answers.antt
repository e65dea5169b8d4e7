use Rattle.lua_scopes.proofs.WholeLaws.{closed_scopes, closed_whole}
use Rattle.lua_scopes.proofs.scopes.Scopes.close.Goals as goal

pub invariant_of-self : goal.invariant_of-self
invariant_of-self c = closed_whole _ _ _ _ _ _ _ c.self.invariant c.in-Ok.ensures

pub returns-in-Ok : goal.returns-in-Ok
returns-in-Ok c = closed_scopes _ _ _ _ _ _ _ _ c.self.view_is c.in-Ok.ensures
