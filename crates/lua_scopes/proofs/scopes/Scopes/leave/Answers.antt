use Rattle.lua_scopes.proofs.WholeLaws.{not_left, left_scopes, left_whole}
use Rattle.lua_scopes.proofs.scopes.Scopes.leave.Goals as goal

pub returns-in_default : goal.returns-in_default
returns-in_default c = not_left _ _ _ _ _ _ c.self.view_is c.in_default.ensures.0 c.in_default.ensures.1

pub invariant_of-self-in-Ok : goal.invariant_of-self-in-Ok
invariant_of-self-in-Ok c = left_whole _ _ _ _ _ _ _ _ _ c.self.invariant c.in-Some.ensures c.replace-inner.ensures.after c.replace-inner.ensures.value c.in-Ok.ensures.right

pub returns-in-Ok : goal.returns-in-Ok
returns-in-Ok c = left_scopes _ _ _ _ _ _ _ _ _ _ c.self.view_is c.self.invariant c.in-Some.ensures c.replace-inner.ensures.after c.replace-inner.ensures.value c.in-Ok.ensures.places
