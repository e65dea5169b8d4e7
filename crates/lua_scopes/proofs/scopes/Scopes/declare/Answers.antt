use Rattle.std.proofs.Common.{◌∙◌, ap}
use Rattle.lua_scopes.specs.Spots.{spot_at}
use Rattle.lua_scopes.proofs.WholeLaws.{declared_scopes, declared_whole}
use Rattle.lua_scopes.proofs.scopes.Scopes.declare.Goals as goal

pub invariant_of-self-in-Ok : goal.invariant_of-self-in-Ok
invariant_of-self-in-Ok c = declared_whole _ _ _ _ _ _ _ _ _ c.self.invariant c.in_ok-cell.ensures c.len-depth.ensures (c.find.ensures ∙ ap (spot_at _) c.next-named.ensures) c.in-Ok.ensures

pub returns-in-Ok : goal.returns-in-Ok
returns-in-Ok c = declared_scopes _ _ _ _ _ _ _ _ _ _ c.self.view_is c.in_ok-cell.ensures c.in-Ok.ensures
