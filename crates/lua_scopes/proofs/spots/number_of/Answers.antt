use Rattle.std.proofs.Common.{None}
use Rattle.lua_scopes.proofs.SpotLaws.{noted, nothing_noted}
use Rattle.lua_scopes.proofs.spots.number_of.Goals as goal

pub returns-in-Ok : goal.returns-in-Ok
returns-in-Ok c = nothing_noted c.args.name _ _ (noted c.args.name None _ _ c.in-Ok.ensures.updates.0)
