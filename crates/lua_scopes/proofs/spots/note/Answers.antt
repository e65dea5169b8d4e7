use Rattle.lua_scopes.proofs.SpotLaws.{noted}
use Rattle.lua_scopes.proofs.spots.note.Goals as goal

pub returns-in-Ok : goal.returns-in-Ok
returns-in-Ok c = noted c.args.named.name _ _ _ c.in-Ok.ensures.updates.0
