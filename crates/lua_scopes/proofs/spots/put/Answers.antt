use Rattle.lua_scopes.proofs.SpotLaws.{put_there}
use Rattle.lua_scopes.proofs.spots.put.Goals as goal

pub returns-then-number-len : goal.returns-then-number-len
returns-then-number-len c = λ x at. put_there c.args.spots.now c.args.number c.args.entry c.pair_mut-known.ensures.unique x at
