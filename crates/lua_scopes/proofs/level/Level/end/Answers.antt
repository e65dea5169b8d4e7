use Rattle.std.proofs.Common.{ap}
use Rattle.lua_scopes.proofs.SpotLaws.{gone}
use Rattle.lua_scopes.proofs.level.Level.end.Goals as goal

pub returns-clause-places : goal.returns-clause-places
returns-clause-places c = ap (λ l. l.places) c.in_ok-close.ensures.left

pub returns-clause-right : goal.returns-clause-right
returns-clause-right c = λ ls right. gone _ _ _ ls _ _ _ c.in_ok-close.ensures c.as_slice.ensures c.in_ok-give_back.ensures right
