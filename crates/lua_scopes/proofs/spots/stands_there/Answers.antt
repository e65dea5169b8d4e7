use Rattle.std.proofs.Common.{◌∙◌, sym}
use Rattle.lua_scopes.proofs.SpotLaws.{stands}
use Rattle.lua_scopes.proofs.spots.stands_there.Goals as goal

pub returns-in-Some : goal.returns-in-Some
returns-in-Some c = λ e. stands c.args.spots.now.entries c.args.named.number c.args.named.name.now _ _ _ c.get_index.ensures.entry c.in-Some.is (sym c.eq.ensures ∙ e)
