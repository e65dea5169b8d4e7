use Rattle.std.proofs.Common.{subst, sym}
use Rattle.lua_state.specs.Worlds.{AreFound}
use Rattle.lua_state.proofs.FoundCode.{noted}
use Rattle.lua_state.proofs.codes.note.Goals as goal

pub returns-in-Ok : goal.returns-in-Ok
returns-in-Ok c = λ w s all h. subst (AreFound w s) (sym c.in-Ok.ensures.entries) (noted w s c.args.known.now.entries c.args.source c.args.code all h)
