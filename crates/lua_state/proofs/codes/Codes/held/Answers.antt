use Rattle.std.proofs.Common.{subst, sym}
use Rattle.lua_state.specs.Worlds.{world_seen, AreHeld}
use Rattle.lua_state.proofs.codes.Codes.held.Goals as goal

pub returns-in-Some : goal.returns-in-Some
returns-in-Some c = λ s h.
    let w = world_seen c.args.self.now.world in
    c.held_text.ensures w s (subst (AreHeld w s) (sym c.as_slice.ensures.value) h.held)
