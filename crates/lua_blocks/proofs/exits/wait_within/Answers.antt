use Rattle.std.specs.Prelude.{◌∷◌}
use Rattle.lua_blocks.proofs.Parts.{on}
use Rattle.lua_blocks.proofs.exits.wait_within.Goals as goal

pub returns-in-Ok : goal.returns-in-Ok
returns-in-Ok c = λ l.
    rw c.in-Ok.ensures.ok
    (on c.args.store.now c.args.state.now (c.args.inner ∷ c.args.outer ∷ c.args.state.now.frames) l c.args.focus c.requires.state (c.requires.inner, (c.requires.outer, c.requires.state.frames)) c.requires.focus)
