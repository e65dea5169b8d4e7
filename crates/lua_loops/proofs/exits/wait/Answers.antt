use Rattle.std.specs.Prelude.{◌∷◌}
use Rattle.lua_loops.proofs.Parts.{on}
use Rattle.lua_loops.proofs.exits.wait.Goals as goal

pub returns-in-Ok : goal.returns-in-Ok
returns-in-Ok c = λ l. rw c.in-Ok.ensures.ok (on c.args.store.now c.args.state.now (c.args.frame ∷ c.args.state.now.frames) l c.args.focus c.requires.state (c.requires.frame, c.requires.state.frames) c.requires.focus)
