use Rattle.lua_loops.proofs.Parts.{on}
use Rattle.lua_loops.proofs.exits.go.Goals as goal

pub returns : goal.returns
returns c = λ l. on c.args.store.now c.args.state.now c.args.state.now.frames l c.args.focus c.requires.state c.requires.state.frames c.requires.focus
