use Rattle.lua_state.specs.LuaStackDeclaredFocusFocusTheVariants as focus
use Rattle.lua_acts.proofs.Parts.{on}
use Rattle.lua_acts.proofs.exits.pass.Goals as goal

pub returns : goal.returns
returns c = λ l. on c.args.store.now c.args.state.now l (focus.Jumps c.args.jump) c.requires.state c.requires.jump
