use Rattle.lua_state.specs.LuaStackDeclaredFocusFocusTheVariants as focus
use Rattle.lua_state.specs.LuaStackDeclaredValuesGivenTheVariants as given
use Rattle.lua_evals.proofs.Ends.{on}
use Rattle.lua_evals.proofs.exits.give.Goals as goal

pub returns : goal.returns
returns c = λ l. on c.args.store.now c.args.state.now c.args.state.now.frames l (focus.Gives (given.One c.args.value)) c.requires.state c.requires.state.frames (c.requires.value, tt)
