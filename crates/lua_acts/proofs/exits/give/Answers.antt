use Rattle.lua_state.specs.LuaStackDeclaredFocusFocusTheVariants as focus
use Rattle.lua_state.specs.LuaStackDeclaredValuesGivenTheVariants as given
use Rattle.lua_acts.proofs.Parts.{on}
use Rattle.lua_acts.proofs.exits.give.Goals as goal

pub returns : goal.returns
returns c = λ l. on c.args.store.now c.args.state.now l (focus.Gives (given.One c.args.value)) c.requires.state (c.requires.value, tt)
