use Rattle.lua_state.specs.LuaStackDeclaredFocusFocusTheVariants as focus
use Rattle.lua_state.specs.LuaStackDeclaredValuesGivenTheVariants as given
use Rattle.lua_acts.proofs.Parts.{on}
use Rattle.lua_acts.proofs.exits.give_all.Goals as goal

pub returns : goal.returns
returns c = λ l. on c.args.store.now c.args.state.now l (focus.Gives (given.Many c.args.values)) c.requires.state c.requires.values
