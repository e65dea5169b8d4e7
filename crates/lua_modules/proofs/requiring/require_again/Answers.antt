use Rattle.std.proofs.Common.{subst}
use Rattle.lua_state.specs.LuaStackDeclaredFocusFocusTheVariants as focus
use Rattle.lua_state.specs.LuaStackDeclaredValuesGivenTheVariants as given
use Rattle.lua_state.specs.Of.{ProgressOf}
use Rattle.lua_modules.proofs.Parts.{on}
use Rattle.lua_modules.proofs.requiring.require_again.Goals as goal

pub returns-in-Finished : goal.returns-in-Finished
returns-in-Finished c = λ title held.
    rw c.in-Finished.is
    (on c.args.store.now c.args.state.now c.args.left.now (focus.Gives (given.One c.in-Finished.value)) c.requires.state (subst (ProgressOf c.args.store.now) c.in-Finished.is c.requires.progress, tt))

pub returns-in-Running : goal.returns-in-Running
returns-in-Running c = λ title held. rw c.in-Running.is c.requires_itself.ensures
