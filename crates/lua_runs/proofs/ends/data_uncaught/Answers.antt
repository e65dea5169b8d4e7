use Rattle.std.proofs.Common.{subst}
use Rattle.lua_modules.specs.LuaStackDeclaredFocusFocusTheVariants as focus
use Rattle.lua_modules.specs.LuaStackDeclaredFocusJumpTheVariants as jump
use Rattle.lua_modules.specs.LuaStackOf.{JumpOf}
use Rattle.lua_runs.proofs.Parts.{on}
use Rattle.lua_runs.proofs.ends.data_uncaught.Goals as goal

pub returns-in-Returned : goal.returns-in-Returned
returns-in-Returned c = λ l. rw c.in-Returned.is (on c.args.store.now c.args.state.now l (focus.Jumps (jump.Returned c.in-Returned.values)) c.requires.state (subst (JumpOf c.args.store.now) c.in-Returned.is c.requires.jump))

pub returns-in-Broke : goal.returns-in-Broke
returns-in-Broke c = λ l. rw c.in-Broke.is (on c.args.store.now c.args.state.now l (focus.Jumps jump.Broke) c.requires.state tt)

pub returns-in-Raised : goal.returns-in-Raised
returns-in-Raised c = λ l. rw c.in-Raised.is (c.data_error.ensures l)
