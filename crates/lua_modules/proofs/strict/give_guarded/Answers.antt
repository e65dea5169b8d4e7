use Rattle.std.proofs.Common.{true}
use Rattle.lua_state.specs.LuaStackDeclaredFocusFocusTheVariants as focus
use Rattle.lua_state.specs.LuaStackDeclaredValuesGivenTheVariants as given
use Rattle.lua_state.specs.LuaStoreDeclaredValueValueTheVariants as own
use Rattle.lua_modules.proofs.Parts.{on_changed}
use Rattle.lua_modules.proofs.strict.give_guarded.Goals as goal

pub guard-requires : goal.guard-requires
guard-requires c = c.requires.env.globals

pub returns : goal.returns
returns c = λ l.
    rw (← c.in_ok-guard.ensures.made)
    (on_changed c.args.store.now c.guard.new.store c.args.state.now l (focus.Gives (given.One (own.Bool true))) c.requires c.in_ok-guard.ensures.later (tt, tt))
