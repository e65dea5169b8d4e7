use Rattle.std.proofs.Common.{subst}
use Rattle.lua_state.specs.LuaStackDeclaredFocusFocusTheVariants as focus
use Rattle.lua_state.specs.LuaStackDeclaredValuesGivenTheVariants as given
use Rattle.lua_operators.specs.LuaSlotsErrors.{gives}
use Rattle.lua_state.specs.Seen.{slots_of, frames_of}
use Rattle.lua_state.specs.Makes.{Makes}
use Rattle.lua_state.specs.declared.turn.Turn.TheVariants as turn
use Rattle.lua_evals.proofs.Ends.{on}
use Rattle.lua_evals.proofs.forms.copied_dots.Goals as goal

pub returns : goal.returns
returns c = λ l.
    subst (λ vs. Makes c.args.store.now c.args.state.now l c.args.store.now c.args.state.now l (gives vs (frames_of c.args.store.now c.args.state.now) (slots_of c.args.store.now c.args.state.now)) (turn.On (focus.Gives (given.Many c.in_ok-values.values))))
    (c.in_ok-values.ensures.values c.args.store.now)
    (on c.args.store.now c.args.state.now c.args.state.now.frames l (focus.Gives (given.Many c.in_ok-values.values)) c.requires c.requires.frames (c.in_ok-values.ensures.of c.args.store.now c.requires.functions))
