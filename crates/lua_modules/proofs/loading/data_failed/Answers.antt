use Rattle.std.proofs.Common.{◌∙◌, sym, subst}
use Rattle.lua_state.specs.LuaSlotsPoints.{Move}
use Rattle.lua_state.specs.LuaStackDeclaredFocusFocusTheVariants as focus
use Rattle.lua_state.specs.LuaStackDeclaredFocusJumpTheVariants as jump
use Rattle.lua_state.specs.declared.turn.Turn.TheVariants as turn
use Rattle.lua_state.specs.Makes.{Makes}
use Rattle.lua_state.specs.Seen.{slots_of, frames_of}
use Rattle.lua_modules.proofs.GivenModules.{raised_of, raised_move, other_move}
use Rattle.lua_modules.proofs.Parts.{on}
use Rattle.lua_modules.proofs.loading.data_failed.Goals as goal

pub returns-in-Some : goal.returns-in-Some
returns-in-Some c = λ l text title line.
    let is = sym c.raised-found.ensures ∙ c.in-Some.is in
    subst (λ (mv : Move). Makes c.args.store.now c.args.state.now l c.args.store.now c.args.state.now l mv (turn.On (focus.Jumps (jump.Raised c.in-Some.value))))
    (raised_move c.args.store.now.texts text title line (frames_of c.args.store.now c.args.state.now) (slots_of c.args.store.now c.args.state.now) c.args.jump.now c.in-Some.value is)
    (on c.args.store.now c.args.state.now l (focus.Jumps (jump.Raised c.in-Some.value)) c.requires.state (raised_of c.args.store.now c.args.jump.now c.in-Some.value is c.requires.jump))

pub returns-in_ok-turn-in-None : goal.returns-in_ok-turn-in-None
returns-in_ok-turn-in-None c = λ l text title line.
    subst (λ (mv : Move). Makes c.args.store.now c.args.state.now l c.wrong_answer.new.store c.args.state.now l mv c.in_ok-turn-in-None.turn)
    (other_move c.args.store.now.texts text title line (frames_of c.args.store.now c.args.state.now) (slots_of c.args.store.now c.args.state.now) c.args.jump.now (sym c.raised-found.ensures ∙ c.in-None.is))
    (c.in_ok-turn-in-None.ensures l)
