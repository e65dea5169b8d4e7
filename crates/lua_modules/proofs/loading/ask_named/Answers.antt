use Rattle.std.proofs.Common.{◌∙◌, ap, sym, List}
use Rattle.mw_frame.specs.declared.question.Ask.{Ask}
use Rattle.mw_frame.specs.declared.question.Ask.TheVariants as ask
use Rattle.lua_state.specs.LuaSlotsPoints.{SFrame, Now, Asking}
use Rattle.lua_state.specs.LuaStackDeclaredFocusFocusTheVariants as focus
use Rattle.lua_state.specs.declared.state.State.{State}
use Rattle.lua_state.specs.Seen.{slots_of, frames_of}
use Rattle.lua_modules.proofs.Parts.{on_with}
use Rattle.lua_modules.proofs.loading.ask_named.Goals as goal

pub returns : goal.returns
returns c = λ l.
    let same = c.in_ok-wait_for.ensures.same in
    on_with c.args.store.now c.args.state.now c.wait_for.new.state l _ (focus.Asks c.in_ok-question.question) c.in_ok-wait_for.ensures.of
    (ap (λ (x : State). x.codes.world) same) (ap (λ (x : State). x.calls) same) (ap (λ (x : State). x.height) same) tt
    (ap (λ (fs : List SFrame). Now (Asking (ask.Data c.args.title) fs) (slots_of c.args.store.now c.args.state.now)) (sym c.in_ok-wait_for.ensures.frames)
    ∙ ap (λ (x : State). Now (Asking (ask.Data c.args.title) (frames_of c.args.store.now c.wait_for.new.state)) (slots_of c.args.store.now x)) (sym same)
    ∙ ap (λ (q : Ask). Now (Asking q (frames_of c.args.store.now c.wait_for.new.state)) (slots_of c.args.store.now c.wait_for.new.state)) (sym c.in_ok-question.ensures))
