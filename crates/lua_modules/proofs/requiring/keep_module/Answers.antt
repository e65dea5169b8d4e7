use Rattle.std.proofs.Common.{◌∙◌, ap, sym, [], ◌∷◌}
use Rattle.lua_code.specs.LuaMeaningActs.{Finished}
use Rattle.lua_state.specs.LuaSlotsErrors.{gives}
use Rattle.lua_code.specs.LuaSlotsModules.{with_module}
use Rattle.lua_state.specs.LuaSlotsSlots.{Slots}
use Rattle.lua_state.specs.LuaStoreSeen.{seen}
use Rattle.lua_state.specs.LuaStackDeclaredFocusFocusTheVariants as focus
use Rattle.lua_state.specs.LuaStackDeclaredValuesGivenTheVariants as given
use Rattle.lua_state.specs.declared.state.State.{State}
use Rattle.lua_state.specs.Seen.{slots_of, frames_of}
use Rattle.lua_modules.proofs.Parts.{on_with}
use Rattle.lua_modules.proofs.requiring.keep_module.Goals as goal

pub returns : goal.returns
returns c = λ l.
    let same = c.in_ok-put_progress.ensures.same in
    let v = seen c.args.store.now.texts c.args.value in
    on_with c.args.store.now c.args.state.now c.put_progress.new.state l _ (focus.Gives (given.One c.args.value)) c.in_ok-put_progress.ensures.of
    (ap (λ (x : State). x.codes.world) same) (ap (λ (x : State). x.calls) same) (ap (λ (x : State). x.height) same) (c.requires.value, tt)
    (ap (λ (x : State). gives (v ∷ []) (frames_of c.args.store.now x) (with_module c.args.title (Finished v) (slots_of c.args.store.now c.args.state.now))) (sym same)
    ∙ ap (λ (x : Slots). gives (v ∷ []) (frames_of c.args.store.now c.put_progress.new.state) x) (sym c.in_ok-put_progress.ensures.slots))
