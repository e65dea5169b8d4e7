use Rattle.std.proofs.Common.{ap}
use Rattle.lua_code.specs.Held.{module_seen}
use Rattle.lua_code.specs.LuaSlotsModules.{runs_text}
use Rattle.lua_state.specs.declared.state.State.{State}
use Rattle.lua_modules.proofs.Parts.{from_changed}
use Rattle.lua_modules.proofs.requiring.run_module.Goals as goal

pub returns : goal.returns
returns c =
    let same = c.in_ok-enter_module.ensures.same in
    from_changed c.args.store.now c.run_text.new.store c.args.state.now c.enter_module.new.state c.enter_module.new.state c.args.left.now c.run_text.new.left c.in_ok-turn.turn
    (λ fs x. runs_text c.args.title.now (module_seen c.args.held.now) fs x) _ _ (ap (λ (x : State). x.codes.world) same) (ap (λ (x : State). x.calls) same) (ap (λ (x : State). x.height) same)
    c.in_ok-enter_module.ensures.frames c.in_ok-enter_module.ensures.slots c.in_ok-turn.ensures
