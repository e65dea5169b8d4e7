use Rattle.std.proofs.Common.{refl, ap, sym}
use Rattle.lua_state.specs.LuaSlotsErrors.{jumps}
use Rattle.lua_state.specs.LuaSlotsSlots.{Slots}
use Rattle.lua_state.specs.LuaStackDeclaredFocusFocusTheVariants as focus
use Rattle.lua_state.specs.LuaStackSeen.{jump_seen}
use Rattle.lua_state.specs.Seen.{frames_of}
use Rattle.lua_modules.proofs.Kept.{with_modules, module_out_of, module_out}
use Rattle.lua_modules.proofs.Parts.{on_with}
use Rattle.lua_modules.proofs.requiring.forget_module.Goals as goal

pub returns : goal.returns
returns c = λ l.
    on_with c.args.store.now c.args.state.now (with_modules c.args.state.now c.remove.new.self) l _ (focus.Jumps c.args.jump)
    (module_out_of c.args.store.now c.args.state.now c.remove.new.self c.args.title.now c.requires.state c.in_ok-remove.ensures.ok) refl refl refl c.requires.jump
    (ap (λ (x : Slots). jumps (jump_seen c.args.store.now.texts c.args.jump) (frames_of c.args.store.now c.args.state.now) x) (sym (module_out c.args.store.now c.args.state.now c.remove.new.self c.args.title.now c.in_ok-remove.ensures.ok)))
