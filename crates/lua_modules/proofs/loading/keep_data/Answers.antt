use Rattle.std.proofs.Common.{refl, ap, sym, [], ◌∷◌}
use Rattle.lua_code.specs.LuaHeapValue.{Table}
use Rattle.lua_state.specs.LuaSlotsErrors.{gives}
use Rattle.lua_state.specs.LuaSlotsSlots.{Slots}
use Rattle.lua_state.specs.LuaStoreDeclaredValueValueTheVariants as own
use Rattle.lua_state.specs.LuaStackDeclaredFocusFocusTheVariants as focus
use Rattle.lua_state.specs.LuaStackDeclaredValuesGivenTheVariants as given
use Rattle.lua_state.specs.Seen.{frames_of}
use Rattle.lua_modules.proofs.Kept.{with_loaded, data_put_of, data_put}
use Rattle.lua_modules.proofs.Parts.{on_with}
use Rattle.lua_modules.proofs.loading.keep_data.Goals as goal

pub returns : goal.returns
returns c = λ l.
    let root = own.Table c.args.table in
    on_with c.args.store.now c.args.state.now (with_loaded c.args.state.now c.put.new.self) l _ (focus.Gives (given.One root))
    (data_put_of c.args.store.now c.args.state.now c.put.new.self c.args.title root c.requires.state c.requires.table c.in_ok-put.ensures.ok) refl refl refl (c.requires.table, tt)
    (ap (λ (x : Slots). gives (Table c.args.table.at ∷ []) (frames_of c.args.store.now c.args.state.now) x) (sym (data_put c.args.store.now c.args.state.now c.put.new.self c.args.title root c.in_ok-put.ensures.ok)))
