use Rattle.std.proofs.Common.{refl}
use Rattle.std.specs.Prelude.{[]}
use Rattle.page_run.specs.Outcome.{Goes}
use Rattle.lua_state.specs.LuaSlotsPoints.{Gives}
use Rattle.lua_code.specs.Seen.{place_seen}
use Rattle.lua_state.specs.LuaStoreSeen.{seen}
use Rattle.lua_state.specs.LuaStackDeclaredFocusFocusTheVariants as focus
use Rattle.lua_state.specs.LuaStackDeclaredValuesGivenTheVariants as given
use Rattle.lua_state.specs.Seen.{slots_of}
use Rattle.lua_blocks.proofs.Changes.{on_changed, writes_at}
use Rattle.lua_blocks.proofs.setting.set_place.Goals as goal

pub write-requires-clause-closure : goal.write-requires-clause-closure
write-requires-clause-closure c = c.running_closure-closure.ensures.of c.args.store.now c.requires.state.functions

pub returns : goal.returns
returns c = λ l.
    rw c.new.ensures
    (on_changed c.args.store.now c.write.new.store c.args.state.now c.write.new.regs l (focus.Gives (given.Many [])) (λ fs. Gives (Goes []) fs) _ _ c.requires.state c.write.ensures.later c.write.ensures.of tt (λ fs. refl) c.write.ensures.written
    (writes_at (slots_of c.args.store.now c.args.state.now) _ (place_seen c.args.place) (seen c.args.store.now.texts c.args.value) (c.running_closure-closure.ensures.cells c.args.store.now)))
