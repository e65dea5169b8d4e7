use Rattle.std.proofs.Common.{refl, subst, sym}
use Rattle.lua_code.specs.Seen.{block_seen}
use Rattle.lua_state.specs.LuaSlotsPoints.{Runs}
use Rattle.lua_state.specs.LuaSlotsSlots.{all_opened}
use Rattle.lua_state.specs.LuaStackOf.{ValuesOf}
use Rattle.lua_state.specs.LuaStackSeen.{values_seen}
use Rattle.lua_state.specs.LuaStackDeclaredFocusFocusTheVariants as focus
use Rattle.lua_state.specs.Seen.{slots_of}
use Rattle.lua_blocks.proofs.Changes.{on_changed}
use Rattle.lua_blocks.proofs.giving.declared.Goals as goal

pub open_all-requires-clause-values : goal.open_all-requires-clause-values
open_all-requires-clause-values c = subst (ValuesOf c.args.store.now) (sym c.in_ok-values.ensures) c.requires.values

pub returns : goal.returns
returns c = λ l.
    rw (← c.in_ok-values.ensures)
    (on_changed c.args.store.now c.open_all.new.store c.args.state.now c.open_all.new.regs l (focus.Runs c.args.rest) (λ fs. Runs (block_seen c.args.rest.now) fs) _
    (all_opened c.args.flags.now (values_seen c.args.store.now.texts c.in_ok-values.values) (slots_of c.args.store.now c.args.state.now)) c.requires.state
    c.in_ok-open_all.ensures.later c.in_ok-open_all.ensures.of.0 tt (λ fs. refl) c.in_ok-open_all.ensures.opened refl)
