use Rattle.std.proofs.Common.{refl}
use Rattle.std.specs.Prelude.{map}
use Rattle.lua_code.specs.Seen.{place_seen, block_seen}
use Rattle.lua_state.specs.LuaSlotsPoints.{Runs}
use Rattle.lua_state.specs.LuaStackDeclaredFocusFocusTheVariants as focus
use Rattle.lua_state.specs.Seen.{slots_of}
use Rattle.lua_blocks.proofs.Changes.{on_changed, names_function_at}
use Rattle.lua_blocks.proofs.functions.function_of_module.Goals as goal

pub open_function-requires-clause-closure : goal.open_function-requires-clause-closure
open_function-requires-clause-closure c = c.running_closure-closure.ensures.of c.args.store.now c.requires.state.functions

pub returns : goal.returns
returns c = λ l.
    on_changed c.args.store.now c.open_function.new.store c.args.state.now c.open_function.new.regs l (focus.Runs c.args.rest) (λ fs. Runs (block_seen c.args.rest.now) fs) _ _ c.requires.state c.in_ok-open_function.ensures.later
    c.in_ok-open_function.ensures.of tt (λ fs. refl) c.in_ok-open_function.ensures.named
    (names_function_at (slots_of c.args.store.now c.args.state.now) _ _ c.args.function.0 c.args.function.1 (map place_seen c.args.places.now) c.requires.title (c.running_closure-closure.ensures.cells c.args.store.now))
