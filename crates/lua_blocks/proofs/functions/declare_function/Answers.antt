use Rattle.std.proofs.lemmas.Result.{IfOk-weaker}
use Rattle.std.proofs.Common.{◌∙◌, ap, sym}
use Rattle.std.specs.Prelude.{map}
use Rattle.lua_code.specs.Seen.{place_seen, block_seen}
use Rattle.lua_state.specs.LuaSlotsPoints.{Now, Runs}
use Rattle.lua_state.specs.LuaSlotsSlots.{Slots, with_function_named, function_of}
use Rattle.lua_state.proofs.Staying.{state_later, slots_same}
use Rattle.lua_blocks.proofs.Parts.{over_text}
use Rattle.lua_blocks.proofs.functions.declare_function.Goals as goal

pub function_of_module-requires-clause-state : goal.function_of_module-requires-clause-state
function_of_module-requires-clause-state c = state_later c.args.store.now c.running_source.new.store c.in_ok-source.ensures.later c.args.state.now c.requires.state

pub function_of_module-requires-clause-title : goal.function_of_module-requires-clause-title
function_of_module-requires-clause-title c =
    c.in_ok-source.ensures.title ∙ ap (λ (x : Slots). (function_of x).source) (sym (slots_same c.args.store.now c.running_source.new.store c.in_ok-source.ensures.later c.args.state.now c.requires.state c.in_ok-source.ensures.heap))

pub returns : goal.returns
returns c = λ l.
    IfOk-weaker c.function_of_module.result _ _ (λ r e. over_text c.args.store.now c.running_source.new.store c.function_of_module.new.store c.args.state.now c.function_of_module.new.state l l _
    (λ fs s. Now (Runs (block_seen c.args.rest.now) fs) (with_function_named c.args.function.0 c.args.function.1 (map place_seen c.args.places.now) s)) c.requires.state c.in_ok-source.ensures.later c.in_ok-source.ensures.heap e) (c.function_of_module.ensures l)
