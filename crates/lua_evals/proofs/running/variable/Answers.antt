use Rattle.std.proofs.Common.{◌∙◌, ap}
use Rattle.lua_code.specs.Seen.{place_seen}
use Rattle.lua_state.specs.LuaStackPlaces.{value_at}
use Rattle.lua_operators.specs.LuaStackSeen.{registers_seen}
use Rattle.lua_state.specs.Seen.{slots_of}
use Rattle.lua_evals.proofs.Places.{reads}
use Rattle.lua_evals.proofs.running.variable.Goals as goal

pub read-requires-clause-closure : goal.read-requires-clause-closure
read-requires-clause-closure c = c.running_closure-closure.ensures.of c.args.store.now c.requires.functions

pub returns-clause-value : goal.returns-clause-value
returns-clause-value c =
    c.read.ensures.value ∙ ap (λ cells. value_at c.args.store.now.heap (registers_seen c.args.store.now.texts c.args.state.now.regs) cells (place_seen c.args.place)) (c.running_closure-closure.ensures.cells c.args.store.now)
    ∙ reads (slots_of c.args.store.now c.args.state.now) (place_seen c.args.place)
