use Rattle.std.proofs.Common.{ap}
use Rattle.lua_operators.specs.LuaStoreSeen.{StoreView}
use Rattle.lua_evals.proofs.NewClosure.{made}
use Rattle.lua_evals.proofs.closures.closure_in.Goals as goal

pub captures-requires-clause-closure : goal.captures-requires-clause-closure
captures-requires-clause-closure c = c.running_closure-running.ensures.of c.args.store.now c.requires.state.functions

pub returns : goal.returns
returns c = λ l.
    made c.args.store.now c.new_closure.new.self c.args.state.now l c.in_ok-id.id c.args.source c.args.index c.args.places.now c.in_ok-cells.cells c.requires.state c.in_ok-id.ensures.later c.in_ok-id.ensures.of
    c.in_ok-id.ensures.id (ap (λ (x : StoreView). x.heap) c.in_ok-id.ensures.made) c.requires.title
    (rw (c.running_closure-running.ensures.cells c.args.store.now) at c.in_ok-cells.ensures.cells)
