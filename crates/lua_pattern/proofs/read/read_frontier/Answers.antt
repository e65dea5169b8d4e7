use Rattle.lua_pattern.proofs.Sets.{frontier_reads}
use Rattle.lua_pattern.proofs.read.read_frontier.Goals as goal

pub returns-in-Ok-Some-clause-step : goal.returns-in-Ok-Some-clause-step
returns-in-Ok-Some-clause-step c = λ r.
    let e = rw c.in-Ok-Some.field-0-is at c.in-Ok-Some.ensures in
    frontier_reads c.args.text.now c.in-Some.rest.now c.in-Ok-Some.after.now c.in-Some.symbol c.in-Ok-Some.set r c.in-Some.ensures c.if-symbol-ne91.false e.0 e.1
