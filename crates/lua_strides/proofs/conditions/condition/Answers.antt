use Rattle.lua_code.proofs.Views.{branch_opens}
use Rattle.lua_strides.proofs.Paths.{idle_here}
use Rattle.lua_strides.proofs.conditions.condition.Goals as goal

pub returns-in-Some : goal.returns-in-Some
returns-in-Some g c = rw (c.in-Some.ensures, branch_opens) c.test_first.ensures

pub returns-in-None : goal.returns-in-None
returns-in-None g c = idle_here c.args.store.now c.args.state.now c.args.left.now c.args.turns.now
