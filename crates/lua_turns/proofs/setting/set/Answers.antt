use Rattle.lua_strides.proofs.Paths.{idle_here}
use Rattle.lua_turns.proofs.setting.set.Goals as goal

pub returns-in_default : goal.returns-in_default
returns-in_default c = λ k. idle_here c.args.store.now c.args.state.now c.args.left.now k

pub returns-in-Table : goal.returns-in-Table
returns-in-Table c = λ k. rw (c.in-At.is, c.in-Table.is) (c.set_table.ensures k)

pub returns-in-Variable : goal.returns-in-Variable
returns-in-Variable c = λ k. rw c.in-Variable.is (c.set_variable.ensures c.args.left.now k)
