use Rattle.lua_strides.proofs.Paths.{idle_here}
use Rattle.lua_turns.proofs.passing.pass.Goals as goal

pub pass_statements-requires : goal.pass_statements-requires
pass_statements-requires c = rw c.in-Statements.is at c.of_newest.ensures

pub returns-in-Statements : goal.returns-in-Statements
returns-in-Statements c = λ k. c.pass_statements.ensures c.args.store.now c.args.left.now k c.requires.state c.requires.value

pub pass_block-requires : goal.pass_block-requires
pass_block-requires c = rw c.in-Block.is at c.of_newest.ensures

pub returns-in-Block : goal.returns-in-Block
returns-in-Block c = λ k. c.pass_block.ensures c.args.store.now c.args.left.now k c.requires.state c.requires.value

pub pass_count-requires : goal.pass_count-requires
pass_count-requires c = rw c.in-Counts.is at c.of_newest.ensures

pub returns-in-Counts : goal.returns-in-Counts
returns-in-Counts c = λ k. c.pass_count.ensures c.args.store.now c.args.left.now k c.requires.state c.requires.value

pub pass_while-requires : goal.pass_while-requires
pass_while-requires c = rw c.in-Repeats.is at c.of_newest.ensures

pub returns-in-Repeats : goal.returns-in-Repeats
returns-in-Repeats c = λ k. c.pass_while.ensures c.args.store.now c.args.left.now k c.requires.state c.requires.value

pub pass_body-requires : goal.pass_body-requires
pass_body-requires c = rw c.in-Body.is at c.of_newest.ensures

pub returns-in-Body : goal.returns-in-Body
returns-in-Body c = λ k. c.pass_body.ensures c.args.store.now k c.requires.state c.requires.value

pub returns-in_default : goal.returns-in_default
returns-in_default c = λ k. idle_here c.args.store.now c.args.state.now c.args.left.now k
