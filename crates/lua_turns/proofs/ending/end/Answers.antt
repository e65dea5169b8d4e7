use Rattle.std.proofs.Common.{[]}
use Rattle.lua_strides.proofs.Paths.{idle_here}
use Rattle.lua_turns.proofs.ending.end.Goals as goal

pub go_on-requires : goal.go_on-requires
go_on-requires g c = rw c.in-Statements.is at c.of_newest.ensures

pub returns-in-Statements : goal.returns-in-Statements
returns-in-Statements g c = c.go_on.ensures c.args.store.now c.args.left.now c.args.turns.now [] c.requires

pub end_block-requires : goal.end_block-requires
end_block-requires g c = rw c.in-Block.is at c.of_newest.ensures

pub returns-in-Block : goal.returns-in-Block
returns-in-Block g c = c.end_block.ensures c.args.store.now c.args.left.now c.args.turns.now [] c.requires

pub end_body-requires : goal.end_body-requires
end_body-requires g c = rw c.in-Body.is at c.of_newest.ensures

pub returns-in-Body : goal.returns-in-Body
returns-in-Body g c = c.end_body.ensures c.args.store.now c.args.turns.now [] c.requires

pub end_library-requires : goal.end_library-requires
end_library-requires g c = rw c.in-Library.is at c.of_newest.ensures

pub returns-in-Library : goal.returns-in-Library
returns-in-Library g c = c.end_library.ensures c.args.store.now c.args.turns.now c.requires

pub end_while-requires : goal.end_while-requires
end_while-requires g c = rw c.in-Repeats.is at c.of_newest.ensures

pub returns-in-Repeats : goal.returns-in-Repeats
returns-in-Repeats g c = c.end_while.ensures c.args.store.now c.args.left.now c.args.turns.now [] c.requires

pub end_count-requires-clause-newest : goal.end_count-requires-clause-newest
end_count-requires-clause-newest g c = rw c.in-Counts.is at c.of_newest.ensures

pub returns-in-Counts : goal.returns-in-Counts
returns-in-Counts g c = c.end_count.ensures []

pub returns-in_default : goal.returns-in_default
returns-in_default g c = idle_here c.args.store.now c.args.state.now c.args.left.now c.args.turns.now
