use Rattle.lua_loops.proofs.passing.pass_end.Goals as goal

pub returns-in-BlockEnd : goal.returns-in-BlockEnd
returns-in-BlockEnd c = rw c.in-BlockEnd.is (c.pass_block.ensures c.args.left.now)

pub returns-in-BodyEnd : goal.returns-in-BodyEnd
returns-in-BodyEnd c = rw c.in-BodyEnd.is c.pass_body.ensures

pub returns-in-LibraryEnd : goal.returns-in-LibraryEnd
returns-in-LibraryEnd c = rw c.in-LibraryEnd.is c.pass_library.ensures

pub returns-in-WhileEnd : goal.returns-in-WhileEnd
returns-in-WhileEnd c = rw c.in-WhileEnd.is (c.pass_turn.ensures c.args.left.now)

pub returns-in-TestNext : goal.returns-in-TestNext
returns-in-TestNext c = rw c.in-TestNext.is (c.pass_turn-in-TestNext.ensures c.args.left.now)

pub returns-in-TestNow : goal.returns-in-TestNow
returns-in-TestNow c = rw c.in-TestNow.is (c.pass_turn-in-TestNow.ensures c.args.left.now)

pub returns-in-CountEnd : goal.returns-in-CountEnd
returns-in-CountEnd c = rw c.in-CountEnd.is (c.pass_turn-in-CountEnd.ensures c.args.left.now)

pub returns-in-EachEnd : goal.returns-in-EachEnd
returns-in-EachEnd c = rw c.in-EachEnd.is (c.pass_turn-in-EachEnd.ensures c.args.left.now)
