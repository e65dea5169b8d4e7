use Rattle.lua_loops.proofs.Parts.{seen_first}
use Rattle.lua_loops.proofs.giving.give_first.Goals as goal

pub returns-in-WhileTest : goal.returns-in-WhileTest
returns-in-WhileTest c = λ world. rw (c.in-WhileTest.is, ← seen_first c.args.store.now.texts c.args.values c.args.first c.requires.same) c.test_while.ensures

pub returns-in-CountFrom : goal.returns-in-CountFrom
returns-in-CountFrom c = λ world. rw (c.in-CountFrom.is, ← seen_first c.args.store.now.texts c.args.values c.args.first c.requires.same) (c.wait.ensures c.args.left.now)

pub returns-in-CountTo : goal.returns-in-CountTo
returns-in-CountTo c = λ world. rw (c.in-CountTo.is, ← seen_first c.args.store.now.texts c.args.values c.args.first c.requires.same) c.two_bounds.ensures

pub returns-in-CountBy : goal.returns-in-CountBy
returns-in-CountBy c = λ world. rw (c.in-CountBy.is, ← seen_first c.args.store.now.texts c.args.values c.args.first c.requires.same) c.three_bounds.ensures

pub returns-in-EachValues : goal.returns-in-EachValues
returns-in-EachValues c = λ world. rw c.in-EachValues.is c.begin_each.ensures

pub returns-in-EachNext : goal.returns-in-EachNext
returns-in-EachNext c = λ world. rw c.in-EachNext.is c.next_results.ensures
