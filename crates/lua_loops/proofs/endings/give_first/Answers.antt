use Rattle.std.proofs.Common.{rules, w64}
use Rattle.std.proofs.lemmas.Int.{to_z-of_z}
use mir.Val.{SFits}
use Rattle.lua_loops.proofs.Parts.{seen_first}
use Rattle.lua_loops.proofs.endings.give_first.Goals as goal

pub returns-in-BlockEnd : goal.returns-in-BlockEnd
returns-in-BlockEnd c = λ world. rw c.in-BlockEnd.is (c.end_block.ensures c.args.left.now)

pub returns-in-BodyEnd : goal.returns-in-BodyEnd
returns-in-BodyEnd c = λ world. rw c.in-BodyEnd.is c.end_function.ensures

pub returns-in-LibraryEnd : goal.returns-in-LibraryEnd
returns-in-LibraryEnd c = λ world. rw c.in-LibraryEnd.is c.leave_for.ensures

pub returns-in-WhileEnd : goal.returns-in-WhileEnd
returns-in-WhileEnd c = λ world. rw c.in-WhileEnd.is (c.end_while.ensures c.args.left.now)

pub returns-in-TestNext : goal.returns-in-TestNext
returns-in-TestNext c = λ world. rw c.in-TestNext.is (c.end_body.ensures c.args.left.now)

pub returns-in-TestNow : goal.returns-in-TestNow
returns-in-TestNow c = λ world. rw (c.in-TestNow.is, ← seen_first c.args.store.now.texts c.args.values c.args.first c.requires.same) c.end_repeat.ensures

pub returns-in-CountEnd : goal.returns-in-CountEnd
returns-in-CountEnd c = λ world.
    let index : SFits w64 c.in-CountEnd.index = search rules in
    let limit : SFits w64 c.in-CountEnd.limit = search rules in
    let step : SFits w64 c.in-CountEnd.step = search rules in
    rw c.in-CountEnd.is (rw (to_z-of_z w64 c.in-CountEnd.index index, to_z-of_z w64 c.in-CountEnd.limit limit, to_z-of_z w64 c.in-CountEnd.step step) at c.end_count.ensures)

pub returns-in-EachEnd : goal.returns-in-EachEnd
returns-in-EachEnd c = λ world. rw c.in-EachEnd.is c.end_each.ensures
