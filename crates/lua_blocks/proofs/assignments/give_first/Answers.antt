use Rattle.lua_state.specs.LuaStackDeclaredFocusFocusTheVariants as focus
use Rattle.lua_blocks.proofs.Parts.{on}
use Rattle.lua_blocks.proofs.Pairs.{seen_first}
use Rattle.lua_blocks.proofs.assignments.give_first.Goals as goal

pub returns-in-TargetKey : goal.returns-in-TargetKey
returns-in-TargetKey c = λ world l. rw (c.in-TargetKey.is, ← seen_first c.args.store.now.texts c.args.values c.args.first c.requires.same) (c.wait.ensures l)

pub returns-in-TargetNow : goal.returns-in-TargetNow
returns-in-TargetNow c = λ world l. rw (c.in-TargetNow.is, ← c.into_inner-before.ensures, ← seen_first c.args.store.now.texts c.args.values c.args.first c.requires.same) (c.found.ensures l)

pub returns-in-AssignNow : goal.returns-in-AssignNow
returns-in-AssignNow c = λ world l. rw c.in-AssignNow.is (c.assigned.ensures l)

pub returns-in-SetsNext : goal.returns-in-SetsNext
returns-in-SetsNext c = λ world l. rw c.in-SetsNext.is (on c.args.store.now c.args.state.now c.args.state.now.frames l (focus.Sets c.in-SetsNext.pairs) c.requires.state c.requires.state.frames (rw c.in-SetsNext.is at c.requires.frame))
