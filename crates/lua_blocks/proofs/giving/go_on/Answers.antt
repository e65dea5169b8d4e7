use Rattle.lua_state.specs.LuaStackDeclaredFocusFocusTheVariants as focus
use Rattle.lua_state.specs.LuaStackDeclaredFocusJumpTheVariants as jump
use Rattle.lua_blocks.proofs.Parts.{on}
use Rattle.lua_blocks.proofs.Pairs.{seen_first}
use Rattle.lua_blocks.proofs.giving.go_on.Goals as goal

pub returns-in-DeclareNow : goal.returns-in-DeclareNow
returns-in-DeclareNow c = λ world. rw c.in-DeclareNow.is (c.declared.ensures c.args.left.now)

pub returns-in-StatsNext : goal.returns-in-StatsNext
returns-in-StatsNext c = λ world. rw c.in-StatsNext.is (on c.args.store.now c.args.state.now c.args.state.now.frames c.args.left.now (focus.Runs c.in-StatsNext.rest) c.requires.state c.requires.state.frames tt)

pub returns-in-BranchNext : goal.returns-in-BranchNext
returns-in-BranchNext c = λ world. rw (c.in-BranchNext.is, ← seen_first c.args.store.now.texts c.args.values c.first-first.result c.first-first.ensures) c.tested.ensures

pub returns : goal.returns
returns c = λ world. rw c.in-ReturnNow.is (on c.args.store.now c.args.state.now c.args.state.now.frames c.args.left.now (focus.Jumps (jump.Returned c.args.values)) c.requires.state c.requires.state.frames c.requires.values)
