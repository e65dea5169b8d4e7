use Rattle.lua_turns.proofs.waiting.of_loop.Goals as goal

pub returns-in-WhileTest : goal.returns-in-WhileTest
returns-in-WhileTest c = λ fs h. rw c.in-WhileTest.is at h

pub returns-in_default : goal.returns-in_default
returns-in_default c = λ fs h. tt
