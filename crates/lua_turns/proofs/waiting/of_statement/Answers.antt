use Rattle.lua_turns.proofs.waiting.of_statement.Goals as goal

pub returns-in-StatsNext : goal.returns-in-StatsNext
returns-in-StatsNext c = λ fs h. rw c.in-StatsNext.is at h

pub returns-in-DeclareNow : goal.returns-in-DeclareNow
returns-in-DeclareNow c = λ fs h. rw c.in-DeclareNow.is at h

pub returns-in-ReturnNow : goal.returns-in-ReturnNow
returns-in-ReturnNow c = λ fs h. rw c.in-ReturnNow.is at h

pub returns-in-BranchNext : goal.returns-in-BranchNext
returns-in-BranchNext c = λ fs h. rw c.in-BranchNext.is at h
