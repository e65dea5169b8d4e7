use Rattle.lua_turns.proofs.waiting.of_ending.Goals as goal

pub returns-in-BlockEnd : goal.returns-in-BlockEnd
returns-in-BlockEnd c = λ fs h. rw c.in-BlockEnd.is at h

pub returns-in-BodyEnd : goal.returns-in-BodyEnd
returns-in-BodyEnd c = λ fs h. rw c.in-BodyEnd.is at h

pub returns-in-LibraryEnd : goal.returns-in-LibraryEnd
returns-in-LibraryEnd c = λ fs h. rw c.in-LibraryEnd.is at h

pub returns-in-WhileEnd : goal.returns-in-WhileEnd
returns-in-WhileEnd c = λ fs h. rw c.in-WhileEnd.is at h

pub returns-in_default : goal.returns-in_default
returns-in_default c = λ fs h. tt
