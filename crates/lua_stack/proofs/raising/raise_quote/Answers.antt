use Rattle.lua_stack.proofs.raising.raise_quote.Goals as goal

pub raise_text-requires : goal.raise_text-requires
raise_text-requires c = rw c.in-Some.is at c.requires

pub returns-in_ok-raising-in-None-clause-move_ : goal.returns-in_ok-raising-in-None-clause-move_
returns-in_ok-raising-in-None-clause-move_ c = λ frames of s in_progress tally. rw c.in-None.is (c.in_ok-raising-in-None.ensures.move_ frames of s in_progress tally)

pub returns-in_ok-raising-in-Some-clause-move_ : goal.returns-in_ok-raising-in-Some-clause-move_
returns-in_ok-raising-in-Some-clause-move_ c = λ frames of s in_progress tally. rw c.in-Some.is (c.in_ok-raising-in-Some.ensures.move_ frames of s in_progress tally)
