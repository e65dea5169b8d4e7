use Rattle.lua_acts.proofs.protected.caught_twice.Goals as goal

pub returns-in-Raised : goal.returns-in-Raised
returns-in-Raised c = λ l. rw c.in-Raised.is (c.failed_twice.ensures l)

pub returns-in-Returned : goal.returns-in-Returned
returns-in-Returned c = λ l. rw c.in-Returned.is (c.pass.ensures l)

pub returns-in-Broke : goal.returns-in-Broke
returns-in-Broke c = λ l. rw c.in-Broke.is (c.pass-in-Broke.ensures l)
