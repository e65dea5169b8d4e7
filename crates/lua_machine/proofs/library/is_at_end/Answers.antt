use Rattle.lua_machine.proofs.library.is_at_end.Goals as goal

pub returns-in-Library-clause-newest : goal.returns-in-Library-clause-newest
returns-in-Library-clause-newest c = λ yes. rw c.in-Library.is at c.of_newest.ensures
