use Rattle.page_cases.proofs.jobs.end_of.Given as goal

abbrev pub ghosts-ended : goal.ghosts-ended
ghosts-ended a = record { name = a.blank.name; parts = a.blank.parts }
