use Rattle.page_cases.proofs.expanded.counted.Given as goal

abbrev pub ghosts-page_of : goal.ghosts-page_of
ghosts-page_of a = record { name = a.blank.name; parts = a.blank.parts }
