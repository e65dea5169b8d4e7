use Rattle.lua_machine_cases.proofs.runs.run_in.Given as goal

-- the counter of turns has the ledger of its blank
abbrev pub ghosts-run_started : goal.ghosts-run_started
ghosts-run_started a = record { name = a.blank.name; parts = a.blank.parts }
