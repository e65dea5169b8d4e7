use Rattle.page_driver.proofs.asking.ask_data.Goals as goal

pub ask_known_data-requires-clause-held : goal.ask_known_data-requires-clause-held
ask_known_data-requires-clause-held g c = rw c.in-Some.is at c.is_held.ensures

pub ask_known_data-requires-clause-progress : goal.ask_known_data-requires-clause-progress
ask_known_data-requires-clause-progress g c = c.requires

pub returns-in-Some-clause-moves : goal.returns-in-Some-clause-moves
returns-in-Some-clause-moves g c = c.ask_known_data.ensures.moves

pub returns-in-Some-clause-sinks : goal.returns-in-Some-clause-sinks
returns-in-Some-clause-sinks g c = c.ask_known_data.ensures.sinks
