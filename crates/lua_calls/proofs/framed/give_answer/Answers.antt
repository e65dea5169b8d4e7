use Rattle.lua_calls.proofs.framed.give_answer.Goals as goal

pub returns-in-Gives : goal.returns-in-Gives
returns-in-Gives c = rw (c.in-Gives.is, ← c.of_list.ensures) (c.give_all.ensures c.args.left.now)

pub returns-in_ok-turn-in-Quotes : goal.returns-in_ok-turn-in-Quotes
returns-in_ok-turn-in-Quotes c = rw c.in-Quotes.is c.in_ok-turn-in-Quotes.ensures

pub returns-in-Asks : goal.returns-in-Asks
returns-in-Asks c = rw c.in-Asks.is (c.ask.ensures c.args.left.now)

pub pairs-requires-clause-arguments : goal.pairs-requires-clause-arguments
pairs-requires-clause-arguments c = rw c.in_ok-arguments-in-Walks.ensures ((rw c.in-Walks.is at c.requires.answer), tt)

pub returns-in_ok-turn-in-Walks : goal.returns-in_ok-turn-in-Walks
returns-in_ok-turn-in-Walks c = rw c.in-Walks.is (rw c.in_ok-arguments-in-Walks.ensures at c.in_ok-turn-in-Walks.ensures)
