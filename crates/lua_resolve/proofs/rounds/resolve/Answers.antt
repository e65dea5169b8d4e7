use Rattle.lua_resolve.proofs.rounds.resolve.Goals as goal

pub returns-then-gone-clause-cells : goal.returns-then-gone-clause-cells
returns-then-gone-clause-cells c = c.in_ok-gone.ensures.cells c.if-gone.true
