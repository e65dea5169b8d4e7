use Rattle.lua_iterators.proofs.cells.iterator_cells.Goals as goal

pub returns-in-Closure-clause-of : goal.returns-in-Closure-clause-of
returns-in-Closure-clause-of c = c.closure_cells.ensures.of c.args.store.now c.closure.ensures.of
