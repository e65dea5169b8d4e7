use Rattle.lua_store.proofs.Walks.{get-at, got-of}
use Rattle.lua_store.proofs.store.Store.get.Goals as goal

pub returns-clause-of : goal.returns-clause-of
returns-clause-of c = rw c.get.ensures (got-of c.args.self.now c.table.ensures.once c.table.result.now c.args.key c.table.ensures.of)

pub returns-clause-value : goal.returns-clause-value
returns-clause-value c = rw c.get.ensures (get-at c.args.self.now c.table.ensures.once c.table.result.now _ c.args.key c.table.ensures.of c.table.ensures.table c.requires.key)
