use Rattle.lua_store.proofs.Walks.{has-at}
use Rattle.lua_store.proofs.store.Store.has.Goals as goal

pub returns : goal.returns
returns c = has-at c.args.self.now c.table.ensures.once c.table.result.now _ c.args.key c.has.result c.table.ensures.of c.table.ensures.table c.requires.key c.has.ensures
