use Rattle.lua_store.proofs.Walks.{next-at}
use Rattle.lua_store.proofs.store.Store.next.Goals as goal

pub returns-clause-of : goal.returns-clause-of
returns-clause-of c =
    (next-at c.args.self.now c.table.ensures.once c.table.result.now _ c.args.key c.next.result c.table.ensures.of c.table.ensures.table c.requires.key (c.next.ensures.first, c.next.ensures.later)).1

pub returns-clause-next : goal.returns-clause-next
returns-clause-next c =
    (next-at c.args.self.now c.table.ensures.once c.table.result.now _ c.args.key c.next.result c.table.ensures.of c.table.ensures.table c.requires.key (c.next.ensures.first, c.next.ensures.later)).0
