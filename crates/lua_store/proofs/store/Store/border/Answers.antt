use Rattle.std.proofs.Common.{rules, ◌∙◌, ◌<◌, ap, arith, pos}
use Rattle.lua_store.proofs.Walks.{border-at}
use Rattle.lua_store.proofs.store.Store.border.Goals as goal

pub returns : goal.returns
returns c =
    let n = c.border.ensures.0 in
    let small : n < 9223372036854775808 = rw c.border.ensures.1 at c.border.type_inv in
    let least = border-at c.args.self.now c.table.ensures.once c.table.result.now _ n c.table.ensures.of c.table.ensures.table (omega (arith, small)) c.border.ensures.2 in
    let is = c.border.ensures.1 ∙ ap pos least in
    search (rules, is)
