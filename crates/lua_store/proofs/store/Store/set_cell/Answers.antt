use Rattle.std.proofs.Common.{sym, subst}
use Rattle.lua_store.specs.Parts.{IsOf}
use Rattle.lua_store.proofs.Changes.{put_cell}
use Rattle.lua_store.proofs.store.Store.set_cell.Goals as goal

pub returns-clause-set : goal.returns-clause-set
returns-clause-set c =
    let of = subst (λ s. IsOf s c.args.value) (sym c.self.view_is) c.requires.value in
    rw (← c.self.view_is, c.place-at.ensures) (put_cell _ c.self.invariant c.args.id.at c.args.value of).shown
