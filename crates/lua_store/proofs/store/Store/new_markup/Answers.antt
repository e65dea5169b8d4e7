use Rattle.std.proofs.Common.{sym, subst}
use Rattle.lua_store.specs.Parts.{IsNodeOf}
use Rattle.lua_store.proofs.Changes.{made_markup}
use Rattle.lua_store.proofs.store.Store.new_markup.Goals as goal

pub invariant_of-self-2 : goal.invariant_of-self-2
invariant_of-self-2 c =
    let of = subst (λ s. IsNodeOf s c.args.node) (sym c.self.view_is) c.requires in
    rw c.in_ok-push.ensures.ok.1 (made_markup _ c.self.invariant c.args.node of).whole
