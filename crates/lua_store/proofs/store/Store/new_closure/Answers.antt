use Rattle.std.proofs.Common.{sym, subst, refl}
use Rattle.lua_store.specs.Parts.{IsContentOf}
use Rattle.lua_store.proofs.Changes.{made_closure, later_of}
use Rattle.lua_store.proofs.store.Store.new_closure.Goals as goal

pub invariant_of-self-2 : goal.invariant_of-self-2
invariant_of-self-2 c =
    let of = subst (λ s. IsContentOf s (record { kind = c.args.kind; env = c.self.inside.env; cells = c.args.cells })) (sym c.self.view_is) (record { kind = c.requires.kind; cells = c.requires.cells }) in
    rw c.in_ok-push.ensures.ok.1 (made_closure _ c.self.invariant _ of refl).whole

pub returns-clause-later : goal.returns-clause-later
returns-clause-later c =
    let of = subst (λ s. IsContentOf s (record { kind = c.args.kind; env = c.self.inside.env; cells = c.args.cells })) (sym c.self.view_is) (record { kind = c.requires.kind; cells = c.requires.cells }) in
    rw (← c.self.view_is, c.in_ok-push.ensures.ok.1) (later_of _ _ _ (made_closure _ c.self.invariant _ of refl))
