use Rattle.std.proofs.Common.{sym, subst}
use Rattle.lua_store.specs.Parts.{IsNodeOf}
use Rattle.lua_store.proofs.Lists.{all-get}
use Rattle.lua_store.proofs.Later.{node_of-later}
use Rattle.lua_store.proofs.Changes.{put_markup, markup-seen}
use Rattle.lua_store.proofs.store.Store.swap_markup.Goals as goal

pub invariant_of-self : goal.invariant_of-self
invariant_of-self c =
    let of = subst (λ s. IsNodeOf s c.args.node) (sym c.self.view_is) c.requires.node in
    rw (c.replace.ensures.set, c.place.ensures) (put_markup _ c.self.invariant c.args.id.at c.args.node of).whole

pub returns-clause-set : goal.returns-clause-set
returns-clause-set c =
    let of = subst (λ s. IsNodeOf s c.args.node) (sym c.self.view_is) c.requires.node in
    rw (← c.self.view_is, c.replace.ensures.set, c.place.ensures) (put_markup _ c.self.invariant c.args.id.at c.args.node of).shown

pub returns-clause-was : goal.returns-clause-was
returns-clause-was c = rw (← c.self.view_is) (markup-seen _ c.self.invariant c.args.id.at c.replace.result (rw c.place.ensures at c.replace.ensures.was))

pub returns-clause-of : goal.returns-clause-of
returns-clause-of c =
    let of = subst (λ s. IsNodeOf s c.args.node) (sym c.self.view_is) c.requires.node in
    let became = put_markup _ c.self.invariant c.args.id.at c.args.node of in
    let was = all-get (IsNodeOf _) c.self.inside.markup.items c.place.result c.replace.result c.self.invariant.own.markup c.replace.ensures.was in
    rw (c.replace.ensures.set, c.place.ensures) (subst (λ s. IsNodeOf s c.replace.result) (sym became.shown) (node_of-later _ _ became.later c.replace.result was))
