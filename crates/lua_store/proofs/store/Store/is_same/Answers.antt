use Rattle.std.proofs.Common.{subst, ◌∙◌}
use Rattle.std.specs.List.{IsDistinct}
use Rattle.std.specs.Str.{bytes_eq}
use Rattle.lua_store.proofs.Equal.{eq-seen}
use Rattle.lua_store.proofs.store.Store.is_same.Goals as goal

pub returns : goal.returns
returns c =
    let once = subst (λ s. IsDistinct bytes_eq s.texts) c.self.view_is c.self.invariant.distinct in
    c.eq.ensures ∙ eq-seen c.args.self.now once c.args.a c.args.b c.requires.a c.requires.b
