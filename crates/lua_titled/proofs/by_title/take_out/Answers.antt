use Rattle.std.proofs.Common.{◌∙◌, ap, subst, sym}
use Rattle.lua_titled.specs.Held.{items_in, AreNamed}
use Rattle.lua_titled.specs.Seen.{titled}
use Rattle.lua_titled.proofs.HeldLemmas.{taken_out, out_named}
use Rattle.lua_titled.proofs.by_title.take_out.Goals as goal

pub returns-clause-ok : goal.returns-clause-ok
returns-clause-ok g c = ap (λ es. titled (items_in es)) c.shift_remove.ensures.entries ∙ taken_out c.in_ok-text.text c.args.title.now c.in_ok-text.ensures c.args.items.now.entries c.requires

pub returns-clause-named : goal.returns-clause-named
returns-clause-named g c = subst AreNamed (sym c.shift_remove.ensures.entries) (out_named c.in_ok-text.text c.args.title.now c.in_ok-text.ensures c.args.items.now.entries c.requires)
