use Rattle.std.proofs.Common.{◌∙◌, ap, subst, sym}
use Rattle.indexmap.specs.IndexMap.{insert_entry}
use Rattle.wk_base.specs.contracts.bytes.BytesPartialEq.TheImpl as bytes
use Rattle.lua_titled.specs.Held.{items_in, AreNamed}
use Rattle.lua_titled.specs.Seen.{titled}
use Rattle.lua_titled.proofs.HeldLemmas.{inserted, in_named}
use Rattle.lua_titled.proofs.by_title.insert.Goals as goal

pub returns-in-Ok-clause-ok : goal.returns-in-Ok-clause-ok
returns-in-Ok-clause-ok g c =
    ap (λ es. titled (items_in es)) (c.in-Ok.ensures.entries ∙ ap (λ k. insert_entry bytes.ghosts.eq c.args.items.now.entries c.in_ok-text.text (k, c.args.item)) c.in_ok-kept.ensures)
    ∙ inserted c.in_ok-text.text c.args.title c.in_ok-text.ensures c.args.item c.args.items.now.entries c.requires

pub returns-in-Ok-clause-named : goal.returns-in-Ok-clause-named
returns-in-Ok-clause-named g c =
    subst AreNamed (sym (c.in-Ok.ensures.entries ∙ ap (λ k. insert_entry bytes.ghosts.eq c.args.items.now.entries c.in_ok-text.text (k, c.args.item)) c.in_ok-kept.ensures))
    (in_named c.in_ok-text.text c.args.title c.in_ok-text.ensures c.args.item c.args.items.now.entries c.requires)
