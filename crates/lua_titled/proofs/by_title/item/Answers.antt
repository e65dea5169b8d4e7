use Rattle.std.proofs.Common.{◌∙◌}
use Rattle.lua_titled.proofs.HeldLemmas.{found}
use Rattle.lua_titled.proofs.by_title.item.Goals as goal

pub returns : goal.returns
returns g c = c.copied.ensures ∙ c.find-found.ensures ∙ found c.in_ok-text.text c.args.title.now c.in_ok-text.ensures c.args.items.now.entries c.requires
