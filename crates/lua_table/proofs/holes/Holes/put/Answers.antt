use Rattle.std.proofs.Common.{◌∙◌}
use Rattle.std.proofs.lemmas.List.{drop-set-add}
use Rattle.lua_table.proofs.holes.Holes.put.Goals as goal

pub returns-then-index-mark : goal.returns-then-index-mark
returns-then-index-mark c = rw (← c.self.view_is) (c.put_leaf.ensures.leaves ∙ drop-set-add c.self.inside.width c.self.inside.nodes.items c.args.place c.args.mark)
