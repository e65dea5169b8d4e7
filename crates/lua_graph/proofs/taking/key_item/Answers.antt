use Rattle.std.proofs.Common.{refl, sym, subst}
use Rattle.lua_walk.specs.Data as walk
use Rattle.lua_store.specs.Seen.{seen}
use Rattle.lua_store.specs.Parts.{IsOf}
use Rattle.lua_graph.specs.declared.graph.GraphItem.TheVariants as item
use Rattle.lua_graph.specs.Taken.{IsRead}
use Rattle.lua_graph.proofs.Grown.{read_text}
use Rattle.lua_graph.proofs.taking.key_item.Goals as goal

pub returns-in-Ok-clause-ok : goal.returns-in-Ok-clause-ok
returns-in-Ok-clause-ok c = λ s of.
    subst (λ v. IsRead s c.args.texts.now.keys c.place_of_text.new.texts.keys (walk.key_of (seen s.texts v)) (item.Text c.in-Ok.at)) (sym c.in-Text.is)
    (read_text s c.args.texts.now.keys c.place_of_text.new.texts.keys c.in-Text.text c.in-Ok.at _ c.in-Ok.ensures.texts c.in-Ok.ensures.at (subst (IsOf s) c.in-Text.is of) refl)
