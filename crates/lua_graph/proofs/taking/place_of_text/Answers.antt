use Rattle.std.proofs.Common.{sym, ap, ◌∙◌}
use Rattle.std.proofs.lemmas.Bool.{eqb-true}
use Rattle.std.specs.Prelude.{Some}
use Rattle.lua_store.specs.declared.ids.TextId.{TextId}
use Rattle.lua_graph.proofs.taking.place_of_text.Goals as goal

pub returns-in-Ok-clause-at : goal.returns-in-Ok-clause-at
returns-in-Ok-clause-at c =
    let k = c.in-Ok.ensures.stored in
    k.1 ∙ ap (λ n. let x : TextId = record { at = n } in Some x) (sym (eqb-true c.args.text.at k.0.at k.2))
