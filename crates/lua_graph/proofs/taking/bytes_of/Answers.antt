use Rattle.std.proofs.Common.{◌+◌, ◌++◌, ◌∷◌, [], drop, sym, ap, ◌∙◌, append_assoc, append-nil}
use Rattle.lua_graph.specs.Put.{named}
use Rattle.lua_graph.proofs.Places.{drop_at, drop_past}
use Rattle.lua_graph.proofs.taking.bytes_of.Goals as goal

pub returns-in-None : goal.returns-in-None
returns-in-None c =
    sym (append-nil c.loop-at.bytes)
    ∙ ap (λ l. c.loop-at.bytes ++ named c.args.store.now.texts l) (sym (drop_past c.args.texts.now.keys c.loop-at.at (sym c.in-None.ensures)))
    ∙ c.loop-at.invariant

pub loop-at-preserved : goal.loop-at-preserved
loop-at-preserved c =
    let rest = named c.args.store.now.texts (drop (c.loop-at.at + 1) c.args.texts.now.keys) in
    ap (λ l. l ++ rest) c.in_ok-push-in-Some.ensures.ok
    ∙ append_assoc c.loop-at.bytes (c.in_ok-of-in-Some.field-0 ∷ []) rest
    ∙ ap (λ t. c.loop-at.bytes ++ (t ∷ rest)) (c.in_ok-of-in-Some.ensures ∙ c.bytes.ensures)
    ∙ ap (λ l. c.loop-at.bytes ++ named c.args.store.now.texts l) (sym (drop_at c.args.texts.now.keys c.loop-at.at c.in-Some.text (sym c.in-Some.ensures)))
    ∙ c.loop-at.invariant
