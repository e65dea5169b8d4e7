use Rattle.std.proofs.Common.{◌∙◌, ◌∷◌, sym, ap, drop, arith, ◌+◌}
use Rattle.std.proofs.lemmas.List.{drop_all, drop_more}
use Rattle.lua_scopes.proofs.SpotLaws.{given_start, given_step, given_end}
use Rattle.lua_scopes.proofs.level.give_back.Goals as goal

pub loop-capture-init : goal.loop-capture-init
loop-capture-init c = given_start _ _

pub loop-capture-preserved : goal.loop-capture-preserved
loop-capture-preserved c = given_step _ _ c.capture-item.result _ _ _ _ c.loop-capture.invariant (drop_more c.args.captures.now c.loop-capture.capture-index c.capture-item.result c.loop-capture-test.true ∙ ap (λ y. y ∷ drop (c.loop-capture.capture-index + 1) c.args.captures.now) (sym c.capture-item.is)) c.in_ok-note.ensures

pub returns : goal.returns
returns c = given_end _ _ _ _ c.loop-capture.invariant (drop_all c.loop-capture.capture-index c.args.captures.now (omega (arith, c.loop-capture-test.false)))
