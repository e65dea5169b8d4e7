use Rattle.std.proofs.Common.{◌≡◌, ◌++◌, ◌∷◌, [], drop, ap, inl, inr, arith}
use Rattle.std.proofs.lemmas.List.{drop_all}
use Rattle.std.proofs.lemmas.Result.{on_ok_weaker}
use Rattle.lua_code.specs.Seen.{expressions_seen}
use Rattle.lua_flat_code.proofs.Handed.{next_item, some_behind}
use Rattle.lua_flat_code.proofs.ListLaws.{exact_start, exact_turn, exact_said_by}
use Rattle.lua_flat_code.proofs.maker.Maker.exact_of.Goals as goal
use Rattle.lua_flat_code.proofs.maker.Maker.exact_of.Goals.{then-missing-gt0, else-missing-gt0}

pub loop-e-init : goal.loop-e-init
loop-e-init c = exact_start _ _ _ _

pub loop-e-preserved : goal.loop-e-preserved
loop-e-preserved c =
    exact_turn _ _ _ _ _ _ _ _ _ _ _ _ _ _ _ c.in_ok-next.ensures.0 (ap (λ es. es ++ c.args.last.now ∷ []) (next_item c.args.front.now c.loop-e.e-index c.e-item.result c.e-item.is c.loop-e-test.true)) (some_behind _ _)
    (elim c.if-missing-gt0.branch [ then-missing-gt0 w ↦ inl (omega (arith, w.missing-is, w.if-missing-gt0.true), w.at-is) | else-missing-gt0 w ↦ inr (omega (arith, w.if-missing-gt0.false), omega (arith, w.missing-is, w.if-missing-gt0.false), w.at-is) ])
    c.loop-e.invariant c.in_ok-next.ensures.1 c.in_ok-value.ensures

pub returns : goal.returns
returns c =
    let none : drop c.loop-e.e-index c.args.front.now ≡ [] = drop_all c.loop-e.e-index c.args.front.now (omega (arith, c.loop-e-test.false)) in
    on_ok_weaker c.exact_last.result (λ h. exact_said_by _ _ _ _ _ _ _ _ _ _ c.loop-e.invariant (ap (λ es. expressions_seen (es ++ c.args.last.now ∷ [])) none) h) c.exact_last.ensures
