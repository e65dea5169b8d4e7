use Rattle.std.proofs.Common.{◌≡◌, ◌∙◌, ◌+◌, ◌∷◌, [], map, drop, refl, ap, arith}
use Rattle.std.proofs.lemmas.List.{drop_all}
use Rattle.lua_code.specs.Seen.{target_seen}
use Rattle.lua_flat_code.proofs.Handed.{next_item}
use Rattle.lua_flat_code.proofs.TargetLaws.{targets_start, targets_step, targets_refused, targets_end}
use Rattle.lua_flat_code.proofs.maker.Maker.targets.Goals as goal

pub loop-target-init : goal.loop-target-init
loop-target-init c = targets_start _ _ _ _ c.new-found.ensures

pub loop-target-preserved : goal.loop-target-preserved
loop-target-preserved c =
    targets_step _ _ _ _ _ _ _ _ _ _ _ _ c.loop-target.invariant (ap (map target_seen) (next_item c.args.targets.now c.loop-target.target-index c.target-item.result c.target-item.is c.loop-target-test.true)) c.in_ok-at.ensures

pub returns-then-is_refused : goal.returns-then-is_refused
returns-then-is_refused c =
    targets_refused _ _ _ _ _ _ _ _ c.loop-target.invariant (ap (map target_seen) (next_item c.args.targets.now c.loop-target.target-index c.target-item.result c.target-item.is c.loop-target-test.true) ∙ ap (λ x. x ∷ map target_seen (drop (c.loop-target.target-index + 1) c.args.targets.now)) (c.is_refused.ensures c.if-is_refused.true)) refl

pub returns : goal.returns
returns c =
    let none : drop c.loop-target.target-index c.args.targets.now ≡ [] = drop_all c.loop-target.target-index c.args.targets.now (omega (arith, c.loop-target-test.false)) in
    targets_end _ _ _ _ _ _ c.loop-target.invariant (ap (map target_seen) none) refl
