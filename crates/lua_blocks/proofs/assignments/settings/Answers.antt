use Rattle.lua_blocks.proofs.Pairs.{assigns_first, assigns_next, assigns_all}
use Rattle.lua_blocks.proofs.assignments.settings.Goals as goal

pub loop-at-init : goal.loop-at-init
loop-at-init c = assigns_first c.args.store.now c.args.targets.now c.args.values c.new-pairs.result c.new-pairs.ensures c.requires.targets c.requires.values

pub loop-at-preserved : goal.loop-at-preserved
loop-at-preserved c =
    assigns_next c.args.store.now c.args.targets.now c.loop-at.at c.args.values c.loop-at.values c.take_first-value.new.self c.loop-at.pairs c.push.new.self c.in-Some.target c.take_first-value.result c.in-Some.ensures
    c.take_first-value.ensures.first c.take_first-value.ensures.rest c.in_ok-push-in-Some.ensures.ok c.loop-at.invariant

pub returns-in-None-clause-of : goal.returns-in-None-clause-of
returns-in-None-clause-of c = c.loop-at.invariant.settings_

pub returns-in-None-clause-pairs : goal.returns-in-None-clause-pairs
returns-in-None-clause-pairs c = assigns_all c.args.store.now c.args.targets.now c.loop-at.at c.args.values c.loop-at.values c.loop-at.pairs c.in-None.ensures c.loop-at.invariant
