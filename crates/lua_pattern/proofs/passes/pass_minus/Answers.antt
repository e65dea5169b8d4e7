use Rattle.std.proofs.Common.{◌≡◌, ◌+◌, ◌<◌, ◌≤◌, ◌∷◌, ◌-◌, drop, length, arith, length-drop}
use Rattle.lua_pattern.specs.declared.items.Run.TheVariants.{Few}
use Rattle.lua_pattern.specs.Runs.{leading}
use Rattle.lua_pattern.proofs.RunLemmas.{few_leads, leading_fits}
use Rattle.lua_pattern.proofs.StepLemmas.{minus_step}
use Rattle.lua_pattern.proofs.Loads.{minus_load}
use Rattle.lua_pattern.proofs.passes.pass_minus.Goals as goal

pub returns-clause-follows : goal.returns-clause-follows
returns-clause-follows g c =
    let b = c.behind_few-next.ensures c.args.items.now c.requires.few (few_leads (drop c.args.index c.args.items.now) (drop (c.args.index + 1) c.args.items.now) c.args.single.now c.requires.item) in
    minus_step g.A.Alphabet.letters c.args.items.now c.args.subject.now c.args.single.now (drop (c.args.index + 1) c.args.items.now) c.args.index c.behind_few-next.result c.args.at
    c.args.left.now c.args.trail.now c.up.new.self c.requires.item b.0 b.1 c.in_ok-up.ensures

pub returns-clause-lighter : goal.returns-clause-lighter
returns-clause-lighter g c =
    let items = c.args.items.now in
    let b = c.behind_few-next.ensures items c.requires.few (few_leads (drop c.args.index items) (drop (c.args.index + 1) items) c.args.single.now c.requires.item) in
    let fits : leading Few (drop c.args.index items) ≤ length (drop c.args.index items) = leading_fits Few (drop c.args.index items) in
    let d : length (drop c.args.index items) ≡ length items - c.args.index = length-drop c.args.index items in
    minus_load (length items) (length c.args.subject.now) c.args.index c.behind_few-next.result c.args.at c.args.left.now c.args.trail.now c.up.new.self
    b.0 (omega (arith, b.1, fits, d, c.requires.inside)) c.in_ok-up.ensures
