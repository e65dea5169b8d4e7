use Rattle.std.proofs.Common.{◌≡◌, ◌+◌, ◌-◌, drop, length, arith}
use Rattle.lua_pattern.specs.Way.{way}
use Rattle.lua_pattern.specs.Trail.{tried}
use Rattle.lua_pattern.proofs.StepLemmas.{star_step}
use Rattle.lua_pattern.proofs.Loads.{star_load}
use Rattle.lua_pattern.proofs.passes.pass_star.Goals as goal

pub returns-in_ok-now-in-Some-clause-follows : goal.returns-in_ok-now-in-Some-clause-follows
returns-in_ok-now-in-Some-clause-follows g c =
    let a = g.A.Alphabet.letters in
    let rest = way a (drop c.args.next c.args.items.now) c.args.subject.now in
    let same : c.args.at + c.in-Some.count - c.args.at ≡ c.in-Some.count = omega arith in
    star_step a c.args.items.now c.args.subject.now c.args.single.now (a.symbols (drop c.args.at c.args.subject.now)) rest
    c.args.at (c.args.at + c.in-Some.count - c.args.at) c.in-Some.count c.args.trail.now.marks (tried a c.args.items.now c.args.subject.now c.args.trail.now.choices c.args.trail.now.marks)
    c.args.left.now c.count_run.new.left c.in_ok-now-in-Some.now c.count_run.new.left c.descend.new.trail
    c.in-Some.ensures.value.1 c.in-Some.ensures.value.2 same (c.in-Some.ensures.places rest c.args.trail.now.marks)
    (c.in_ok-now-in-Some.ensures.follows c.count_run.new.left)

pub returns-in_ok-now-in-Some-clause-lighter : goal.returns-in_ok-now-in-Some-clause-lighter
returns-in_ok-now-in-Some-clause-lighter g c =
    let same : c.args.at + c.in-Some.count - c.args.at ≡ c.in-Some.count = omega arith in
    star_load (length c.args.items.now) (length c.args.subject.now) c.args.next c.args.at (c.args.at + c.in-Some.count - c.args.at) c.in-Some.count
    c.args.left.now c.count_run.new.left c.in_ok-now-in-Some.now c.args.trail.now c.descend.new.trail
    c.in-Some.ensures.short c.count_run.ensures.fewer c.in-Some.ensures.paid same c.in_ok-now-in-Some.ensures.light
