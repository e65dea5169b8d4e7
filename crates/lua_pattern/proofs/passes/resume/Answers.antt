use Rattle.std.proofs.Common.{sym, subst}
use Rattle.lua_pattern.specs.declared.trail.Choice.{Choice}
use Rattle.lua_pattern.specs.Way.{or_else}
use Rattle.lua_pattern.specs.Trail.{tried, chosen}
use Rattle.lua_pattern.specs.Search.{Follows}
use Rattle.lua_pattern.proofs.passes.resume.Goals as goal

pub returns-in_ok-now-in-Down-clause-follows : goal.returns-in_ok-now-in-Down-clause-follows
returns-in_ok-now-in-Down-clause-follows g c =
    let a = g.A.Alphabet.letters in
    let P : Choice → Type 0 = λ d. Follows a c.args.items.now c.args.subject.now (or_else (chosen a c.args.items.now c.args.subject.now d c.args.trail.now.marks) (tried a c.args.items.now c.args.subject.now c.args.trail.now.choices c.args.trail.now.marks)) c.args.left.now c.in_ok-now-in-Down.now c.args.left.now c.descend.new.trail in
    subst P (sym c.in-Down.is) (c.in_ok-now-in-Down.ensures.follows c.args.left.now)
