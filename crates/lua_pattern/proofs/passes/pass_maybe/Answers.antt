use Rattle.std.proofs.Common.{◌+◌, length}
use Rattle.lua_pattern.proofs.Loads.{maybe_load}
use Rattle.lua_pattern.proofs.passes.pass_maybe.Goals as goal

pub returns-in_ok-down-clause-lighter : goal.returns-in_ok-down-clause-lighter
returns-in_ok-down-clause-lighter g c =
    let taken = c.spend.ensures.yes c.if-not-spend.false in
    maybe_load (length c.args.items.now) (length c.args.subject.now) c.args.next c.args.at (c.args.at + c.in-Some.size) c.args.left.now c.spend.new.left c.args.trail.now c.down.new.self
    taken.0 taken.1 c.in_ok-down.ensures
