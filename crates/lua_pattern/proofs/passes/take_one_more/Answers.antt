use Rattle.std.proofs.Common.{◌+◌, length}
use Rattle.lua_pattern.proofs.Loads.{one_more_load}
use Rattle.lua_pattern.proofs.passes.take_one_more.Goals as goal

pub returns-then-fit-clause-lighter : goal.returns-then-fit-clause-lighter
returns-then-fit-clause-lighter g c =
    let taken = c.spend.ensures.yes c.if-not-spend.false in
    one_more_load (length c.args.items.now) (length c.args.subject.now) c.args.index (c.args.at + c.in-Some.size) c.args.left.now c.spend.new.left c.args.trail.now
    taken.0 taken.1
