use Rattle.std.proofs.Common.{arith, ◌<◌}
use Rattle.lua_table.proofs.TreeLemmas.{twice-wide}
use Rattle.lua_table.proofs.holes.wider.Goals as goal

pub returns-clause-complete : goal.returns-clause-complete
returns-clause-complete c =
    let some : 0 < c.args.width = omega (arith, c.if-width-eq0.false) in
    twice-wide c.args.width c.in_ok-wide.wide c.requires some c.in_ok-wide.ensures
