use Rattle.std.proofs.Common.{[]}
use Rattle.lua_gsubs.proofs.resuming.give_flag.Goals as goal

pub returns-then-flag-clause-given : goal.returns-then-flag-clause-given
returns-then-flag-clause-given c = rw c.if-flag.true (c.refuse.ensures [] c.args.far.now c.args.far.now c.args.left.now)
