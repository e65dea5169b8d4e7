use Rattle.lua_format.proofs.Numerals.{copy_more}
use Rattle.lua_format.proofs.layout.push_copies.Goals as goal

pub copies-preserved : goal.copies-preserved
copies-preserved c = copy_more c.copies.out.items _ _ c.args.byte c.args.count c.copies._turn c.in-Ok.ensures.items c.copies-test.true c.copies.invariant
