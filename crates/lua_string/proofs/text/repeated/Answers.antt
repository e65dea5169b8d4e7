use Rattle.lua_string.specs.Texts.{copies}
use Rattle.lua_string.proofs.Copies.{copies_more}
use Rattle.lua_string.proofs.text.repeated.Goals as goal

pub copies-preserved : goal.copies-preserved
copies-preserved c =
    copies_more c.copies.made.items c.push_all.new.out.items (copies c.args.count c.args.s.now) c.args.s.now c.args.count c.copies._turn c.in_ok-push_all.ensures c.copies-test.true c.copies.invariant
