use Rattle.std.proofs.Common.{sym}
use Rattle.lua_resolve.proofs.ConstantLaws.{stands, stay}
use Rattle.lua_resolve.proofs.constants.place_of.Goals as goal

pub returns-in-Ok-clause-there : goal.returns-in-Ok-clause-there
returns-in-Ok-clause-there c =
    let s = c.in-Ok.ensures.stored in
    stands c.args.bytes.now c.insert_full.new.self.keys c.in-Ok.at s.0 s.1 (sym s.2)

pub returns-in-Ok-clause-stay : goal.returns-in-Ok-clause-stay
returns-in-Ok-clause-stay c = stay c.args.met.now.keys _ c.args.bytes c.in-Ok.ensures.keys
