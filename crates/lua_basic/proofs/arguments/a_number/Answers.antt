use Rattle.lua_basic.proofs.arguments.a_number.Goals as goal

pub number_in-requires : goal.number_in-requires
number_in-requires c = c.first.ensures.of c.args.store.now c.requires
