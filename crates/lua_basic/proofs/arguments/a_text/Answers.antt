use Rattle.lua_basic.proofs.arguments.a_text.Goals as goal

pub text_in-requires : goal.text_in-requires
text_in-requires c = c.first.ensures.of c.args.store.now c.requires
