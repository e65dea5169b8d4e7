use Rattle.lua_libs.proofs.copying.mw_clone.Goals as goal

pub copy-requires : goal.copy-requires
copy-requires c = c.first-value.ensures.of c.args.store.now c.requires
