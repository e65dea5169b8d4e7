use Rattle.lua_modules.proofs.strict.fill_meta.Goals as goal

pub returns-clause-put : goal.returns-clause-put
returns-clause-put c = c.fill.ensures.put
