use Rattle.lua_modules.proofs.Kept.{module_put_of, module_put}
use Rattle.lua_modules.proofs.requiring.put_progress.Goals as goal

pub returns-clause-of : goal.returns-clause-of
returns-clause-of c = module_put_of c.args.store.now c.args.state.now c.put.new.self c.args.title c.args.progress c.requires.state c.requires.progress c.in_ok-put.ensures.ok

pub returns-clause-slots : goal.returns-clause-slots
returns-clause-slots c = module_put c.args.store.now c.args.state.now c.put.new.self c.args.title c.args.progress c.in_ok-put.ensures.ok
