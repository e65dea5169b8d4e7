use Rattle.lua_lint.proofs.ScopeLemmas.{noted}
use Rattle.lua_lint.proofs.scopes.note.Goals as goal

pub returns-in-Ok : goal.returns-in-Ok
returns-in-Ok c = noted c.args.name c.args.binds c.args.bound.now.entries c.insert.new.self.entries c.in-Ok.ensures.updates.0
