use Rattle.lua_code.specs.Seen.{expressions_seen}
use Rattle.lua_cells.proofs.IdleLaws.{no_expressions}
use Rattle.lua_cells.proofs.watch.Watch.expressions.Goals as goal

pub returns-else-self : goal.returns-else-self
returns-else-self c = no_expressions (expressions_seen c.args.list.now) _ _ c.self.view_is (c.self.invariant c.if-self.false)
