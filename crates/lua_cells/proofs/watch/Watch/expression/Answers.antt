use Rattle.lua_code.specs.Seen.{expression_seen}
use Rattle.lua_cells.proofs.IdleLaws.{no_expression}
use Rattle.lua_cells.proofs.watch.Watch.expression.Goals as goal

pub returns-else-self : goal.returns-else-self
returns-else-self c = no_expression (expression_seen c.args.code.now) _ _ c.self.view_is (c.self.invariant c.if-self.false)
