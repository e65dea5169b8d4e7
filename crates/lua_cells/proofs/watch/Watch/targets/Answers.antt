use Rattle.std.proofs.Common.{map}
use Rattle.lua_code.specs.Seen.{target_seen}
use Rattle.lua_cells.proofs.IdleLaws.{no_targets}
use Rattle.lua_cells.proofs.watch.Watch.targets.Goals as goal

pub returns-else-self : goal.returns-else-self
returns-else-self c = no_targets (map target_seen c.args.list.now) _ _ c.self.view_is (c.self.invariant c.if-self.false)
