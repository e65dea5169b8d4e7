use Rattle.std.proofs.Common.{map}
use Rattle.lua_code.specs.Seen.{place_seen}
use Rattle.lua_cells.proofs.IdleLaws.{no_places}
use Rattle.lua_cells.proofs.watch.Watch.capture.Goals as goal

pub returns-else-self : goal.returns-else-self
returns-else-self c = no_places (map place_seen c.args.places.now) _ _ c.self.view_is (c.self.invariant c.if-self.false)
