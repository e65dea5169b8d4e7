use Rattle.std.proofs.Common.{◌∙◌, ap}
use Rattle.lua_cells.specs.Registers.{closed}
use Rattle.lua_cells.proofs.IdleLaws.{closes_free}
use Rattle.lua_cells.proofs.watch.Watch.close.Goals as goal

pub invariant_of-self : goal.invariant_of-self
invariant_of-self c = λ e. closes_free _ _ _ (c.self.invariant e) c.close.ensures

pub returns : goal.returns
returns c = c.close.ensures ∙ ap (closed c.args.count) c.self.view_is
