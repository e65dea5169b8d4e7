use Rattle.std.proofs.Common.{◌∙◌, ap}
use Rattle.lua_cells.specs.Registers.{opened_one}
use Rattle.lua_cells.proofs.IdleLaws.{opens_free}
use Rattle.lua_cells.proofs.watch.Watch.open_one.Goals as goal

pub invariant_of-self : goal.invariant_of-self
invariant_of-self c = λ e. let h = c.either-any.ensures e in opens_free _ _ _ (c.self.invariant h.0) c.in-Ok.ensures h.1

pub returns-in-Ok : goal.returns-in-Ok
returns-in-Ok c = c.in-Ok.ensures ∙ ap (opened_one c.args.boxed) c.self.view_is
