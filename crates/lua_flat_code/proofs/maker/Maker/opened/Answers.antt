use Rattle.std.proofs.Common.{◌≡◌, ◌∙◌, length, ap}
use Rattle.lua_flat_code.proofs.StatementLaws.{locals_counted}
use Rattle.lua_flat_code.proofs.maker.Maker.opened.Goals as goal

pub returns : goal.returns
returns c = locals_counted c.args.self.now.locals.items _ (ap length c.as_slice.ensures.value)
