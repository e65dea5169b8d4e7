use Rattle.std.proofs.Common.{◌∙◌, ap}
use Rattle.lua_code.specs.Held.{modules_seen}
use Rattle.lua_syntax.specs.WkBaseTitles.{title_text}
use Rattle.lua_code.proofs.HeldLaws.{seen}
use Rattle.lua_code.proofs.modules.Modules.get.Goals as goal

pub returns-clause-seen : goal.returns-clause-seen
returns-clause-seen c h = seen c.self.inside.map.entries c.args.title.now c.get.result c.get.ensures.value c.self.invariant h ∙ ap (λ held. modules_seen held (title_text c.args.title.now)) c.self.view_is
