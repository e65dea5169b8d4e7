use Rattle.std.proofs.Common.{◌∙◌, ap}
use Rattle.lua_code.specs.Seen.{expression_seen}
use Rattle.lua_code.proofs.Views.{expression-Local}
use Rattle.lua_flat_code.proofs.StatementLaws.{local_place}
use Rattle.lua_flat_code.proofs.statements.plain_of.Goals as goal

pub returns-in-Local : goal.returns-in-Local
returns-in-Local c = local_place _ _ _ (ap expression_seen c.in-Local.is ∙ expression-Local _) c.plain_at.ensures
