use Rattle.lua_flat_code.proofs.StatementLaws.{said_named}
use Rattle.lua_flat_code.proofs.maker.Maker.local_function.Goals as goal

pub returns : goal.returns
returns c = said_named _ _ _ _ _ _ _ _ _ _ _ _ c.in_ok-next.ensures.0 c.in_ok-next.ensures.1 c.in_ok-declare.ensures c.in_ok-part.ensures c.in_ok-emit.ensures
