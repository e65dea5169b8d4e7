use Rattle.lua_flat_code.proofs.TargetLaws.{said_entry_values}
use Rattle.lua_flat_code.proofs.maker.Maker.entry_target.Goals as goal

pub returns : goal.returns
returns c = said_entry_values _ _ _ _ _ _ _ _ _ c.in_ok-begin.ensures c.in_ok-end.ensures.0 c.in_ok-end.ensures.1 c.in_ok-value.ensures c.in_ok-value-2.ensures
