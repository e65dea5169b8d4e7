use Rattle.lua_table.proofs.BorderLemmas.{empty-table}
use Rattle.lua_table.proofs.table.Table.new.Goals as goal

pub invariant_of-result : goal.invariant_of-result
invariant_of-result g c = empty-table g.V.PartialEq.eq g.V.Slot.nil_value g.V.Slot.number_of _ _ c.new.ensures
