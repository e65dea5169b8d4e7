use Rattle.std.proofs.Common.{length}
use Rattle.lua_basic.specs.LuaMeaningArguments.{text_charge}
use Rattle.lua_basic.specs.Seen.{values_seen, AllOf}
use Rattle.lua_strings.specs.Costs.{TakenOf}
use Rattle.lua_strings.proofs.paying.take_texts.Given as goal

abbrev pub invariant-values : goal.invariant-values
invariant-values l = AllOf l.store l.rest × TakenOf (text_charge (values_seen l.store.texts l.args)) l.initial.left l.left (text_charge (values_seen l.store.texts l.rest))

abbrev pub decreases-values : goal.decreases-values
decreases-values l = length l.rest
