use Rattle.lua_store.specs.Parts.{IsTableOf}
use Rattle.store_cases.proofs.making.cleared.Given as goal

abbrev pub invariant-loop-n : goal.invariant-loop-n
invariant-loop-n l = IsTableOf l.store l.table
