use Rattle.std.proofs.Common.{◌++◌, ℕ, List, length}
use Rattle.std.specs.List.Sorted.{IsPermutation}
use Rattle.lua_basic.specs.LuaStoreSeen.{StoreView}
use Rattle.lua_basic.specs.Seen.{values_seen, AllOf}
use Rattle.lua_tables.specs.Kinds.{texts_in}
use Rattle.lua_tables.specs.Repeated.{spread, AreTextsOf}
use Rattle.lua_tables.proofs.distinct.counted.Given as goal

abbrev pub invariant-values : goal.invariant-values
invariant-values l = record {
  counts : (texts : List (List ℕ)) → IsPermutation (texts_in (values_seen texts l.fn.values)) (spread texts l.counts.entries ++ texts_in (values_seen texts l.rest));
  of : (s : StoreView) → AllOf s l.fn.values → AllOf s l.rest × AreTextsOf s l.counts.entries;
}

abbrev pub decreases-values : goal.decreases-values
decreases-values l = length l.rest
