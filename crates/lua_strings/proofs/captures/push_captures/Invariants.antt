use Rattle.std.proofs.Common.{◌≡◌, ◌++◌, length}
use Rattle.lua_basic.specs.LuaStoreParts.{IsLater}
use Rattle.lua_basic.specs.Seen.{values_seen, AllOf}
use Rattle.lua_basic.specs.LuaMeaningSearches.{captures_given}
use Rattle.lua_strings.proofs.captures.push_captures.Given as goal

abbrev pub invariant-captures : goal.invariant-captures
invariant-captures l = record {
  of : AllOf l.store l.values;
  heap : l.store.heap ≡ l.initial.store.heap;
  later : IsLater l.initial.store l.store;
  more : values_seen l.store.texts l.values ++ captures_given l.s l.rest ≡ values_seen l.initial.store.texts l.initial.values ++ captures_given l.s l.captures;
}

abbrev pub decreases-captures : goal.decreases-captures
decreases-captures l = length l.rest
