use Rattle.std.proofs.Common.{◌≡◌, length}
use Rattle.std.specs.List.{AllByRecursion}
use Rattle.lua_graph.specs.LuaStoreParts.{IsLater}
use Rattle.lua_graph.specs.Put.{filled}
use Rattle.lua_home.specs.Fields.{fields_seen, IsFieldOf}
use Rattle.lua_home.proofs.fields.fill.Given as goal

abbrev pub invariant-fields : goal.invariant-fields
invariant-fields l = record {
  fields : AllByRecursion (IsFieldOf l.initial.store) l.rest;
  later : IsLater l.initial.store l.store;
  more : filled l.table.at (fields_seen l.rest) l.store.heap ≡ filled l.table.at (fields_seen l.fields) l.initial.store.heap;
}

abbrev pub decreases-fields : goal.decreases-fields
decreases-fields l = length l.rest
