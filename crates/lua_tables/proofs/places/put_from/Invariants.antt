use Rattle.std.proofs.Common.{◌≡◌, ◌+◌, ◌+ℤ◌, pos, false, length}
use Rattle.lua_basic.specs.LuaHeapHeap.{table_at}
use Rattle.lua_basic.specs.LuaStoreParts.{IsLater}
use Rattle.lua_basic.specs.Seen.{values_seen, AllOf}
use Rattle.lua_basic.specs.LuaMeaningTableLibrary.{put_from}
use Rattle.lua_tables.proofs.places.put_from.Given as goal

-- putting what is left puts all
abbrev pub invariant-places : goal.invariant-places
invariant-places l = record {
  put : l.store ≡ record l.initial.store { heap = l.store.heap };
  more : put_from (l.fn.first +ℤ pos l.offset) (values_seen l.initial.store.texts l.rest) l.fn.table.at l.store.heap ≡ put_from l.fn.first (values_seen l.initial.store.texts l.fn.values) l.fn.table.at l.initial.store.heap;
  of : AllOf l.store l.rest;
  later : IsLater l.initial.store l.store;
  writable : (table_at l.store.heap l.fn.table.at).frozen ≡ false;
  sum : l.offset + length l.rest ≡ length l.fn.values;
}

abbrev pub decreases-places : goal.decreases-places
decreases-places l = length l.rest
