use Rattle.std.proofs.Common.{◌≡◌, length, map}
use Rattle.lua_basic.specs.LuaStoreParts.{IsLater}
use Rattle.lua_home.specs.LuaGraphPut.{filled}
use Rattle.mw_frames.specs.Making.{arg_entry}
use Rattle.mw_frames.proofs.keys.fill_args.Given as goal

abbrev pub invariant-each : goal.invariant-each
invariant-each l = record {
  later : IsLater l.initial.store l.store;
  more : filled l.table.at (map arg_entry l.left) l.store.heap ≡ filled l.table.at (map arg_entry l.args) l.initial.store.heap;
}

abbrev pub decreases-each : goal.decreases-each
decreases-each l = length l.left
