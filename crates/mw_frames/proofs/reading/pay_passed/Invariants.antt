use Rattle.std.proofs.Common.{drop}
use Rattle.lua_basic.specs.LuaHeapHeap.{table_at}
use Rattle.lua_basic.specs.LuaMeaningArguments.{passed}
use Rattle.lua_basic.specs.LuaMeaningFrameMethods.{entry_arg}
use Rattle.mw_frames.specs.Costs.{SoFar}
use Rattle.mw_frames.proofs.reading.pay_passed.Given as goal

-- what was taken, and what is still to take behind a place, are all
abbrev pub invariant-places : goal.invariant-places
invariant-places l =
    let es = (table_at l.fn.store.heap l.fn.table.at).entries in
    SoFar l.initial.left l.left (passed entry_arg (drop l.place es)) (passed entry_arg es)
