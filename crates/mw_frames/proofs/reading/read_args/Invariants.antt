use Rattle.std.proofs.Common.{◌≡◌, drop}
use Rattle.lua_basic.specs.LuaHeapHeap.{table_at}
use Rattle.lua_basic.specs.LuaMeaningFrameMethods.{read_args}
use Rattle.mw_frames.specs.Reading.{args_seen, behind}
use Rattle.mw_frames.proofs.reading.read_args.Given as goal

-- what was read and what is still to read are all
abbrev pub invariant-places : goal.invariant-places
invariant-places l =
    let es = (table_at l.fn.store.heap l.fn.table.at).entries in
    behind (args_seen l.args) (read_args (drop l.place es)) ≡ read_args es
