use Rattle.std.proofs.Common.{◌∙◌, sym, drop}
use Rattle.lua_basic.specs.LuaHeapHeap.{table_at}
use Rattle.mw_frames.specs.Reading.{args_seen}
use Rattle.lua_basic.specs.LuaMeaningFrameMethods.{read_args}
use Rattle.mw_frames.proofs.ReadLemmas.{nothing-before, all-read}
use Rattle.mw_frames.proofs.reading.read_args.Goals as goal

pub returns-in-None : goal.returns-in-None
returns-in-None c =
    let es = (table_at c.args.store.now.heap c.args.table.at).entries in
    sym c.places.invariant ∙ all-read (args_seen c.places.args) (drop c.places.place es) c.in-None.ensures.entry

pub places-init : goal.places-init
places-init c = rw c.new-args.ensures (nothing-before (read_args (table_at c.args.store.now.heap c.args.table.at).entries))
