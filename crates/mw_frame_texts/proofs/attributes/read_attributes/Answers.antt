use Rattle.std.proofs.Common.{◌∙◌, sym, drop}
use Rattle.mw_frames.specs.LuaHeapHeap.{table_at}
use Rattle.mw_frames.specs.LuaMeaningTag.{attributes}
use Rattle.mw_frame_texts.proofs.Reading.{nothing-before, all-read}
use Rattle.mw_frame_texts.proofs.attributes.read_attributes.Goals as goal

pub returns-in-None-clause-read : goal.returns-in-None-clause-read
returns-in-None-clause-read c =
    let es = (table_at c.args.store.now.heap c.args.table.at).entries in
    sym c.places.invariant ∙ all-read c.places.attrs (drop c.places.place es) c.in-None.ensures.entry

pub places-init : goal.places-init
places-init c = rw c.new-attrs.ensures (nothing-before (attributes (table_at c.args.store.now.heap c.args.table.at).entries))
