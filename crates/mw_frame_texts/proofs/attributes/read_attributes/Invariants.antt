use Rattle.std.proofs.Common.{◌≡◌, drop, Ok}
use Rattle.mw_frames.specs.LuaHeapHeap.{table_at}
use Rattle.mw_frames.specs.LuaMeaningTag.{and_then, attributes}
use Rattle.mw_frame_texts.specs.Written.{attrs_written}
use Rattle.mw_frame_texts.proofs.attributes.read_attributes.Given as goal

-- what was read and what is still to read are all
abbrev pub invariant-places : goal.invariant-places
invariant-places l =
    let es = (table_at l.fn.store.heap l.fn.table.at).entries in
    and_then (Ok (attrs_written l.attrs)) (attributes (drop l.place es)) ≡ attributes es
