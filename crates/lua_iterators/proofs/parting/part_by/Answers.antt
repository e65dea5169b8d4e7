use Rattle.std.proofs.Common.{Err, length}
use Rattle.lua_strings.specs.LuaHeapHeap.{cell_at}
use Rattle.mw_text.specs.Split.{sought_by}
use Rattle.lua_strings.proofs.LuaBasicFound.{for_nothing}
use Rattle.lua_strings.specs.LuaMeaningIterators.{held_place, parted_by}
use Rattle.lua_iterators.specs.Held.{cells_seen}
use Rattle.lua_iterators.proofs.Parted.{part_fault}
use Rattle.lua_iterators.proofs.parting.part_by.Goals as goal

pub returns-in-Err-clause-answer : goal.returns-in-Err-clause-answer
returns-in-Err-clause-answer c =
    let s = c.args.store.now in
    let place = held_place (length c.args.s.now) (cell_at s.heap c.args.cells.place.at) in
    for_nothing (parted_by c.args.s.now (cells_seen c.args.cells) place (sought_by c.args.plain c.args.pattern.now) s.heap) s c.refuse_pattern.new.store c.args.left.now (Err c.refuse_pattern.result)
    (part_fault c.args.s.now (cells_seen c.args.cells) place (sought_by c.args.plain c.args.pattern.now) _ s c.refuse_pattern.new.store c.refuse_pattern.result c.in-Err.ensures c.refuse_pattern.ensures.stops)

pub returns-in-Ok-clause-answer : goal.returns-in-Ok-clause-answer
returns-in-Ok-clause-answer c = rw c.in-Ok.ensures c.part_from_place.ensures.answer
