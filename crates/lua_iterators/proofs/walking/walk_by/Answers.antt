use Rattle.std.proofs.Common.{Err, length}
use Rattle.lua_string.specs.LuaPatternRead.{read_unanchored, codes}
use Rattle.lua_strings.specs.LuaHeapHeap.{cell_at}
use Rattle.lua_strings.proofs.LuaBasicFound.{for_nothing}
use Rattle.lua_strings.specs.LuaMeaningIterators.{held_place, walks_by}
use Rattle.lua_iterators.specs.Held.{cells_seen}
use Rattle.lua_iterators.proofs.Walks.{walk_fault}
use Rattle.lua_iterators.proofs.walking.walk_by.Goals as goal

pub returns-in-Err-clause-answer : goal.returns-in-Err-clause-answer
returns-in-Err-clause-answer g c =
    let a = g.A.Alphabet.letters in
    let s = c.args.store.now in
    let place = held_place (length c.args.s.now) (cell_at s.heap c.args.cells.place.at) in
    for_nothing (walks_by a c.args.s.now (cells_seen c.args.cells) place (read_unanchored (codes a c.args.pattern.now)) s.heap) s c.refuse_pattern.new.store c.args.left.now (Err c.refuse_pattern.result)
    (walk_fault a c.args.s.now (cells_seen c.args.cells) place (read_unanchored (codes a c.args.pattern.now)) _ s c.refuse_pattern.new.store c.refuse_pattern.result c.in-Err.ensures c.refuse_pattern.ensures.stops)

pub returns-in-Ok-clause-answer : goal.returns-in-Ok-clause-answer
returns-in-Ok-clause-answer g c = rw c.in-Ok.ensures c.walk_from.ensures.answer
