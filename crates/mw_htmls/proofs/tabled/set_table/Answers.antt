use Rattle.std.proofs.Common.{arith}
use Rattle.mw_html.specs.LuaHeapHeap.{table_at}
use Rattle.mw_htmls.proofs.Tables.{table_ends, read_heap}
use Rattle.mw_htmls.proofs.tabled.set_table.Goals as goal

pub give_read-requires-clause-id : goal.give_read-requires-clause-id
give_read-requires-clause-id c = let le = c.read_entries.ensures.later.markup in omega (arith, c.requires.id, le)

pub returns-clause-answer : goal.returns-clause-answer
returns-clause-answer c =
    let s = c.args.store.now in
    let t = c.read_entries.new.store in
    let es = (table_at s.heap c.args.table.at).entries in
    let read = c.in_ok-read.read in
    table_ends c.args.setter es s t c.give_read.new.store c.args.left.now c.read_entries.new.left c.args.id.at read c.give_read.result c.in_ok-read.ensures.read
    (read_heap c.args.setter es s t c.args.left.now c.read_entries.new.left read.settings read.fault c.in_ok-read.ensures.read) c.give_read.ensures.answer
