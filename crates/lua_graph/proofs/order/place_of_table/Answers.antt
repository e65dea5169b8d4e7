use Rattle.std.proofs.Common.{◌∙◌}
use Rattle.lua_graph.proofs.Places.{found_place, absent_place}
use Rattle.lua_graph.proofs.order.place_of_table.Goals as goal

pub returns-in-Some : goal.returns-in-Some
returns-in-Some c = found_place c.args.order.now.keys c.args.table c.in-Some.at c.in-Some.ensures.index

pub returns-in-None : goal.returns-in-None
returns-in-None c = c.len.ensures.len ∙ absent_place c.args.order.now.keys c.args.table c.in-None.ensures.index
