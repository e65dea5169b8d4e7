use Rattle.std.proofs.Common.{ap, sym, subst, ◌∙◌}
use Rattle.std.specs.List.{AllByRecursion}
use Rattle.lua_store.specs.Parts.{IsTableOf}
use Rattle.lua_graph.specs.Taken.{places}
use Rattle.lua_graph.proofs.Places.{insert_order, order_of}
use Rattle.lua_graph.proofs.order.reach_table.Goals as goal

pub returns-in-Ok-clause-order : goal.returns-in-Ok-clause-order
returns-in-Ok-clause-order c = ap places c.in-Ok.ensures.keys ∙ insert_order c.args.order.now.keys c.args.table

pub returns-in-Ok-clause-of : goal.returns-in-Ok-clause-of
returns-in-Ok-clause-of c = λ s a h. subst (AllByRecursion (IsTableOf s)) (sym c.in-Ok.ensures.keys) (order_of (IsTableOf s) c.args.order.now.keys c.args.table _ a h)
