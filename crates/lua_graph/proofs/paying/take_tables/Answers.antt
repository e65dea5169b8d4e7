use Rattle.std.proofs.Common.{sym}
use Rattle.lua_graph.specs.Taken.{places}
use Rattle.lua_graph.proofs.Costs.{tables_on, tables_short, tables_all}
use Rattle.lua_graph.proofs.paying.take_tables.Goals as goal

pub returns-then-not-branch-clause-covered : goal.returns-then-not-branch-clause-covered
returns-then-not-branch-clause-covered c =
    (tables_short c.args.store.now.heap (places c.args.order.now.keys) c.loop-at.at c.in-Some.table.at c.in_ok-take_table-in-Some.field-0 c.args.left.now c.loop-at.left c.take_table.new.left
    (sym c.in-Some.ensures.place) c.in_ok-take_table-in-Some.ensures.covered c.in_ok-take_table-in-Some.ensures.rest c.if-not-branch.true c.loop-at.invariant).test

pub returns-then-not-branch-clause-rest : goal.returns-then-not-branch-clause-rest
returns-then-not-branch-clause-rest c =
    (tables_short c.args.store.now.heap (places c.args.order.now.keys) c.loop-at.at c.in-Some.table.at c.in_ok-take_table-in-Some.field-0 c.args.left.now c.loop-at.left c.take_table.new.left
    (sym c.in-Some.ensures.place) c.in_ok-take_table-in-Some.ensures.covered c.in_ok-take_table-in-Some.ensures.rest c.if-not-branch.true c.loop-at.invariant).rest

pub returns-in-None-clause-covered : goal.returns-in-None-clause-covered
returns-in-None-clause-covered c =
    (tables_all c.args.store.now.heap (places c.args.order.now.keys) c.loop-at.at c.args.left.now c.loop-at.left (sym c.in-None.ensures.place) c.loop-at.invariant).test

pub returns-in-None-clause-rest : goal.returns-in-None-clause-rest
returns-in-None-clause-rest c =
    (tables_all c.args.store.now.heap (places c.args.order.now.keys) c.loop-at.at c.args.left.now c.loop-at.left (sym c.in-None.ensures.place) c.loop-at.invariant).rest

pub loop-at-preserved : goal.loop-at-preserved
loop-at-preserved c =
    tables_on c.args.store.now.heap (places c.args.order.now.keys) c.loop-at.at c.in-Some.table.at c.in_ok-take_table-in-Some.field-0 c.args.left.now c.loop-at.left c.take_table.new.left
    (sym c.in-Some.ensures.place) c.in_ok-take_table-in-Some.ensures.covered c.in_ok-take_table-in-Some.ensures.rest c.if-not-branch.false c.loop-at.invariant
