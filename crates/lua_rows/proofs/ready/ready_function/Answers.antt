use Rattle.lua_code.specs.Seen.{expression_seen, expressions_seen}
use Rattle.lua_rows.proofs.Methods.{function_ready}
use Rattle.lua_rows.proofs.ready.ready_function.Goals as goal

pub returns-in-Some-2 : goal.returns-in-Some-2
returns-in-Some-2 c =
    function_ready c.args.store.now c.args.state.now (expression_seen c.args.called.now) (expressions_seen c.args.arguments.now) c.args.line c.in-Some.called c.in-Some-callee_of.callee c.clear.new.self.items c.read_arguments.new.values.items c.in-Some-2.nodes
    (rw c.in-Some.is at c.read.ensures) (rw c.in-Some-2.is at c.in_ok-nodes.ensures) (rw c.in-Some-callee_of.is at c.callee_of.ensures) c.clear.ensures.items
