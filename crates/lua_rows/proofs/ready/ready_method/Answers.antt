use Rattle.std.proofs.Common.{◌∙◌, ◌++◌, ◌∷◌, [], List, ap}
use Rattle.lua_code.specs.Seen.{expression_seen, expressions_seen}
use Rattle.lua_turns.specs.LuaStoreDeclaredValueValue.{Value}
use Rattle.lua_rows.proofs.Methods.{method_ready}
use Rattle.lua_rows.proofs.ready.ready_method.Goals as goal

pub returns-in-Some-2 : goal.returns-in-Some-2
returns-in-Some-2 c =
    let v = c.in-Some.object.value in
    method_ready c.args.store.now c.args.state.now (expression_seen c.args.object.now) (expressions_seen c.args.arguments.now) c.args.line c.in-Some.object c.in-Some-text_method.callee c.push.new.values.items c.read_arguments.new.values.items c.in-Some-2.nodes
    (rw c.in-Some.is at c.read.ensures) (rw c.in-Some-2.is at c.in_ok-nodes.ensures) c.args.name (rw c.in-Some-text_method.is at c.text_method.ensures)
    (c.in_ok-push.ensures ∙ ap (λ (vs : List Value). vs ++ v ∷ []) c.clear.ensures.items)
