use Rattle.std.proofs.lemmas.Result.{IfOk-weaker}
use Rattle.std.proofs.Common.{rules, ◌<◌, refl}
use Rattle.lua_store.specs.declared.value.Value.TheVariants as own
use Rattle.lua_rows.specs.LuaStackDeclaredFrameFrameTheVariants as frame
use Rattle.lua_rows.specs.LuaStackDeclaredFrameInExpressionTheVariants as in_expression
use Rattle.lua_machine.proofs.Called.{called_of, library_called, library_spent}
use Rattle.lua_machine.proofs.library.call.Goals as goal

pub enter_library-requires-clause-state : goal.enter_library-requires-clause-state
enter_library-requires-clause-state g c =
    let f = frame.Expression (in_expression.CallNow (own.Builtin c.args.which) c.args.line) in
    called_of c.args.store.now c.args.state.now c.args.which c.args.line c.requires.newest.0 c.drop_newest.new.frames c.requires.newest.1 (c.drop_newest.ensures f c.requires.newest.0 c.requires.newest.1) c.requires.state

pub enter_library-requires-clause-calls : goal.enter_library-requires-clause-calls
enter_library-requires-clause-calls g c = rw c.take_steps.ensures.rest c.requires.calls

pub enter_library-requires-clause-arguments : goal.enter_library-requires-clause-arguments
enter_library-requires-clause-arguments g c = rw c.in_ok-arguments.ensures c.requires.values

pub returns : goal.returns
returns g c =
    let f = frame.Expression (in_expression.CallNow (own.Builtin c.args.which) c.args.line) in
    IfOk-weaker c.enter_library.result _ _
    (λ r e. library_called c.args.store.now c.args.state.now c.args.left.now c.args.turns.now c.args.values c.args.which c.args.line c.requires.newest.0 c.drop_newest.new.frames c.requires.newest.1 (c.drop_newest.ensures f c.requires.newest.0 c.requires.newest.1) c.requires.state c.requires.values
    c.take_steps.new.self c.enter_library.new.store c.enter_library.new.state c.enter_library.new.left c.enter_library.new.turns r (c.if-not-take_steps.ensures.covered.0 refl) c.take_steps.ensures.rest (rw c.in_ok-arguments.ensures at e))
    c.enter_library.ensures

pub returns-then-not-take_steps : goal.returns-then-not-take_steps
returns-then-not-take_steps g c =
    let f = frame.Expression (in_expression.CallNow (own.Builtin c.args.which) c.args.line) in
    let short : c.args.left.now.steps < 1 = search rules in
    library_spent c.args.store.now c.args.state.now c.args.left.now c.args.turns.now c.args.values c.args.which c.args.line c.requires.newest.0 c.drop_newest.new.frames c.requires.newest.1 (c.drop_newest.ensures f c.requires.newest.0 c.requires.newest.1) c.requires.state c.requires.values
    c.take_steps.new.self short (rw c.take_steps.ensures.rest search rules)
