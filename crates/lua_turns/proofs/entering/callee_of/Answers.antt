use Rattle.lua_turns.proofs.Entered.{function_called}
use Rattle.lua_turns.proofs.entering.callee_of.Goals as goal

pub returns-in-Closure-clause-call : goal.returns-in-Closure-clause-call
returns-in-Closure-clause-call c = λ arguments line fs s h. rw c.in-Closure.is (function_called c.args.store.now c.in-Closure.id c.function_of.result arguments line fs s h c.function_of.ensures.closed)
