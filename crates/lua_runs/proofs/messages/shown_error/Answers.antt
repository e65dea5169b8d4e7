use Rattle.lua_runs.proofs.messages.shown_error.Goals as goal

pub returns-in-Nil : goal.returns-in-Nil
returns-in-Nil c = rw c.in-Nil.is (rw c.in-Nil.is at (c.other_error.ensures c.args.store.now.texts))

pub returns-in-Bool : goal.returns-in-Bool
returns-in-Bool c = rw c.in-Bool.is (rw c.in-Bool.is at (c.other_error-in-Bool.ensures c.args.store.now.texts))

pub returns-in-Table : goal.returns-in-Table
returns-in-Table c = rw c.in-Table.is (rw c.in-Table.is at (c.other_error-in-Table.ensures c.args.store.now.texts))

pub returns-in-Closure : goal.returns-in-Closure
returns-in-Closure c = rw c.in-Closure.is (rw c.in-Closure.is at (c.other_error-in-Closure.ensures c.args.store.now.texts))

pub returns-in-Builtin : goal.returns-in-Builtin
returns-in-Builtin c = rw c.in-Builtin.is (rw c.in-Builtin.is at (c.other_error-in-Builtin.ensures c.args.store.now.texts))

pub returns-in-Markup : goal.returns-in-Markup
returns-in-Markup c = rw c.in-Markup.is (rw c.in-Markup.is at (c.other_error-in-Markup.ensures c.args.store.now.texts))
