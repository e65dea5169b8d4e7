use Rattle.lua_runs.proofs.frames.module_found.Goals as goal

pub returns-in-Table : goal.returns-in-Table
returns-in-Table c = rw c.in-Table.is c.find_function.ensures

pub returns-in-Nil : goal.returns-in-Nil
returns-in-Nil c = rw c.in-Nil.is (c.no_module_table.ensures c.args.left.now)

pub returns-in-Bool : goal.returns-in-Bool
returns-in-Bool c = rw c.in-Bool.is (c.no_module_table-in-Bool.ensures c.args.left.now)

pub returns-in-Number : goal.returns-in-Number
returns-in-Number c = rw c.in-Number.is (c.no_module_table-in-Number.ensures c.args.left.now)

pub returns-in-Text : goal.returns-in-Text
returns-in-Text c = rw c.in-Text.is (c.no_module_table-in-Text.ensures c.args.left.now)

pub returns-in-Closure : goal.returns-in-Closure
returns-in-Closure c = rw c.in-Closure.is (c.no_module_table-in-Closure.ensures c.args.left.now)

pub returns-in-Builtin : goal.returns-in-Builtin
returns-in-Builtin c = rw c.in-Builtin.is (c.no_module_table-in-Builtin.ensures c.args.left.now)

pub returns-in-Markup : goal.returns-in-Markup
returns-in-Markup c = rw c.in-Markup.is (c.no_module_table-in-Markup.ensures c.args.left.now)
