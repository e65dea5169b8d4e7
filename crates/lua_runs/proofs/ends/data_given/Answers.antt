use Rattle.std.proofs.Common.{subst}
use Rattle.lua_modules.specs.LuaStackDeclaredFocusFocusTheVariants as focus
use Rattle.lua_modules.specs.LuaStackDeclaredValuesGivenTheVariants as given
use Rattle.lua_store.specs.declared.value.Value.TheVariants as own
use Rattle.lua_store.specs.Parts.{IsOf}
use Rattle.lua_runs.proofs.Parts.{on}
use Rattle.lua_runs.proofs.ends.data_given.Goals as goal

pub returns-in-Table : goal.returns-in-Table
returns-in-Table c = λ l. rw c.in-Table.is (on c.args.store.now c.args.state.now l (focus.Gives (given.One (own.Table c.in-Table.field-0))) c.requires.state (subst (IsOf c.args.store.now) c.in-Table.is c.requires.value, tt))

pub returns-in-Nil : goal.returns-in-Nil
returns-in-Nil c = λ l. rw c.in-Nil.is (c.no_table.ensures l)

pub returns-in-Bool : goal.returns-in-Bool
returns-in-Bool c = λ l. rw c.in-Bool.is (c.no_table-in-Bool.ensures l)

pub returns-in-Number : goal.returns-in-Number
returns-in-Number c = λ l. rw c.in-Number.is (c.no_table-in-Number.ensures l)

pub returns-in-Text : goal.returns-in-Text
returns-in-Text c = λ l. rw c.in-Text.is (c.no_table-in-Text.ensures l)

pub returns-in-Closure : goal.returns-in-Closure
returns-in-Closure c = λ l. rw c.in-Closure.is (c.no_table-in-Closure.ensures l)

pub returns-in-Builtin : goal.returns-in-Builtin
returns-in-Builtin c = λ l. rw c.in-Builtin.is (c.no_table-in-Builtin.ensures l)

pub returns-in-Markup : goal.returns-in-Markup
returns-in-Markup c = λ l. rw c.in-Markup.is (c.no_table-in-Markup.ensures l)
