use Rattle.std.proofs.Common.{sym, subst, []}
use Rattle.lua_strings.specs.LuaBasicSeen.{values_seen, Paid}
use Rattle.lua_strings.proofs.LuaBasicFound.{for_nothing}
use Rattle.mw_htmls.specs.Setters.{setter_of}
use Rattle.mw_htmls.proofs.Given.{given_table, given_one}
use Rattle.mw_htmls.proofs.tabled.set_given.Goals as goal

pub set_table-requires-clause-table : goal.set_table-requires-clause-table
set_table-requires-clause-table c = c.in-Some.ensures.of c.args.store.now c.requires.given

pub returns-in-Some-clause-answer : goal.returns-in-Some-clause-answer
returns-in-Some-clause-answer c =
    let s = c.args.store.now in
    let given = values_seen s.texts c.args.given.now in
    subst (λ p. Paid p s c.args.left.now c.set_table.new.store c.set_table.new.left c.set_table.result) (sym (given_table (setter_of c.args.setter) s.heap c.args.id.at given c.in-Some.table.at (c.in-Some.ensures.table s.texts 1 []))) c.set_table.ensures.answer

pub returns-in-None-clause-answer : goal.returns-in-None-clause-answer
returns-in-None-clause-answer c =
    let s = c.args.store.now in
    let given = values_seen s.texts c.args.given.now in
    subst (λ p. Paid p s c.args.left.now c.set_one.new.store c.args.left.now c.set_one.result) (sym (given_one (setter_of c.args.setter) s.heap c.args.id.at given _ (c.in-None.ensures.table s.texts 1 [])))
    (for_nothing _ s c.set_one.new.store c.args.left.now c.set_one.result c.set_one.ensures.answer)
