use Rattle.std.proofs.Common.{refl}
use Rattle.lua_calls.proofs.Beginning.{stops_begun}
use Rattle.lua_calls.proofs.gsubs.go_from.Goals as goal

pub returns-in-Ok-Answers : goal.returns-in-Ok-Answers
returns-in-Ok-Answers c =
    let made = rw c.of_list.ensures at c.give_all.ensures c.args.left.now in
    rw (c.in-Ok-Answers.is, c.in-Ok-Answers.field-0-is) (refl, made)

pub replace-requires-clause-within : goal.replace-requires-clause-within
replace-requires-clause-within c = c.new.ensures.within _

pub returns-in-Ok-Asks : goal.returns-in-Ok-Asks
returns-in-Ok-Asks c =
    let made = rw c.new.ensures.nothing at c.replace.ensures in
    rw (c.in-Ok-Asks.is, c.in-Ok-Asks.field-0-is) made

pub returns-in-Err : goal.returns-in-Err
returns-in-Err c = rw c.in-Err.is (stops_begun c.args.store.now c.args.state.now c.args.left.now c.args.line c.in-Err.stop c.refuse.new.store c.refuse.new.left c.refuse.result c.refuse.ensures)
