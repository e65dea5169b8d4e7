use Rattle.lua_calls.proofs.plain.end_plain.Goals as goal

pub returns-in-Ok : goal.returns-in-Ok
returns-in-Ok c = rw c.in-Ok.is (c.give_list.ensures c.args.left.now)

pub returns-in-Err : goal.returns-in-Err
returns-in-Err c = rw c.in-Err.is c.refuse.ensures
