use Rattle.lua_gsubs.proofs.resuming.put_given.Goals as goal

pub returns-in-Table-clause-given : goal.returns-in-Table-clause-given
returns-in-Table-clause-given c =
    let refused = rw c.in-Table.is at c.refuse.ensures c.args.store.now.texts c.args.far.now c.args.far.now c.args.left.now in
    rw c.in-Table.is refused

pub returns-in-Closure-clause-given : goal.returns-in-Closure-clause-given
returns-in-Closure-clause-given c =
    let refused = rw c.in-Closure.is at c.refuse-in-Closure.ensures c.args.store.now.texts c.args.far.now c.args.far.now c.args.left.now in
    rw c.in-Closure.is refused

pub returns-in-Builtin-clause-given : goal.returns-in-Builtin-clause-given
returns-in-Builtin-clause-given c =
    let refused = rw c.in-Builtin.is at c.refuse-in-Builtin.ensures c.args.store.now.texts c.args.far.now c.args.far.now c.args.left.now in
    rw c.in-Builtin.is refused

pub returns-in-Markup-clause-given : goal.returns-in-Markup-clause-given
returns-in-Markup-clause-given c =
    let refused = rw c.in-Markup.is at c.refuse-in-Markup.ensures c.args.store.now.texts c.args.far.now c.args.far.now c.args.left.now in
    rw c.in-Markup.is refused
