use Rattle.lua_turns.proofs.rows.execute.Goals as goal

pub returns-then-not-is_whole_statement : goal.returns-then-not-is_whole_statement
returns-then-not-is_whole_statement g c =
    let same = c.begin_statement.ensures in
    same

pub returns-in-Some : goal.returns-in-Some
returns-in-Some g c = rw c.in-Some.is at c.in_ok-strode.ensures

pub begin_statement-requires-in-None : goal.begin_statement-requires-in-None
begin_statement-requires-in-None g c =
    let idle = rw c.in-None.is at c.in_ok-strode.ensures in
    rw (idle.store, idle.state) c.requires

pub returns-in-None : goal.returns-in-None
returns-in-None g c =
    let idle = rw c.in-None.is at c.in_ok-strode.ensures in
    rw idle.store (rw (idle.store, idle.state, idle.left, idle.counter) at c.begin_statement-in-None.ensures)
