use Rattle.lua_turns.proofs.rows.evaluate.Goals as goal

pub returns-then-not-is_whole : goal.returns-then-not-is_whole
returns-then-not-is_whole g c = c.begin_expression.ensures

pub returns-in-Some : goal.returns-in-Some
returns-in-Some g c = rw c.in-Some.is at c.in_ok-strode.ensures

pub begin_expression-requires-in-None : goal.begin_expression-requires-in-None
begin_expression-requires-in-None g c =
    let idle = rw c.in-None.is at c.in_ok-strode.ensures in
    rw idle.state c.requires

pub returns-in-None : goal.returns-in-None
returns-in-None g c =
    let idle = rw c.in-None.is at c.in_ok-strode.ensures in
    rw (idle.state, idle.left, idle.counter) at c.begin_expression-in-None.ensures
