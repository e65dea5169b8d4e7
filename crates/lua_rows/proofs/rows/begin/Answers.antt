use Rattle.lua_rows.proofs.rows.begin.Goals as goal

pub returns-in-Some : goal.returns-in-Some
returns-in-Some g c = rw c.in-Some.is at c.in_ok-called.ensures

pub begin_row-requires : goal.begin_row-requires
begin_row-requires g c =
    let idle = rw c.in-None.is at c.in_ok-called.ensures in
    rw (idle.store, idle.state) c.requires

pub returns-in-Some-strode : goal.returns-in-Some-strode
returns-in-Some-strode g c =
    let idle = rw c.in-None.is at c.in_ok-called.ensures in
    rw (idle.store, idle.state, idle.left, idle.counter) at (rw c.in-Some-strode.is at c.in_ok-strode-in-None.ensures)

pub returns : goal.returns
returns g c =
    let idle = rw c.in-None.is at c.in_ok-called.ensures in
    rw (idle.store, idle.state, idle.left, idle.counter) at (rw c.in-None-strode.is at c.in_ok-strode-in-None.ensures)
