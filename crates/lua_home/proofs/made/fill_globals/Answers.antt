use Rattle.std.proofs.Common.{◌++◌}
use Rattle.lua_graph.proofs.LuaStoreLater.{later-then}
use Rattle.lua_home.specs.Entries.{first_globals, middle_globals, last_globals}
use Rattle.lua_home.proofs.Whole.{two_fills, still_of}
use Rattle.lua_home.proofs.made.fill_globals.Goals as goal

pub returns-clause-put : goal.returns-clause-put
returns-clause-put c =
    let t = c.args.tables.now in
    two_fills t.globals.at (first_globals t) (middle_globals ++ last_globals t) c.args.store.now.heap c.fill_first.new.store.heap c.fill_last.new.store.heap c.in_ok-fill_first.ensures.put
    (two_fills t.globals.at middle_globals (last_globals t) c.fill_first.new.store.heap c.fill_middle.new.store.heap c.fill_last.new.store.heap c.in_ok-fill_middle.ensures.put c.in_ok-fill_last.ensures.put)

pub fill_first-requires : goal.fill_first-requires
fill_first-requires c = c.requires

pub fill_middle-requires : goal.fill_middle-requires
fill_middle-requires c = still_of c.in_ok-fill_first.ensures.later c.requires

pub fill_last-requires : goal.fill_last-requires
fill_last-requires c = still_of c.in_ok-fill_middle.ensures.later (still_of c.in_ok-fill_first.ensures.later c.requires)

pub returns-clause-later : goal.returns-clause-later
returns-clause-later c = later-then c.args.store.now c.fill_first.new.store c.fill_last.new.store c.in_ok-fill_first.ensures.later (later-then c.fill_first.new.store c.fill_middle.new.store c.fill_last.new.store c.in_ok-fill_middle.ensures.later c.in_ok-fill_last.ensures.later)

pub returns-in_err-fill_last-clause-later : goal.returns-in_err-fill_last-clause-later
returns-in_err-fill_last-clause-later c = later-then c.args.store.now c.fill_first.new.store c.fill_last.new.store c.in_ok-fill_first.ensures.later (later-then c.fill_first.new.store c.fill_middle.new.store c.fill_last.new.store c.in_ok-fill_middle.ensures.later c.in_err-fill_last.ensures.later)
