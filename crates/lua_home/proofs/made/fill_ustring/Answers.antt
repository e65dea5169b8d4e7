use Rattle.lua_graph.proofs.LuaStoreLater.{later-then}
use Rattle.lua_home.specs.Entries.{first_ustring, last_ustring}
use Rattle.lua_home.proofs.Whole.{two_fills, still_of}
use Rattle.lua_home.proofs.made.fill_ustring.Goals as goal

pub returns-clause-put : goal.returns-clause-put
returns-clause-put c =
    two_fills c.args.tables.now.ustring.at first_ustring last_ustring c.args.store.now.heap c.fill_first_ustring.new.store.heap c.fill_last_ustring.new.store.heap c.in_ok-fill_first_ustring.ensures.put c.in_ok-fill_last_ustring.ensures.put

pub fill_first_ustring-requires : goal.fill_first_ustring-requires
fill_first_ustring-requires c = c.requires

pub fill_last_ustring-requires : goal.fill_last_ustring-requires
fill_last_ustring-requires c = still_of c.in_ok-fill_first_ustring.ensures.later c.requires

pub returns-clause-later : goal.returns-clause-later
returns-clause-later c = later-then c.args.store.now c.fill_first_ustring.new.store c.fill_last_ustring.new.store c.in_ok-fill_first_ustring.ensures.later c.in_ok-fill_last_ustring.ensures.later
