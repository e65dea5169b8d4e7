use Rattle.lua_graph.proofs.LuaStoreLater.{later-then}
use Rattle.lua_home.specs.Entries.{first_strings, last_strings}
use Rattle.lua_home.proofs.Whole.{two_fills, still_of}
use Rattle.lua_home.proofs.made.fill_strings.Goals as goal

pub returns-clause-put : goal.returns-clause-put
returns-clause-put c =
    two_fills c.args.tables.now.strings.at first_strings last_strings c.args.store.now.heap c.fill_first_strings.new.store.heap c.fill_last_strings.new.store.heap c.in_ok-fill_first_strings.ensures.put c.in_ok-fill_last_strings.ensures.put

pub fill_first_strings-requires : goal.fill_first_strings-requires
fill_first_strings-requires c = c.requires

pub fill_last_strings-requires : goal.fill_last_strings-requires
fill_last_strings-requires c = still_of c.in_ok-fill_first_strings.ensures.later c.requires

pub returns-clause-later : goal.returns-clause-later
returns-clause-later c = later-then c.args.store.now c.fill_first_strings.new.store c.fill_last_strings.new.store c.in_ok-fill_first_strings.ensures.later c.in_ok-fill_last_strings.ensures.later
