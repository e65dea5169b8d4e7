use Rattle.lua_graph.proofs.LuaStoreLater.{later-then}
use Rattle.lua_home.specs.Entries.{first_text, last_text}
use Rattle.lua_home.proofs.Whole.{two_fills, still_of}
use Rattle.lua_home.proofs.made.fill_text.Goals as goal

pub returns-clause-put : goal.returns-clause-put
returns-clause-put c =
    two_fills c.args.tables.now.text.at first_text last_text c.args.store.now.heap c.fill_first_text.new.store.heap c.fill_last_text.new.store.heap c.in_ok-fill_first_text.ensures.put c.in_ok-fill_last_text.ensures.put

pub fill_first_text-requires : goal.fill_first_text-requires
fill_first_text-requires c = c.requires

pub fill_last_text-requires : goal.fill_last_text-requires
fill_last_text-requires c = still_of c.in_ok-fill_first_text.ensures.later c.requires

pub returns-clause-later : goal.returns-clause-later
returns-clause-later c = later-then c.args.store.now c.fill_first_text.new.store c.fill_last_text.new.store c.in_ok-fill_first_text.ensures.later c.in_ok-fill_last_text.ensures.later
