use Rattle.std.proofs.Common.{◌∙◌, refl}
use Rattle.lua_store.proofs.Later.{later-then, of-later}
use Rattle.lua_store.specs.declared.value.Value.TheVariants.{Table}
use Rattle.lua_modules.proofs.LuaStateStaying.{state_later}
use Rattle.lua_runs.proofs.Starting.{first_scenes, scenes_of, first_seen}
use Rattle.lua_runs.proofs.starts.make_first.Goals as goal

pub returns-clause-table : goal.returns-clause-table
returns-clause-table c = of-later c.make_frame.new.store c.new.new.store c.in_ok-scenes.ensures.later (Table c.in_ok-table.table) c.in_ok-table.ensures.of

pub returns-clause-later : goal.returns-clause-later
returns-clause-later c = later-then c.args.store.now c.make_frame.new.store c.new.new.store c.in_ok-table.ensures.later c.in_ok-scenes.ensures.later

pub returns-clause-of : goal.returns-clause-of
returns-clause-of c =
    let later = later-then c.args.store.now c.make_frame.new.store c.new.new.store c.in_ok-table.ensures.later c.in_ok-scenes.ensures.later in
    scenes_of c.new.new.store c.args.state.now c.push.new.self (state_later c.args.store.now c.new.new.store later c.args.state.now c.requires.state)
    (first_scenes c.new.new.store c.in_ok-scenes.scenes c.push.new.self _ c.in_ok-scenes.ensures.of c.in_ok-scenes.ensures.made c.in_ok-push.ensures.ok c.in_ok-push.ensures.names
    (record {
      table = of-later c.make_frame.new.store c.new.new.store c.in_ok-scenes.ensures.later (Table c.in_ok-table.table) c.in_ok-table.ensures.of;
      names = c.requires.names;
      parent = c.requires.parent;
    }))

pub returns-clause-heap : goal.returns-clause-heap
returns-clause-heap c = c.in_ok-scenes.ensures.heap ∙ c.in_ok-table.ensures.made

pub returns-clause-scenes : goal.returns-clause-scenes
returns-clause-scenes c =
    first_seen c.in_ok-scenes.scenes c.push.new.self _ c.args.store.now.heap c.args.scene c.args.parent c.in_ok-scenes.ensures.made c.in_ok-push.ensures.ok refl c.in_ok-table.ensures.at
