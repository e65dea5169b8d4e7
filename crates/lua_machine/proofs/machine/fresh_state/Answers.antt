use Rattle.std.proofs.Common.{◌∙◌}
use Rattle.lua_home_laws.proofs.Homes.{made_is_home, made_starts}
use Rattle.lua_code.specs.LuaSlotsCode.{CWorld}
use Rattle.lua_store.proofs.Later.{later-then}
use Rattle.lua_environment.proofs.LuaStackStay.{environment_later}
use Rattle.lua_runs.specs.LuaStateWorlds.{world_seen}
use Rattle.lua_machine.proofs.machine.fresh_state.Goals as goal

pub returns-clause-of : goal.returns-clause-of
returns-clause-of c = record {
  frames = rw c.new-2.ensures tt;
  regs = rw c.new-3.ensures tt;
  functions = rw c.new-4.ensures tt;
  env = environment_later c.environment.new.store c.new.new.store c.in_ok-scenes.ensures.later c.in_ok-env.env c.in_ok-env.ensures.of;
  modules = rw c.new-5.ensures tt;
  loaded = rw c.new-6.ensures tt;
  scenes = c.in_ok-scenes.ensures.of;
  codes = c.new-7.ensures.codes c.new.new.store;
}

pub returns-clause-starts : goal.returns-clause-starts
returns-clause-starts c = λ code work.
    rw (c.new-3.ensures, c.new-4.ensures, c.new-5.ensures, c.new-6.ensures, c.in_ok-scenes.ensures.made)
    (made_starts code work c.args.store.now.heap c.new.new.store.heap c.in_ok-env.env.globals.at c.in_ok-env.env.strings.at (c.in_ok-scenes.ensures.heap ∙ c.in_ok-env.ensures.made) c.in_ok-env.ensures.at)

-- in any code the environment is a home, and what was there stays
pub returns-clause-frame : goal.returns-clause-frame
returns-clause-frame c =
    let code : CWorld = world_seen c.args.world in
    (made_is_home code c.args.store.now.heap c.new.new.store.heap c.in_ok-env.env.globals.at c.in_ok-env.env.strings.at (c.in_ok-scenes.ensures.heap ∙ c.in_ok-env.ensures.made) c.in_ok-env.ensures.at).frame

pub returns-clause-later : goal.returns-clause-later
returns-clause-later c = later-then c.args.store.now c.environment.new.store c.new.new.store c.in_ok-env.ensures.later c.in_ok-scenes.ensures.later
