use Rattle.std.proofs.Common.{subst, Result}
use Rattle.lua_code.specs.WkBaseDeclaredTitleTitle.{Title}
use Rattle.page_run.specs.WkBaseDeclaredTitleReadTitleFault.{TitleFault}
use Rattle.lua_code.specs.LuaSlotsModules.{require_titled}
use Rattle.lua_state.specs.Makes.{Makes}
use Rattle.lua_state.specs.Seen.{slots_of, frames_of}
use Rattle.lua_state.specs.Worlds.{world_seen}
use Rattle.lua_modules.proofs.GivenModules.{read_title, read_none}
use Rattle.lua_modules.proofs.requiring.require_named.Goals as goal

pub returns-in_ok-turn-in-Some : goal.returns-in_ok-turn-in-Some
returns-in_ok-turn-in-Some c =
    subst (λ (x : Result Title TitleFault). Makes c.args.store.now c.args.state.now c.args.left.now c.require_module.new.store c.require_module.new.state c.require_module.new.left
    (require_titled (world_seen c.args.state.now.codes.world) c.args.text.now x c.args.line (frames_of c.args.store.now c.args.state.now) (slots_of c.args.store.now c.args.state.now)) c.in_ok-turn-in-Some.turn)
    (read_title _ _ c.in-Some.title c.in_ok-read.ensures c.in-Some.is) c.in_ok-turn-in-Some.ensures

pub returns-in_ok-turn-in-None : goal.returns-in_ok-turn-in-None
returns-in_ok-turn-in-None c =
    subst (λ (x : Result Title TitleFault). Makes c.args.store.now c.args.state.now c.args.left.now c.lacks_module.new.store c.args.state.now c.lacks_module.new.left
    (require_titled (world_seen c.args.state.now.codes.world) c.args.text.now x c.args.line (frames_of c.args.store.now c.args.state.now) (slots_of c.args.store.now c.args.state.now)) c.in_ok-turn-in-None.turn)
    (read_none _ _ c.in_ok-read.ensures c.in-None.is).1 c.in_ok-turn-in-None.ensures
