use Rattle.std.proofs.Common.{Some, None}
use Rattle.lua_code.specs.WkBaseTitles.{title_text}
use Rattle.lua_state.specs.Of.{ProgressOf}
use Rattle.lua_state.specs.Worlds.{world_seen}
use Rattle.lua_modules.proofs.Held.{item_all}
use Rattle.lua_modules.proofs.Kept.{required}
use Rattle.lua_modules.proofs.requiring.require_module.Goals as goal

pub require_again-requires-clause-progress : goal.require_again-requires-clause-progress
require_again-requires-clause-progress c =
    item_all (ProgressOf c.args.store.now) c.args.state.now.modules c.args.title.now _ c.in-Some.progress c.in_ok-found.ensures c.in-Some.is c.requires.state.modules

pub returns-in_ok-turn-in-Some : goal.returns-in_ok-turn-in-Some
returns-in_ok-turn-in-Some c =
    let w = world_seen c.args.state.now.codes.world in
    required c.args.store.now c.require_again.new.store c.args.state.now c.require_again.new.state c.args.left.now c.require_again.new.left c.args.text.now c.args.title.now c.args.line c.in_ok-turn-in-Some.turn
    w _ (Some c.in-Some.progress) c.in_ok-found.ensures c.in-Some.is (c.in_ok-turn-in-Some.ensures c.args.title.now (w.modules (title_text c.args.title.now)))

pub returns-in_ok-turn-in-None : goal.returns-in_ok-turn-in-None
returns-in_ok-turn-in-None c =
    required c.args.store.now c.require_first.new.store c.args.state.now c.require_first.new.state c.args.left.now c.require_first.new.left c.args.text.now c.args.title.now c.args.line c.in_ok-turn-in-None.turn
    (world_seen c.args.state.now.codes.world) _ None c.in_ok-found.ensures c.in-None.is c.in_ok-turn-in-None.ensures
