use Rattle.std.specs.Prelude.{[], ◌∷◌, true, bytes_eq, codes}
use Rattle.lua_code.specs.WkBaseDeclaredTitleNamespaceTheVariants.{Main}
use Rattle.lua_code.specs.WkBaseTitles.{title_of}
use Rattle.lua_code.specs.LuaHeapValue.{Truth}
use Rattle.lua_state.specs.LuaSlotsErrors.{gives}
use Rattle.lua_code.specs.LuaSlotsModules.{with_strict, require_titled}
use Rattle.lua_state.specs.LuaSlotsPoints.{Costs}
use Rattle.lua_state.specs.Seen.{slots_of, frames_of}
use Rattle.lua_state.specs.Worlds.{world_seen}
use Rattle.lua_modules.proofs.Parts.{chosen, other}
use Rattle.lua_modules.proofs.requiring.require_text.Goals as goal

pub returns-then-is_strict : goal.returns-then-is_strict
returns-then-is_strict c =
    chosen c.args.store.now c.require_strict.new.store c.args.state.now c.args.state.now c.args.left.now c.require_strict.new.left (bytes_eq c.args.text.now (codes "strict"))
    (Costs 16 (gives (Truth true ∷ []) (frames_of c.args.store.now c.args.state.now) (with_strict (slots_of c.args.store.now c.args.state.now))))
    (require_titled (world_seen c.args.state.now.codes.world) c.args.text.now (title_of c.args.text.now Main) c.args.line (frames_of c.args.store.now c.args.state.now) (slots_of c.args.store.now c.args.state.now))
    c.in_ok-turn.turn c.if-is_strict.ensures c.in_ok-turn.ensures

pub returns : goal.returns
returns c =
    other c.args.store.now c.require_named.new.store c.args.state.now c.require_named.new.state c.args.left.now c.require_named.new.left (bytes_eq c.args.text.now (codes "strict"))
    (Costs 16 (gives (Truth true ∷ []) (frames_of c.args.store.now c.args.state.now) (with_strict (slots_of c.args.store.now c.args.state.now))))
    (require_titled (world_seen c.args.state.now.codes.world) c.args.text.now (title_of c.args.text.now Main) c.args.line (frames_of c.args.store.now c.args.state.now) (slots_of c.args.store.now c.args.state.now))
    c.in_ok-turn-2.turn c.if-is_strict.ensures c.in_ok-turn-2.ensures
