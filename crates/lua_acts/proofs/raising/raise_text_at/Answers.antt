use Rattle.std.proofs.Common.{w64}
use Rattle.std.proofs.lemmas.Int.{to_z-of_z}
use Rattle.lua_state.specs.LuaMeaningMessages.{place_at}
use Rattle.lua_state.specs.LuaSlotsSlots.{levels_at}
use Rattle.lua_state.specs.LuaStackDeclaredRaisingRaisingTheVariants as raising
use Rattle.lua_state.specs.LuaStackSeen.{activations_seen}
use Rattle.lua_state.proofs.Raised.{may_be}
use Rattle.lua_acts.proofs.Levels.{raised_as}
use Rattle.lua_acts.proofs.raising.raise_text_at.Goals as goal

pub raise_text-requires : goal.raise_text-requires
raise_text-requires c = may_be c.args.store.now c.place_at-place.result (c.place_at-place.ensures.of c.args.store.now c.requires.functions)

pub returns-in-Raises : goal.returns-in-Raises
returns-in-Raises c =
    raised_as c.args.store.now c.raise_text.new.store c.args.state.now c.args.left.now c.raise_text.new.left (place_at (levels_at (activations_seen c.args.store.now c.args.state.now.functions) c.args.line) c.args.level)
    c.place_at-place.result c.args.message.now c.in_ok-raising.raising (raising.Raises c.in-Raises.value) c.in-Raises.is c.requires c.in_ok-raising.ensures.later c.in_ok-raising.ensures.heap c.in_ok-raising.ensures.of
    (rw (to_z-of_z w64 c.args.level c.ranges.level) at (c.place_at-place.ensures.place c.args.store.now)) c.in_ok-raising.ensures.move_

pub returns-in-Spent : goal.returns-in-Spent
returns-in-Spent c =
    raised_as c.args.store.now c.raise_text.new.store c.args.state.now c.args.left.now c.raise_text.new.left (place_at (levels_at (activations_seen c.args.store.now c.args.state.now.functions) c.args.line) c.args.level)
    c.place_at-place.result c.args.message.now c.in_ok-raising.raising (raising.Spent c.in-Spent.which) c.in-Spent.is c.requires c.in_ok-raising.ensures.later c.in_ok-raising.ensures.heap c.in_ok-raising.ensures.of
    (rw (to_z-of_z w64 c.args.level c.ranges.level) at (c.place_at-place.ensures.place c.args.store.now)) c.in_ok-raising.ensures.move_
