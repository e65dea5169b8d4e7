use Rattle.std.proofs.Common.{length}
use Rattle.lua_code.specs.Seen.{expressions_seen}
use Rattle.lua_operators.specs.LuaSlotsPoints.{Lists}
use Rattle.lua_strides.specs.LuaStackDeclaredFocusFocusTheVariants as focus
use Rattle.lua_operators.specs.LuaStackSeen.{values_seen}
use Rattle.lua_loops.specs.LuaStateSeen.{frames_of}
use Rattle.lua_turns.specs.Rows.{Follows}
use Rattle.lua_turns.proofs.listing.read_front.Given as goal

-- what is left of the list is next, with the values that were read
abbrev pub invariant-items : goal.invariant-items
invariant-items g l = Follows l.fn.store l.fn.state (Lists (expressions_seen l.fn.expressions) (values_seen l.fn.store.texts l.fn.before) (frames_of l.fn.store l.fn.state)) l.fn.left l.fn.turns l.fn.store l.fn.state l.left l.turns (focus.Lists l.rest.items l.before)

abbrev pub decreases-items : goal.decreases-items
decreases-items g l = length l.rest.items.now
