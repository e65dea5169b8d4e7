use Rattle.lua_turns.specs.LuaStridesNext.{focus_of}
use Rattle.lua_turns.specs.LuaStackSeen.{focus_seen}
use Rattle.lua_turns.specs.LuaStateSeen.{frames_of}
use Rattle.lua_turns.specs.Rows.{Follows}
use Rattle.lua_rows.proofs.rows.row.Given as goal

-- moves have led here
abbrev pub invariant-row : goal.invariant-row
invariant-row g l = Follows l.fn.store l.fn.state (focus_seen l.fn.store (focus_of l.fn.first) (frames_of l.fn.store l.fn.state)) l.fn.left l.fn.turns l.store l.state l.left l.turns (focus_of l.next)
