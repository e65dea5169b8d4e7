use Rattle.std.proofs.Common.{◌≡◌}
use Rattle.lua_home_laws.specs.LuaGoesWeight.{weight}
use Rattle.lua_machine.specs.Moved.{point_of}
use Rattle.lua_machine.specs.Going.{LeadsTo}
use Rattle.lua_machine.proofs.going.advance.Given as goal

-- moves have led here
abbrev pub invariant-steps : goal.invariant-steps
invariant-steps g l = LeadsTo l.fn.store l.fn.state l.fn.focus l.fn.left l.fn.turns l.store l.state l.left l.turns l.next

abbrev pub decreases-steps : goal.decreases-steps
decreases-steps g l = l.left.steps

-- and no step is paid yet
abbrev pub invariant-moves : goal.invariant-moves
invariant-moves g l = (l.left.steps ≡ l.before) × LeadsTo l.fn.store l.fn.state l.fn.focus l.fn.left l.fn.turns l.store l.state l.left l.turns l.next

abbrev pub decreases-moves : goal.decreases-moves
decreases-moves g l = weight (point_of l.store l.state l.next)
