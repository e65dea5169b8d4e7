use Rattle.std.proofs.Common.{◌≡◌, length}
use Rattle.lua_code.specs.LuaMeaningOperators.{text_less}
use Rattle.lua_operators.proofs.ordering.text_less.Given as goal

abbrev pub invariant-bytes : goal.invariant-bytes
invariant-bytes l = text_less l.left l.right ≡ text_less l.initial.left l.initial.right

abbrev pub decreases-bytes : goal.decreases-bytes
decreases-bytes l = length l.left
