-- `and` AND `or`, by the truth of the first operand that makes the second one unneeded (manual 2.5.3).
use Rattle.std.specs.Prelude.{Bool, true, false}
use Rattle.lua_code.specs.LuaSlotsCode.{CExp, AndC, OrC}

abbrev pub deciding_with : Bool → CExp → CExp → CExp
deciding_with false a b = AndC a b
deciding_with true a b = OrC a b
