-- A TARGET THAT IS FOUND AT ONCE.
use Rattle.std.specs.Prelude.{◌≡◌, List, [], ◌∷◌}
use Rattle.lua_code.specs.LuaSlotsCode.{Constants, CExps, CTarget}
use Rattle.lua_operators.specs.LuaSlotsPoints.{SFrame, STarget, Finds, Now}
use Rattle.lua_operators.specs.LuaSlotsSlots.{Slots}
use Rattle.lua_code.specs.LuaSlotsStatements.{finds}

-- a variable or a global variable, with the constants of the module: nothing is evaluated
abbrev pub IsFoundAt : Constants → CTarget → STarget → Type 0
IsFoundAt constants c t = (values : CExps) (fs : List SFrame) (s : Slots) → finds constants (c ∷ []) [] values fs s ≡ Now (Finds [] (t ∷ []) values fs) s
