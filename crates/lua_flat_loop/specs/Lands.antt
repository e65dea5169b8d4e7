-- AN OPERATION THAT CALLS NOBODY AND TAKES NO CHARGE OF ITS OWN: what it does by definition, and where it goes on.
use Rattle.std.specs.Prelude.{◌≡◌, ℕ, List, [], Option}
use Rattle.lua_flat.specs.LuaHeapValue.{Value}
use Rattle.lua_flat.specs.LuaSlotsCode.{Constants}
use Rattle.lua_stack.specs.LuaSlotsSlots.{Slot, Slots}
use Rattle.lua_stack.specs.LuaSlotsErrors.{gives}
use Rattle.lua_flat.specs.Operations.{Op, Codes}
use Rattle.lua_flat.specs.Flat.{Act, Flat}
use Rattle.lua_flat.specs.Does as does
use Rattle.lua_flat.specs.Does.{Landing, move_of}
use Rattle.lua_flat.specs.Moves as moving
use Rattle.lua_flat.specs.Moves.{settled}

-- it is done by its move and by nothing else
abbrev pub IsByMove : Op → Type 0
IsByMove o = (codes : Codes) (cs : Constants) (line : Option ℕ) (a : Act) (acts : List Act) (f : Flat) → moving.does codes cs line o a acts f ≡ settled codes (move_of cs line a.base f.regs f.top f.slots o) f

pub record Lands (cs : Constants) (o : Op) (base pc : ℕ) (regs : List Slot) (top : ℕ) (s s' : Slots) (l : Landing) : Type 0 where
  pub values : List Value
  pub by_move : IsByMove o
  pub moves : (line : Option ℕ) → move_of cs line base regs top s o ≡ gives values [] s'
  pub becomes : does.becomes o base pc values regs top ≡ l
