-- REGISTERS of all functions in progress, the oldest first. Reading one that isn't there gives nil, and writing one makes those before it.
use Rattle.std.specs.Prelude.{ℕ, zero, suc, ◌+◌, List, [], ◌∷◌, length, slice_get}
use Rattle.lua_slots.specs.LuaHeapValue.{Value, Nil, Text}
use Rattle.lua_slots.specs.LuaMeaningValues.{first, rest}
use Rattle.lua_slots.specs.Code.{Constants}
use Rattle.lua_slots.specs.Slots.{Slot, Plain, slot_value}
use Rattle.lua_flat.specs.Operations.{Operand, RegisterO, ConstantO, TextO, Wanted, Exactly, Every}

abbrev pub read : List Slot → ℕ → Value
read regs at = slot_value (slice_get regs at)

abbrev pub put : ℕ → Slot → List Slot → List Slot
put zero x [] = x ∷ []
put zero x (y ∷ regs) = x ∷ regs
put (suc n) x [] = Plain Nil ∷ put n x []
put (suc n) x (y ∷ regs) = y ∷ put n x regs

-- WHAT IS READ at the base of a function
abbrev pub operand : Constants → List Slot → ℕ → Operand → Value
operand constants regs base (RegisterO r) = read regs (base + r)
operand constants regs base (ConstantO v) = v
operand constants regs base (TextO n) = Text (constants n)

-- SEVERAL VALUES: those of so many registers; a list that is adjusted to so many; and values that are put in a row
abbrev pub values_at : List Slot → ℕ → ℕ → List Value
values_at regs at zero = []
values_at regs at (suc n) = read regs at ∷ values_at regs (at + 1) n

abbrev pub adjusted : ℕ → List Value → List Value
adjusted zero vs = []
adjusted (suc n) vs = first vs ∷ adjusted n (rest vs)

abbrev pub put_slots : ℕ → List Slot → List Slot → List Slot
put_slots at [] regs = regs
put_slots at (x ∷ xs) regs = put_slots (at + 1) xs (put at x regs)

abbrev pub put_values : ℕ → List Value → List Slot → List Slot
put_values at [] regs = regs
put_values at (v ∷ vs) regs = put_values (at + 1) vs (put at (Plain v) regs)

-- as many as are wanted
abbrev pub taken : Wanted → List Value → List Value
taken (Exactly n) vs = adjusted n vs
taken Every vs = vs

-- the top behind them, where it matters how many there are
abbrev pub top_of : Wanted → ℕ → List Value → ℕ → ℕ
top_of (Exactly n) at vs top = top
top_of Every at vs top = at + length vs
