-- WHAT IS RELIED ON while code goes on: registers of variables, and values that frames of the machine over trees hold.
use Rattle.std.specs.Prelude.{◌≡◌, ◌≤◌, ◌<◌, ◌≢◌, ℕ, ◌+◌, List, [], ◌∷◌, Some, slice_get}
use Rattle.lua_slots.specs.LuaHeapValue.{Value}
use Rattle.lua_slots.specs.Code.{Constants}
use Rattle.lua_slots.specs.Slots.{Slot, Plain, Boxed, slot_cell}
use Rattle.lua_flat.specs.Locals.{Local, PlainL, CellL, register_of}
use Rattle.lua_flat.specs.Operations.{Operand, RegisterO}
use Rattle.lua_flat.specs.Registers.{read, operand}

-- VALUES THAT ARE KEPT, each where an operand reads it
abbrev pub Keeps : Type 0
Keeps = List (Operand × Value)

-- each of them is there, at the base of its function
abbrev pub AreKept : Constants → List Slot → ℕ → Keeps → Type 0
AreKept cs regs base [] = Unit {0}
AreKept cs regs base (k ∷ keeps) = (operand cs regs base k.0 ≡ k.1) × AreKept cs regs base keeps

-- the variables have these slots, the newest first
abbrev pub AreVariables : List Slot → ℕ → List Local → List Slot → Type 0
AreVariables regs base [] [] = Unit {0}
AreVariables regs base (PlainL r ∷ locals) (Plain v ∷ slots) = (read regs (base + r) ≡ v) × AreVariables regs base locals slots
AreVariables regs base (CellL r ∷ locals) (Boxed c ∷ slots) = (slot_cell (slice_get regs (base + r)) ≡ Some c) × AreVariables regs base locals slots
AreVariables regs base locals slots = ⊥

-- BELOW A REGISTER, from which on all may be written
abbrev pub IsBelow : ℕ → Operand → Type 0
IsBelow low (RegisterO r) = r < low
IsBelow low o = Unit {0}

abbrev pub AllBelow : ℕ → Keeps → Type 0
AllBelow low [] = Unit {0}
AllBelow low (k ∷ keeps) = IsBelow low k.0 × AllBelow low keeps

-- AT OR ABOVE A REGISTER: what stands there stays where one below it is written
abbrev pub IsAbove : ℕ → Operand → Type 0
IsAbove low (RegisterO r) = low ≤ r
IsAbove low o = Unit {0}

abbrev pub AllAbove : ℕ → Keeps → Type 0
AllAbove low [] = Unit {0}
AllAbove low (k ∷ keeps) = IsAbove low k.0 × AllAbove low keeps

abbrev pub LocalsBelow : ℕ → List Local → Type 0
LocalsBelow low [] = Unit {0}
LocalsBelow low (l ∷ locals) = (register_of l < low) × LocalsBelow low locals

-- each variable's register is above those of the older ones
abbrev pub IsFalling : List Local → Type 0
IsFalling [] = Unit {0}
IsFalling (l ∷ locals) = LocalsBelow (register_of l) locals × IsFalling locals

-- no value is kept in this register; in none of these
abbrev pub IsOther : ℕ → Operand → Type 0
IsOther r (RegisterO q) = r ≢ q
IsOther r o = Unit {0}

abbrev pub IsApart : ℕ → Keeps → Type 0
IsApart r [] = Unit {0}
IsApart r (k ∷ keeps) = IsOther r k.0 × IsApart r keeps

abbrev pub AreApart : List Local → Keeps → Type 0
AreApart [] keeps = Unit {0}
AreApart (l ∷ locals) keeps = IsApart (register_of l) keeps × AreApart locals keeps

-- within an expression; and between statements, where variables are assigned to
pub record Bounded (low : ℕ) (locals : List Local) (keeps : Keeps) : Type 0 where
  pub locals_below : LocalsBelow low locals
  pub keeps_below : AllBelow low keeps

pub record Tidy (low : ℕ) (locals : List Local) (keeps : Keeps) : Type 0 where
  pub bounded : Bounded low locals keeps
  pub falling : IsFalling locals
  pub apart : AreApart locals keeps

-- values in a row of registers, in front of what else is kept
abbrev pub in_row : ℕ → List Value → Keeps → Keeps
in_row r [] keeps = keeps
in_row r (v ∷ vs) keeps = (RegisterO r, v) ∷ in_row (r + 1) vs keeps
