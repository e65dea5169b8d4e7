-- What a step of the reading tells.
use Rattle.std.specs.Prelude.{◌≡◌, ℕ, List, Option, Some, slice_get}
use Rattle.lua_pattern.specs.declared.read.PatternFault.{PatternFault}
use Rattle.lua_pattern.specs.declared.read.PatternFault.TheVariants as fault
use Rattle.lua_pattern.specs.declared.item.Item.{Item}
use Rattle.lua_pattern.specs.declared.item.Item.TheVariants as item
use Rattle.lua_pattern.specs.declared.slots.Slot.{Slot}
use Rattle.lua_pattern.specs.declared.slots.Slot.TheVariants as slot
use Rattle.lua_pattern.specs.Read.{Next, Stops, Read, Fault}

-- the fault is the one with this number, or memory ran out
abbrev pub IsFault : Next → PatternFault → Type 0
IsFault step (fault.At n) = step ≡ Stops n
IsFault step fault.NoMemory = Unit {0}

abbrev pub IsReadFault : Read → PatternFault → Type 0
IsReadFault read (fault.At n) = read ≡ Fault n
IsReadFault read fault.NoMemory = Unit {0}

-- No capture that is closed has the place in the list.
abbrev pub IsOpen : Option Slot → Type 0
IsOpen (Some (slot.Text first last)) = ⊥
IsOpen _ = Unit {0}

abbrev pub IsOpenAt : List Slot → ℕ → Type 0
IsOpenAt slots index = IsOpen (slice_get slots index)

abbrev pub IsBack : Option Slot → Item → Type 0
IsBack (Some (slot.Text first last)) x = x ≡ item.Back first last
IsBack _ x = ⊥

abbrev pub IsBackTo : List Slot → ℕ → Item → Type 0
IsBackTo slots index x = IsBack (slice_get slots index) x
