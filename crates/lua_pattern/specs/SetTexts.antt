-- The set that a text writes between `[` and `]`, as `mw.text.trim` and `encode` take one: nothing may stand behind its `]`.
use Rattle.std.specs.Prelude.{◌≡◌, ℕ, List, [], ◌∷◌, ◌++◌, Result, Ok, Err}
use Rattle.lua_pattern.specs.declared.item.Set.{Set}
use Rattle.lua_pattern.specs.declared.item.Item.{Item}
use Rattle.lua_pattern.specs.declared.item.Item.TheVariants.{One}
use Rattle.lua_pattern.specs.declared.item.Single.TheVariants.{Of}
use Rattle.lua_pattern.specs.declared.read.PatternFault.{PatternFault}
use Rattle.lua_pattern.specs.declared.read.PatternFault.TheVariants as fault
use Rattle.lua_pattern.specs.Read.{Read, Fault, Fine, read_of}

-- the only item, where it is a set; else a set has no `]` of its own
abbrev pub only_item : List Item → Result Set ℕ
only_item (One (Of set) ∷ []) = Ok set
only_item items = Err 2

abbrev pub only_set : Read → Result Set ℕ
only_set (Fault n) = Err n
only_set (Fine anchored items slots) = only_item items

-- the set that the codes of a text write
abbrev pub set_of : List ℕ → Result Set ℕ
set_of text = only_set (read_of (91 ∷ text ++ 93 ∷ []))

-- The fault is the one with this number, or memory ran out.
abbrev pub IsSetFault : Result Set ℕ → PatternFault → Type 0
IsSetFault read (fault.At n) = read ≡ Err n
IsSetFault read fault.NoMemory = Unit {0}
