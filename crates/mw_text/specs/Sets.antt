-- THE SET of `trim` and `encode`: the whole text between `[` and `]` of a pattern over code points, or the usual one where none
-- is given (Scribunto manual, mw.text.trim, mw.text.encode).
use Rattle.std.specs.Prelude.{◌≡◌, ℕ, Bool, List, Option, Some, None, Result, Ok, Err}
use Rattle.mw_ustring.specs.LuaPatternDeclaredItemSet.{Set}
use Rattle.mw_ustring.specs.LuaPatternDeclaredReadPatternFault.{PatternFault}
use Rattle.mw_ustring.specs.LuaPatternDeclaredReadPatternFaultTheVariants as fault
use Rattle.mw_ustring.specs.LuaPatternTexts.{points}
use Rattle.mw_ustring.specs.LuaPatternRead.{codes}
use Rattle.mw_ustring.specs.LuaPatternSets.{in_set}
use Rattle.mw_ustring.specs.LuaPatternSetTexts.{set_of}

abbrev pub given_set : Result Set ℕ → Result (Option Set) ℕ
given_set (Ok set) = Ok (Some set)
given_set (Err n) = Err n

abbrev pub chosen_set : Option (List ℕ) → Result (Option Set) ℕ
chosen_set None = Ok None
chosen_set (Some text) = given_set (set_of (codes points text))

-- a code point is in the set, or in the usual one
abbrev pub member : (ℕ → Bool) → Option Set → ℕ → Bool
member usual None c = usual c
member usual (Some set) c = in_set points set c

-- The fault is the one with this number, or memory ran out.
abbrev pub IsChoiceFault : Result (Option Set) ℕ → PatternFault → Type 0
IsChoiceFault choice (fault.At n) = choice ≡ Err n
IsChoiceFault choice fault.NoMemory = Unit {0}
