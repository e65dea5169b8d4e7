-- What `find` and `match` give over code points (Scribunto, Ustring library): as in `string`, but that the alphabet is that of
-- code points and `init` counts them. Places of the answer are bytes.
use Rattle.std.specs.Prelude.{◌≡◌, ℕ, Bool, true, false, ℤ, List, length, drop, chars}
use Rattle.lua_string.specs.LuaPatternDeclaredPatternMatch.{Match}
use Rattle.lua_string.specs.LuaPatternDeclaredPatternSearch.{Search}
use Rattle.lua_string.specs.LuaPatternDeclaredReadPatternFault.{PatternFault}
use Rattle.lua_string.specs.LuaPatternDeclaredReadPatternFaultTheVariants as fault
use Rattle.lua_string.specs.LuaPatternTexts.{points}
use Rattle.lua_string.specs.LuaPatternWay.{first}
use Rattle.lua_string.specs.LuaPatternRead.{Read, Fault, Fine, read_of, codes}
use Rattle.lua_string.specs.LuaPatternReads.{IsReadFault}
use Rattle.lua_string.specs.Places.{first_place}
use Rattle.lua_string.specs.Finds.{IsPriced, IsPlain, place_of}
use Rattle.mw_ustring.specs.Texts.{offset_of}

-- the byte at which a search begins
abbrev pub start_of : List ℕ → ℤ → ℕ
start_of s init = offset_of s (first_place (length (chars s)) init)

abbrev pub AnswersRead : (Match → ℕ) → ℕ → List ℕ → ℕ → Read → Search → Type 0
AnswersRead size budget s from (Fault n) found = ⊥
AnswersRead size budget s from (Fine anchored items slots) found = IsPriced size budget slots (first points anchored items s from) found

-- The answer of a pattern from a byte on. It is spent exactly where the tries and the bytes of the answer exceed the budget.
abbrev pub Answers : (Match → ℕ) → ℕ → List ℕ → List ℕ → ℕ → Search → Type 0
Answers size budget s pattern from found = AnswersRead size budget s from (read_of (codes points pattern)) found

abbrev pub Finds : (Match → ℕ) → Bool → ℕ → List ℕ → List ℕ → ℕ → Search → Type 0
Finds size false budget s pattern from found = Answers size budget s pattern from found
Finds size true budget s pattern from found = IsPlain from (length pattern) (place_of pattern (drop from s)) found

-- A plain search has no fault but want of memory.
abbrev pub IsFindFault : Bool → List ℕ → PatternFault → Type 0
IsFindFault true pattern e = e ≡ fault.NoMemory
IsFindFault false pattern e = IsReadFault (read_of (codes points pattern)) e
