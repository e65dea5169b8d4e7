-- What `find` and `match` give within a budget of steps (Lua 5.1 manual, 5.4). A try costs one step, and so does each byte
-- of the texts that are given.
use Rattle.std.specs.Prelude.{◌≡◌, ℕ, suc, ◌+◌, ◌<◌, ◌≤◌, Bool, true, false, if◌then◌else◌, ℤ, List, [], ◌∷◌, length, map, drop, Option, Some, None}
use Rattle.std.specs.Option.{option_map}
use Rattle.lua_pattern.specs.declared.pattern.Match.{Match}
use Rattle.lua_pattern.specs.declared.pattern.Search.{Search}
use Rattle.lua_pattern.specs.declared.pattern.Search.TheVariants as search
use Rattle.lua_pattern.specs.declared.read.PatternFault.{PatternFault}
use Rattle.lua_pattern.specs.declared.read.PatternFault.TheVariants as fault
use Rattle.lua_pattern.specs.declared.slots.Slot.{Slot}
use Rattle.lua_pattern.specs.Texts.{bytes}
use Rattle.lua_pattern.specs.Way.{Answer, At, Nowhere, first, begins}
use Rattle.lua_pattern.specs.Found.{IsFound, capture_of}
use Rattle.lua_pattern.specs.Read.{Read, Fault, Fine, read_of, codes}
use Rattle.lua_pattern.specs.Reads.{IsReadFault}
use Rattle.lua_string.specs.Places.{first_place}

-- the first place at which a text has the needle
abbrev pub place_of : List ℕ → List ℕ → Option ℕ
place_of needle [] = if begins needle [] then Some 0 else None
place_of needle (c ∷ cs) = if begins needle (c ∷ cs) then Some 0 else option_map suc (place_of needle cs)

-- A plain search makes no tries and gives no texts.
abbrev pub IsPlain : ℕ → ℕ → Option ℕ → Search → Type 0
IsPlain from len (Some k) (search.Found m tries) = (m.start ≡ from + k) × (m.end ≡ from + k + len) × (m.captures ≡ []) × (tries ≡ 0)
IsPlain from len None (search.NotFound tries) = tries ≡ 0
IsPlain from len _ _ = ⊥

-- the match that an answer tells
abbrev pub match_of : List Slot → ℕ → ℕ → List ℕ → Match
match_of slots start end marks = record { start = start; end = end; captures = map (capture_of marks) slots }

-- It is spent exactly where the tries and the bytes of the answer together exceed the budget.
abbrev pub IsPriced : (Match → ℕ) → ℕ → List Slot → Answer → Search → Type 0
IsPriced size budget slots answer (search.Found m n) = (n + size m ≤ budget) × IsFound slots answer m n
IsPriced size budget slots answer (search.NotFound n) = (n ≤ budget) × (answer ≡ Nowhere n)
IsPriced size budget slots (At start end marks n) search.Spent = budget < n + size (match_of slots start end marks)
IsPriced size budget slots (Nowhere n) search.Spent = budget < n

abbrev pub AnswersRead : (Match → ℕ) → ℕ → List ℕ → ℕ → Read → Search → Type 0
AnswersRead size budget s from (Fault n) found = ⊥
AnswersRead size budget s from (Fine anchored items slots) found = IsPriced size budget slots (first bytes anchored items s from) found

-- The answer of a pattern from a place of Lua on. Under `^` only that place is looked at.
abbrev pub Answers : (Match → ℕ) → ℕ → List ℕ → List ℕ → ℤ → Search → Type 0
Answers size budget s pattern init found =
    AnswersRead size budget s (first_place (length s) init) (read_of (codes bytes pattern)) found

abbrev pub Finds : (Match → ℕ) → Bool → ℕ → List ℕ → List ℕ → ℤ → Search → Type 0
Finds size false budget s pattern init found = Answers size budget s pattern init found
Finds size true budget s pattern init found =
    let from = first_place (length s) init in IsPlain from (length pattern) (place_of pattern (drop from s)) found

-- A plain search has no fault but want of memory.
abbrev pub IsFindFault : Bool → List ℕ → PatternFault → Type 0
IsFindFault true pattern e = e ≡ fault.NoMemory
IsFindFault false pattern e = IsReadFault (read_of (codes bytes pattern)) e
