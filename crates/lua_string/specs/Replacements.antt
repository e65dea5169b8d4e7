-- What a replacement text of `gsub` stands for at a match (Lua 5.1 manual, 5.4, string.gsub). Bytes by their codes: 37 is %.
use Rattle.std.specs.Prelude.{◌≡◌, ℕ, ◌-◌, Bool, true, false, ◌==◌, ◌&&◌, if◌then◌else◌, List, [], ◌∷◌, ◌++◌, length, slice_get, Option, Some, None, Result, Ok, Err}
use Rattle.std.specs.Char.{is_ascii_digit}
use Rattle.std.specs.Fmt.{decimal}
use Rattle.lua_pattern.specs.declared.read.PatternFault.{PatternFault}
use Rattle.lua_pattern.specs.declared.read.PatternFault.TheVariants as fault
use Rattle.lua_string.specs.Texts.{saturated}
use Rattle.lua_string.specs.declared.replacing.CaptureText.{CaptureText}
use Rattle.lua_string.specs.declared.replacing.CaptureText.TheVariants.{Bytes, Place}

-- a place is its digits
abbrev pub text_of : CaptureText → List ℕ
text_of (Bytes text) = text.now
text_of (Place n) = decimal n

-- the capture of a number, if it is there
abbrev pub numbered : Option CaptureText → Result (List ℕ) ℕ
numbered None = Err 7
numbered (Some c) = Ok (text_of c)

abbrev pub is_none_there : List CaptureText → Bool
is_none_there [] = true
is_none_there (c ∷ cs) = false

-- `%0` is the whole match, and so is `%1` where there are no captures
abbrev pub capture_text : List ℕ → List CaptureText → ℕ → Result (List ℕ) ℕ
capture_text whole captures d =
    if d == 0 then Ok whole else (if d == 1 && is_none_there captures then Ok whole else numbered (slice_get captures (d - 1)))

-- a text, and what follows
abbrev pub put : Result (List ℕ) ℕ → Result (List ℕ) ℕ → Result (List ℕ) ℕ
put (Err n) more = Err n
put (Ok text) (Err n) = Err n
put (Ok text) (Ok more) = Ok (text ++ more)

-- behind `%`: a digit is a capture; any other byte is itself
abbrev pub behind_percent : List ℕ → List CaptureText → ℕ → Result (List ℕ) ℕ
behind_percent whole captures c = if is_ascii_digit c then capture_text whole captures (c - 48) else Ok (c ∷ [])

-- A last `%` is itself. The fault is the first, and has number 7.
abbrev pub replaced_of : List ℕ → List CaptureText → List ℕ → Result (List ℕ) ℕ
replaced_of whole captures [] = Ok []
replaced_of whole captures (b ∷ []) = Ok (b ∷ [])
replaced_of whole captures (b ∷ (c ∷ cs)) =
    if b == 37 then put (behind_percent whole captures c) (replaced_of whole captures cs)
    else put (Ok (b ∷ [])) (replaced_of whole captures (c ∷ cs))

-- The fault is the one with this number, or memory ran out.
abbrev pub IsReplacedFault : Result (List ℕ) ℕ → PatternFault → Type 0
IsReplacedFault r (fault.At n) = r ≡ Err n
IsReplacedFault r fault.NoMemory = Unit {0}

-- There is a text, and it has so many bytes, or where they are more, this is the greatest number of 64 bits.
abbrev pub HasLength : Result (List ℕ) ℕ → ℕ → Type 0
HasLength (Ok text) n = n ≡ saturated (length text)
HasLength (Err e) n = ⊥
