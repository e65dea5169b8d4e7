-- A TEXT THAT IS PUT TOGETHER match by match, against the meaning's own: the text so far, the matches and the charge in front of what is
-- to come give the whole.
use Rattle.std.specs.Prelude.{◌≡◌, ℕ, suc, ◌+◌, ◌<◌, ◌^◌, List, ◌++◌, length, Option, Result, Ok, Err, IfErr}
use Rattle.std.specs.Option.{option_map}
use Rattle.lua_number.specs.WkBaseDeclaredLeftLeft.{Left}
use Rattle.lua_iterators.specs.LuaMeaningScope.{Bytes}
use Rattle.lua_replacing.specs.LuaMeaningIterators.{Stand}
use Rattle.lua_replacing.specs.LuaMeaningGsub.{Replaced, Made, Faulty, rest_of}
use Rattle.lua_iterators.specs.LuaBasicDeclaredStopStop.{Stop}
use Rattle.lua_iterators.specs.LuaBasicDeclaredStopStopTheVariants as stop
use Rattle.lua_pattern.specs.declared.read.PatternFault.TheVariants as fault
use Rattle.lua_replacing.specs.LuaStoreSeen.{StoreView}
use Rattle.lua_iterators.specs.MwUstringsFaults.{FaultStops}
use Rattle.lua_iterators.specs.MwFramesCosts.{Took, Lacked}
use Rattle.lua_replacing.specs.declared.far.Far.{Far}
use Rattle.lua_replacing.specs.Seen.{stand_seen}
use Rattle.lua_gsubs.specs.declared.filling.Halt.{Halt}
use Rattle.lua_gsubs.specs.declared.filling.Halt.TheVariants as halt

abbrev pub charge_of : Replaced → ℕ
charge_of (Made n text count) = n
charge_of (Faulty n fault) = n

-- a charge, a text and matches in front
abbrev pub after : ℕ → Bytes → ℕ → Replaced → Replaced
after n text count (Made m more others) = Made (n + m) (text ++ more) (count + others)
after n text count (Faulty m fault) = Faulty (n + m) fault

abbrev pub IsPart : Replaced → Left → Left → Far → Replaced → Type 0
IsPart whole l m f rest = (n : ℕ) × Took n l m × (after n f.text.items f.count rest ≡ whole)

-- it ends early: the charge is not covered, or the replacement has its fault
abbrev pub Halts : Replaced → Left → Left → Halt → Type 0
Halts whole l m halt.Spent = Lacked (charge_of whole) l m
Halts whole l m halt.NoCapture = (n : ℕ) × Took n l m × (whole ≡ Faulty n 7)
Halts whole l m halt.NoMemory = Unit {0}

-- A PIECE behind the text, with what stands between. Its length is one of 64 bits.
abbrev pub IsText : Result Bytes ℕ → Bytes → Bytes → Bytes → Type 0
IsText (Ok piece) between text made = (made ≡ text ++ (between ++ piece)) × (length piece < 2 ^ 64)
IsText (Err n) between text made = ⊥

abbrev pub IsFilled : Result Bytes ℕ → Bytes → Bytes → Left → Bytes → Left → Result (Unit {0}) Halt → Type 0
IsFilled (Ok piece) between text l made m (Ok u) = Took (length (between ++ piece)) l m × (made ≡ text ++ (between ++ piece))
IsFilled (Ok piece) between text l made m (Err halt.Spent) = Lacked (length (between ++ piece)) l m
IsFilled (Err n) between text l made m (Err halt.NoCapture) = (n ≡ 7) × (m ≡ l)
IsFilled filled between text l made m (Err halt.NoMemory) = Unit {0}
IsFilled filled between text l made m r = ⊥

-- A MATCH that is replaced: the piece behind the text, one match more, and where it goes on
abbrev pub IsReplaced : Result Bytes ℕ → Bytes → ℕ → Option Stand → Far → Left → Far → Left → Result (Unit {0}) Halt → Type 0
IsReplaced (Ok piece) between end next f l g m (Ok u) =
    Took (length (between ++ piece)) l m × (g.text.items ≡ f.text.items ++ (between ++ piece)) × (g.copied ≡ end) × (g.count ≡ suc f.count) × (option_map stand_seen g.next ≡ next)
IsReplaced (Ok piece) between end next f l g m (Err halt.Spent) = Lacked (length (between ++ piece)) l m
IsReplaced (Err n) between end next f l g m (Err halt.NoCapture) = (n ≡ 7) × (m ≡ l)
IsReplaced filled between end next f l g m (Err halt.NoMemory) = Unit {0}
IsReplaced filled between end next f l g m r = ⊥

-- STEPS of the loop: from a part of the whole to a part of it, or to its early end
abbrev pub GoesOn : Replaced → Left → Left → Far → Replaced → Result (Unit {0}) Halt → Type 0
GoesOn whole l m f rest (Ok u) = IsPart whole l m f rest
GoesOn whole l m f rest (Err e) = Halts whole l m e

abbrev pub halt_in : Stop → Halt
halt_in stop.Spent = halt.Spent
halt_in (stop.Raised v level) = halt.NoMemory
halt_in stop.NoMemory = halt.NoMemory

-- the matches are replaced, and the rest of the subject is to come
abbrev pub IsRest : Replaced → Bytes → Left → Left → Result Far Halt → Type 0
IsRest whole s l m (Ok f) = IsPart whole l m f (rest_of s f.copied)
IsRest whole s l m (Err e) = Halts whole l m e

-- THE REST of the subject behind the text
abbrev pub IsTail : Bytes → Bytes → Left → Bytes → Left → Result (Unit {0}) Halt → Type 0
IsTail tail text l made m (Ok u) = Took (length tail) l m × (made ≡ text ++ tail)
IsTail tail text l made m (Err halt.Spent) = Lacked (length tail) l m
IsTail tail text l made m (Err halt.NoMemory) = Unit {0}
IsTail tail text l made m (Err halt.NoCapture) = ⊥

-- the whole text, paid for
abbrev pub IsPaidText : Replaced → Left → Left → Result Far Halt → Type 0
IsPaidText whole l m (Ok f) = (n : ℕ) × Took n l m × (whole ≡ Made n f.text.items f.count)
IsPaidText whole l m (Err e) = Halts whole l m e

-- how the function ends then
abbrev pub HaltStops : StoreView → StoreView → Halt → Stop → Type 0
HaltStops s t halt.NoCapture e = FaultStops s t (fault.At 7) e
HaltStops s t halt.Spent e = (e ≡ stop.Spent) × (t ≡ s)
HaltStops s t halt.NoMemory e = e ≡ stop.NoMemory
