-- CODE POINTS that are counted before their text is made: those whose numbers the arguments of `char` are, and those that an iterator gives.
use Rattle.std.specs.Prelude.{◌≡◌, ℕ, ℤ, List, [], ◌∷◌, ◌++◌, Option, Some, None, Result, Ok}
use Rattle.std.specs.Option.{unwrap_or}
use Rattle.mw_text.specs.MwUstringTexts.{text_of_codes}
use Rattle.mw_frame_texts.specs.LuaHeapValue.{Value}
use Rattle.mw_frame_texts.specs.LuaMeaningScope.{Bytes}
use Rattle.mw_frame_texts.specs.LuaMeaningValues.{number_in}

-- the UTF-8 of the code point with a number; nothing where there is none
abbrev pub number_bytes : Option ℤ → Bytes
number_bytes (Some z) = unwrap_or (text_of_codes (z ∷ [])) []
number_bytes None = []

abbrev pub point_bytes : Value → Bytes
point_bytes v = number_bytes (number_in v)

abbrev pub points_bytes : List Value → Bytes
points_bytes [] = []
points_bytes (v ∷ vs) = point_bytes v ++ points_bytes vs

-- each run of an iterator gives these code points, unless memory runs out
abbrev pub GivesPoints : {S E : Type 0} → (S → Option (Result ℕ E) → S → Type 0) → S → List ℕ → Type 0
GivesPoints {S} steps s [] = (x : ℕ) (t : S) → ¬ (steps s (Some (Ok x)) t)
GivesPoints {S} steps s (c ∷ cs) = ((t : S) → ¬ (steps s None t)) × ((x : ℕ) (t : S) → steps s (Some (Ok x)) t → (x ≡ c) × GivesPoints steps t cs)
