-- How many bytes the texts have that `find` and `match` give (Lua 5.1 manual, 5.4).
use Rattle.std.specs.Prelude.{ℕ, ◌+◌, ◌-◌, List, [], ◌∷◌}
use Rattle.lua_pattern.specs.declared.pattern.Capture.{Capture}
use Rattle.lua_pattern.specs.declared.pattern.Capture.TheVariants.{Span, Place}
use Rattle.lua_pattern.specs.declared.pattern.Match.{Match}

-- A place is a number and has no bytes.
abbrev pub capture_bytes : Capture → ℕ
capture_bytes (Span from to) = to - from
capture_bytes (Place at) = 0

abbrev pub captures_bytes : List Capture → ℕ
captures_bytes [] = 0
captures_bytes (c ∷ cs) = capture_bytes c + captures_bytes cs

-- `find` gives the captures beside two numbers.
abbrev pub find_bytes : Match → ℕ
find_bytes m = captures_bytes m.captures

abbrev pub whole_or_captures : ℕ → List Capture → ℕ
whole_or_captures whole [] = whole
whole_or_captures whole (c ∷ cs) = captures_bytes (c ∷ cs)

-- `match` gives the captures, or without any the whole match.
abbrev pub match_bytes : Match → ℕ
match_bytes m = whole_or_captures (m.end - m.start) m.captures
