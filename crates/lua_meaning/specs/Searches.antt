-- `string.find` and `string.match` (manual 5.4). A pattern costs its bytes, each try a step, and each text that is given its bytes; a plain
-- search costs the bytes of the subject from its start, and those of the needle.
use Rattle.std.specs.Prelude.{ℕ, suc, ◌+◌, ◌-◌, ℤ, pos, Bool, true, false, List, [], ◌∷◌, length, map, drop, Option, Some, None, codes}
use Rattle.mw_text.specs.LuaPatternDeclaredPatternCapture.{Capture}
use Rattle.mw_text.specs.LuaPatternDeclaredPatternCaptureTheVariants.{Span, Place}
use Rattle.mw_text.specs.LuaPatternDeclaredPatternMatch.{Match}
use Rattle.mw_text.specs.LuaPatternDeclaredSlotsSlot.{Slot}
use Rattle.mw_text.specs.LuaPatternTexts.{bytes}
use Rattle.mw_text.specs.LuaPatternWay.{Answer, At, Nowhere, first as first_match}
use Rattle.mw_text.specs.LuaPatternRead.{Read, Fault, Fine, read_of, codes as symbol_codes}
use Rattle.mw_text.specs.LuaPatternSizes.{find_bytes, match_bytes}
use Rattle.mw_text.specs.LuaStringPlaces.{first_place}
use Rattle.mw_text.specs.LuaStringFinds.{place_of, match_of}
use Rattle.mw_text.specs.LuaStringWalk.{span}
use Rattle.lua_walk.specs.LuaHeapValue.{Value, Nil, Number, Text, is_true}
use Rattle.lua_walk.specs.LuaHeapHeap.{Heap}
use Rattle.lua_meaning.specs.Scope.{Bytes}
use Rattle.lua_meaning.specs.Values.{rest}
use Rattle.lua_meaning.specs.Arguments.{Plain, costs, fails, with_argument, with_charge, a_text, number_or}
use Rattle.lua_meaning.specs.Checks.{fourth, malformed}

-- WHAT IS GIVEN OF A MATCH. A place counts from 1.
abbrev pub place_value : ℕ → Value
place_value at = Number (pos (suc at))

abbrev pub capture_value : Bytes → Capture → Value
capture_value s (Span from to) = Text (span s from to)
capture_value s (Place at) = place_value at

abbrev pub captures_given : Bytes → List Capture → List Value
captures_given s captures = map (capture_value s) captures

-- `find` gives the first place and the last one, and the captures
abbrev pub find_values : Bytes → Match → List Value
find_values s m = place_value m.start ∷ Number (pos m.end) ∷ captures_given s m.captures

-- `match` gives the captures, or the whole match where there are none
abbrev pub whole_or : Bytes → Bytes → List Capture → List Value
whole_or s whole [] = Text whole ∷ []
whole_or s whole (c ∷ cs) = captures_given s (c ∷ cs)

abbrev pub match_values : Bytes → Match → List Value
match_values s m = whole_or s (span s m.start m.end) m.captures

-- A SEARCH: nil, or what is given of the first match
abbrev pub answered : {X : Type 0} → (Match → ℕ) → (Match → List Value) → List Slot → Answer → Heap X → Plain X
answered size values slots (Nowhere tries) h = costs tries h (Nil ∷ [])
answered size values slots (At start end marks tries) h =
    let m = match_of slots start end marks in costs (tries + size m) h (values m)

abbrev pub by_pattern : {X : Type 0} → (Match → ℕ) → (Match → List Value) → Bytes → ℕ → Read → Heap X → Plain X
by_pattern size values s from (Fault n) h = fails h (malformed n)
by_pattern size values s from (Fine anchored items slots) h = answered size values slots (first_match bytes anchored items s from) h

abbrev pub searched : {X : Type 0} → (Match → ℕ) → (Match → List Value) → Bytes → Bytes → ℤ → Heap X → Plain X
searched size values s pattern init h =
    with_charge (length pattern) (by_pattern size values s (first_place (length s) init) (read_of (symbol_codes bytes pattern)) h)

-- a plain search from a place on
abbrev pub plain_values : ℕ → ℕ → Option ℕ → List Value
plain_values from len None = Nil ∷ []
plain_values from len (Some k) = place_value (from + k) ∷ Number (pos (from + k + len)) ∷ []

abbrev pub plain_searched : {X : Type 0} → Bytes → Bytes → ℕ → Heap X → Plain X
plain_searched s needle from h =
    costs ((length s - from) + length needle) h (plain_values from (length needle) (place_of needle (drop from s)))

-- `string.find(s, pattern, init, plain)`
abbrev pub find_in : {X : Type 0} → Bool → Bytes → Bytes → ℤ → Heap X → Plain X
find_in true s needle init h = plain_searched s needle (first_place (length s) init) h
find_in false s pattern init h = searched find_bytes (find_values s) s pattern init h

abbrev pub find : {X : Type 0} → List Value → Heap X → Plain X
find args h =
    with_argument h (a_text 1 (codes "find") args) (λ s.
    with_argument h (a_text 2 (codes "find") (rest args)) (λ pattern.
    with_argument h (number_or (pos 1) 3 (codes "find") (rest (rest args))) (λ init.
    find_in (is_true (fourth args)) s pattern init h)))

-- `string.match(s, pattern, init)`
abbrev pub match_from : {X : Type 0} → List Value → Heap X → Plain X
match_from args h =
    with_argument h (a_text 1 (codes "match") args) (λ s.
    with_argument h (a_text 2 (codes "match") (rest args)) (λ pattern.
    with_argument h (number_or (pos 1) 3 (codes "match") (rest (rest args))) (λ init.
    searched match_bytes (match_values s) s pattern init h)))
