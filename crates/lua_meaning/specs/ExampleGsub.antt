-- EXAMPLES: calls of `gsub` with a text, with what they cost, and what they give or raise. Results are those of Lua 5.1; charges are
-- counted by hand: the bytes of the pattern, the tries, and the bytes that are given.
use Rattle.std.specs.Prelude.{◌≡◌, ℕ, ◌+◌, pos, negsuc, true, List, [], ◌∷◌, Option, Some, None, codes}
use Rattle.lua_walk.specs.LuaHeapProc.{Proc}
use Rattle.lua_walk.specs.LuaHeapValue.{Value, Nil, Truth, Number, Text, Table}
use Rattle.lua_walk.specs.LuaHeapHeap.{Heap, empty}
use Rattle.lua_meaning.specs.Scope.{Bytes}
use Rattle.lua_meaning.specs.Arguments.{PlainEnd, Gives, Fails}
use Rattle.lua_meaning.specs.Gsub.{Alphabet, OfBytes, OfPoints, GsubForm, GsubAnswers, GsubAsks, gsub_form}

abbrev here : Heap Proc
here = empty

abbrev text : Bytes → Value
text t = Text t

-- what a call costs, and its end where it asks nobody
abbrev Told : Type 0
Told = ℕ × Option PlainEnd

abbrev told : GsubForm Proc → Told
told (GsubAnswers p) = (p.charge, Some p.end)
told (GsubAsks charge job limit) = (charge, None)

abbrev call : Alphabet → List Value → Told
call a args = told (gsub_form a args here)

abbrev replaces : Bytes → Bytes → Bytes → Told
replaces s pattern r = call OfBytes (text s ∷ text pattern ∷ text r ∷ [])

abbrev costs : ℕ → Bytes → ℕ → Told
costs n made count = (n, Some (Gives (text made ∷ Number (pos count) ∷ [])))

abbrev raises : ℕ → Bytes → Told
raises n message = (n, Some (Fails (Text message) (pos 1)))

-- matches one after another, also empty ones: before each letter, and behind the last
abbrev pub Matches : Type 0
Matches =
    (replaces (codes "hello") [] (codes "-") ≡ costs 11 (codes "-h-e-l-l-o-") 6)
    × (replaces (codes "abc") (codes "b*") (codes "x") ≡ costs (2 + 4 + 6) (codes "xaxxcx") 4)
    × (replaces (codes "hello") (codes "l*") (codes "x") ≡ costs (2 + 6 + 8) (codes "xhxexxox") 5)
    × (replaces (codes "aaa") (codes "^a") (codes "x") ≡ costs (2 + 2 + 3) (codes "xaa") 1)
    × (replaces (codes "abc") (codes "$") (codes "x") ≡ costs (1 + 4 + 4) (codes "abcx") 1)

-- captures, places, and what stands behind `%`
abbrev pub Captures : Type 0
Captures =
    (replaces (codes "x=1, y=2") (codes "(%w)=(%w)") (codes "%2=%1") ≡ costs (9 + 19 + 8) (codes "1=x, 2=y") 2)
    × (replaces (codes "abc") (codes "%w") (codes "%1%0%%") ≡ costs (2 + 3 + 9) (codes "aa%bb%cc%") 3)
    × (replaces (codes "abc") (codes "()") (codes "%1") ≡ costs (2 + 4 + 7) (codes "1a2b3c4") 4)
    × (replaces (codes "ab") (codes "b") (codes "%x%") ≡ costs (1 + 2 + 3) (codes "ax%") 1)

-- a limit: none below 1
abbrev pub Limits : Type 0
Limits =
    (call OfBytes (text (codes "aaa") ∷ text (codes "a") ∷ text (codes "x") ∷ Number (pos 2) ∷ []) ≡ costs (1 + 2 + 3) (codes "xxa") 2)
    × (call OfBytes (text (codes "aaa") ∷ text (codes "a") ∷ text (codes "x") ∷ Number (negsuc 0) ∷ []) ≡ costs (1 + 3) (codes "aaa") 0)
    × (call OfBytes (Number (pos 1203) ∷ Number (pos 0) ∷ Number (pos 7) ∷ Nil ∷ []) ≡ costs (1 + 4 + 4) (codes "1273") 1)

-- a capture that is not there is a fault at the first match, and none without a match
abbrev pub Faults : Type 0
Faults =
    (replaces (codes "abc") (codes "x") (codes "%2") ≡ costs (1 + 3 + 3) (codes "abc") 0)
    × (replaces (codes "abc") (codes "b") (codes "y%2") ≡ raises (1 + 2) (codes "malformed pattern (7)"))
    × (replaces (codes "abc") (codes "%") (codes "y") ≡ raises 1 (codes "malformed pattern (1)"))

-- over code points, behind the bytes of the arguments
abbrev pub Points : Type 0
Points =
    (call OfPoints (text (195 ∷ 164 ∷ 98 ∷ []) ∷ text (codes ".") ∷ text (codes "%0,") ∷ []) ≡ costs (3 + 1 + 3 + 1 + 2 + 5) (195 ∷ 164 ∷ 44 ∷ 98 ∷ 44 ∷ []) 2)
    × (call OfPoints (text (195 ∷ 164 ∷ 98 ∷ []) ∷ text (codes "()") ∷ text (codes "%1") ∷ []) ≡ costs (3 + 2 + 2 + 2 + 3 + 6) (49 ∷ 195 ∷ 164 ∷ 50 ∷ 98 ∷ 51 ∷ []) 3)
    × (call OfPoints (text (codes "a") ∷ text (codes "a") ∷ text (255 ∷ []) ∷ []) ≡ raises 3 (codes "bad argument #3 to 'gsub' (not UTF-8)"))

-- arguments that are none; a table asks
abbrev pub Refused : Type 0
Refused =
    (call OfBytes [] ≡ raises 0 (codes "bad argument #1 to 'gsub' (string expected, got no value)"))
    × (call OfBytes (text (codes "a") ∷ text (codes "a") ∷ []) ≡ raises 0 (codes "bad argument #3 to 'gsub' (string expected, got no value)"))
    × (call OfBytes (text (codes "a") ∷ text (codes "a") ∷ Truth true ∷ []) ≡ raises 0 (codes "bad argument #3 to 'gsub' (string expected, got boolean)"))
    × (call OfBytes (text (codes "a") ∷ text (codes "a") ∷ text (codes "b") ∷ text (codes "c") ∷ []) ≡ raises 0 (codes "bad argument #4 to 'gsub' (number expected, got string)"))
    × (call OfBytes (text (codes "a") ∷ text (codes "a") ∷ Table 0 ∷ []) ≡ (1, None))

-- ALL OF THEM
abbrev pub AllReplacements : Type 0
AllReplacements =
    Matches
    × Captures
    × Limits
    × Faults
    × Points
    × Refused
