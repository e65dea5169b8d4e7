-- EXAMPLES of calls, with what they give or raise and what they cost. Results are those of Lua 5.1; charges are counted by hand.
use Rattle.std.specs.Prelude.{◌≡◌, ℕ, pos, negsuc, true, List, [], ◌∷◌, codes}
use Rattle.lua_basic.specs.LuaHeapProc.{Proc}
use Rattle.lua_basic.specs.LuaHeapValue.{Value, Nil, Truth, Number, Text, Table}
use Rattle.lua_basic.specs.LuaHeapHeap.{Heap, empty}
use Rattle.lua_basic.specs.LuaMeaningScope.{Bytes}
use Rattle.lua_basic.specs.LuaMeaningArguments.{Plain, costs, fails, with_charge}
use Rattle.lua_basic.specs.LuaMeaningStrings.{byte, char_of, len, lower, upper, rep, reverse, sub}
use Rattle.lua_basic.specs.LuaMeaningSearches.{find, match_from}
use Rattle.lua_basic.specs.LuaMeaningFormats.{format}
use Rattle.lua_basic.specs.LuaMeaningNumbers.{abs, ceil, floor, fmod, max, min, pow}

abbrev here : Heap Proc
here = empty

abbrev text : List ℕ → Value
text t = Text t

abbrev num : ℕ → Value
num n = Number (pos n)

-- a call gives these values for so many steps, or raises a message after them
abbrev Gives : Plain Proc → ℕ → List Value → Type 0
Gives p steps values = p ≡ costs steps here values

abbrev Raises : Plain Proc → ℕ → Bytes → Type 0
Raises p steps message = p ≡ with_charge steps (fails here message)

-- texts and their parts: a step for each byte that is given, or for each value of `byte`
abbrev pub Parts : Type 0
Parts =
    Gives (sub (text (codes "hello") ∷ num 2 ∷ Number (negsuc 1) ∷ []) here) 3 (text (codes "ell") ∷ [])
    × Gives (sub (text (codes "hello") ∷ Number (negsuc 99) ∷ num 2 ∷ []) here) 2 (text (codes "he") ∷ [])
    × Gives (sub (num 12345 ∷ text (codes "2") ∷ []) here) 4 (text (codes "2345") ∷ [])
    × Raises (sub (text (codes "hello") ∷ []) here) 0 (codes "bad argument #2 to 'sub' (number expected, got no value)")
    × Gives (byte (text (codes "hello") ∷ num 1 ∷ Number (negsuc 0) ∷ []) here) 5 (num 104 ∷ num 101 ∷ num 108 ∷ num 108 ∷ num 111 ∷ [])
    × Gives (byte (text (codes "hello") ∷ num 2 ∷ []) here) 1 (num 101 ∷ [])
    × Gives (byte (text (codes "hello") ∷ num 0 ∷ num 0 ∷ []) here) 0 []
    × Raises (byte (Nil ∷ []) here) 0 (codes "bad argument #1 to 'byte' (string expected, got nil)")

-- texts that are made
abbrev pub Made : Type 0
Made =
    Gives (char_of (num 72 ∷ num 105 ∷ num 0 ∷ []) here) 3 (text (72 ∷ 105 ∷ 0 ∷ []) ∷ [])
    × Gives (char_of [] here) 0 (text [] ∷ [])
    × Raises (char_of (num 72 ∷ num 256 ∷ Truth true ∷ []) here) 0 (codes "bad argument #2 to 'char' (out of range)")
    × Raises (char_of (num 72 ∷ Truth true ∷ num 256 ∷ []) here) 0 (codes "bad argument #2 to 'char' (number expected, got boolean)")
    × Gives (len (Number (negsuc 11) ∷ []) here) 0 (num 3 ∷ [])
    × Gives (lower (text (codes "aBZ[") ∷ []) here) 4 (text (codes "abz[") ∷ [])
    × Gives (upper (text (97 ∷ 195 ∷ 169 ∷ []) ∷ []) here) 3 (text (65 ∷ 195 ∷ 169 ∷ []) ∷ [])
    × Gives (reverse (text (codes "abc") ∷ []) here) 3 (text (codes "cba") ∷ [])
    × Gives (rep (text (codes "ab") ∷ num 3 ∷ []) here) 6 (text (codes "ababab") ∷ [])
    × Gives (rep (text (codes "ab") ∷ Number (negsuc 0) ∷ []) here) 0 (text [] ∷ [])
    × Raises (rep (Table 0 ∷ num 3 ∷ []) here) 0 (codes "bad argument #1 to 'rep' (string expected, got table)")

-- Searches. `l+` is tried at h and e, then l is compared twice and o once: 5 tries, and 2 bytes of the pattern. `(%w+)=(%w+)` has four
-- marks, and compares k, =, =, v: 8 tries, 11 bytes of the pattern, and 2 that are given. A plain search costs what it may look at.
abbrev pub Searched : Type 0
Searched =
    Gives (find (text (codes "hello") ∷ text (codes "l+") ∷ []) here) 7 (num 3 ∷ num 4 ∷ [])
    × Gives (find (text (codes "abc") ∷ text (codes "x") ∷ []) here) 4 (Nil ∷ [])
    × Gives (find (text (codes "abc") ∷ text (codes "()b") ∷ []) here) 7 (num 2 ∷ num 2 ∷ num 2 ∷ [])
    × Gives (find (text (codes "hello") ∷ text [] ∷ num 10 ∷ []) here) 0 (num 6 ∷ num 5 ∷ [])
    × Gives (find (text (codes "a.b") ∷ text (codes ".") ∷ num 2 ∷ Truth true ∷ []) here) 3 (num 2 ∷ num 2 ∷ [])
    × Gives (find (text (codes "a.b") ∷ text (codes "%.") ∷ Nil ∷ num 0 ∷ []) here) 5 (Nil ∷ [])
    × Gives (match_from (text (codes "k=v") ∷ text (codes "(%w+)=(%w+)") ∷ []) here) 21 (text (codes "k") ∷ text (codes "v") ∷ [])
    × Gives (match_from (text (codes "abc") ∷ text (codes "b.") ∷ []) here) 7 (text (codes "bc") ∷ [])
    × Gives (match_from (text (codes "abc") ∷ text (codes "b") ∷ num 3 ∷ []) here) 2 (Nil ∷ [])
    × Raises (match_from (text (codes "abc") ∷ text (codes "a%") ∷ []) here) 2 (codes "malformed pattern (1)")
    × Raises (find (text (codes "abc") ∷ []) here) 0 (codes "bad argument #2 to 'find' (string expected, got no value)")

-- Formats: the bytes of the arguments that are strings, also of those that no directive takes, and of the text
abbrev pub LaidOut : Type 0
LaidOut =
    Gives (format (text (codes "%5.1f|%03d") ∷ num 3 ∷ text (codes "42") ∷ []) here) 21 (text (codes "  3.0|042") ∷ [])
    × Gives (format (text (codes "%s") ∷ num 12 ∷ text (codes "more") ∷ []) here) 8 (text (codes "12") ∷ [])
    × Raises (format (text (codes "%d%s") ∷ num 1 ∷ []) here) 4 (codes "bad argument #3 to 'format' (string expected, got no value)")
    × Raises (format (text (codes "%d") ∷ text (codes "x") ∷ []) here) 3 (codes "bad argument #2 to 'format' (number expected, got string)")
    × Raises (format (text (codes "%c") ∷ num 256 ∷ []) here) 2 (codes "bad argument #2 to 'format' (out of range)")
    × Raises (format (text (codes "%y") ∷ []) here) 2 (codes "invalid option to 'format'")

-- numbers
abbrev pub Calculated : Type 0
Calculated =
    Gives (abs (Number (negsuc 4) ∷ []) here) 0 (num 5 ∷ [])
    × Raises (abs (Number (negsuc 9223372036854775807) ∷ []) here) 0 (codes "number out of range")
    × Gives (ceil (text (codes " 7 ") ∷ []) here) 0 (num 7 ∷ [])
    × Gives (floor (Number (negsuc 6) ∷ []) here) 0 (Number (negsuc 6) ∷ [])
    × Gives (fmod (Number (negsuc 6) ∷ num 3 ∷ []) here) 0 (Number (negsuc 0) ∷ [])
    × Gives (fmod (num 7 ∷ Number (negsuc 2) ∷ []) here) 0 (num 1 ∷ [])
    × Raises (fmod (num 7 ∷ num 0 ∷ []) here) 0 (codes "division by zero")
    × Gives (max (num 3 ∷ text (codes "12") ∷ num 5 ∷ []) here) 0 (num 12 ∷ [])
    × Gives (min (num 3 ∷ Number (negsuc 0) ∷ num 5 ∷ []) here) 0 (Number (negsuc 0) ∷ [])
    × Raises (max [] here) 0 (codes "bad argument #1 to 'max' (number expected, got no value)")
    × Raises (min (num 1 ∷ num 2 ∷ Nil ∷ []) here) 0 (codes "bad argument #3 to 'min' (number expected, got nil)")
    × Gives (pow (num 2 ∷ num 10 ∷ []) here) 0 (num 1024 ∷ [])
