-- EXAMPLES: an iterator is made and stepped, with what each call gives or raises and costs. Results of `string.gmatch` are those of Lua
-- 5.1; charges are counted by hand.
use Rattle.std.specs.Prelude.{◌≡◌, ℕ, zero, suc, pos, true, List, [], ◌∷◌, codes}
use Rattle.lua_strings.specs.LuaHeapProc.{Proc}
use Rattle.lua_strings.specs.LuaHeapValue.{Value, Nil, Truth, Number, Text, Closure}
use Rattle.lua_strings.specs.LuaHeapHeap.{Heap, empty}
use Rattle.lua_strings.specs.LuaMeaningScope.{Bytes}
use Rattle.lua_strings.specs.LuaMeaningArguments.{Plain, PlainEnd, Gives, Fails}
use Rattle.lua_iterators.specs.declared.table.Maker.{Maker}
use Rattle.lua_iterators.specs.declared.table.Maker.TheVariants as maker
use Rattle.lua_iterators.specs.declared.table.Stepper.{Stepper}
use Rattle.lua_iterators.specs.declared.table.Stepper.TheVariants as stepper
use Rattle.lua_iterators.specs.declared.table.IteratorFunction.TheVariants.{Makes, Steps}
use Rattle.lua_iterators.specs.Table.{answer_of}

abbrev here : Heap Proc
here = empty

abbrev text : Bytes → Value
text t = Text t

abbrev num : ℕ → Value
num n = Number (pos n)

-- what a call costs, and its end
abbrev Told : Type 0
Told = ℕ × PlainEnd

abbrev told : Plain Proc → Told
told p = (p.charge, p.end)

abbrev costs : ℕ → List Value → Told
costs n vs = (n, Gives vs)

abbrev raises : ℕ → Bytes → Told
raises n message = (n, Fails (Text message) (pos 1))

-- so many steps of the first closure, each with these arguments behind it
abbrev steps : Stepper → List Value → ℕ → Heap Proc → List Told
steps which more zero h = []
steps which more (suc n) h = let p = answer_of (Steps which) (Closure 0 ∷ more) h in told p ∷ steps which more n p.heap

abbrev made : Maker → Stepper → List Value → ℕ → List Told
made m which args n = let p = answer_of (Makes m) args here in told p ∷ steps which [] n p.heap

-- the call of a maker alone
abbrev call : Maker → List Value → Told
call m args = told (answer_of (Makes m) args here)

-- `b*` in `abbc`: an empty match, `bb`, and two empty ones. Each reading costs 2, each comparison 1 (a; b, b, c; c; none behind the last).
abbrev pub Empties : Type 0
Empties =
    made maker.Gmatch stepper.Gmatch (text (codes "abbc") ∷ text (codes "b*") ∷ []) 6 ≡
    costs 8 (Closure 0 ∷ []) ∷ costs 3 (text [] ∷ []) ∷ costs 7 (text (codes "bb") ∷ []) ∷ costs 3 (text [] ∷ []) ∷ costs 2 (text [] ∷ []) ∷ costs 2 (Nil ∷ []) ∷ costs 2 (Nil ∷ []) ∷ []

-- Captures, and places from 1. The pattern has 7 bytes; the first match takes 5 tries and gives a byte. Then v, the comma and the space
-- are tried in 4, 2 and 2, and `a=` in 5; and at last b in 3, and the end in 1.
abbrev pub Captured : Type 0
Captured =
    made maker.Gmatch stepper.Gmatch (text (codes "k=v, a=b") ∷ text (codes "(%w)=()") ∷ []) 4 ≡
    costs 8 (Closure 0 ∷ []) ∷ costs 13 (text (codes "k") ∷ num 3 ∷ []) ∷ costs 21 (text (codes "a") ∷ num 8 ∷ []) ∷ costs 11 (Nil ∷ []) ∷ costs 7 (Nil ∷ []) ∷ []

-- `^` is plain; a number is its digits; a pattern with a fault is one at each step, and the maker does not read it
abbrev pub Patterns : Type 0
Patterns =
    (made maker.Gmatch stepper.Gmatch (text (codes "a^a") ∷ text (codes "^a") ∷ []) 2 ≡ costs 8 (Closure 0 ∷ []) ∷ costs 7 (text (codes "^a") ∷ []) ∷ costs 2 (Nil ∷ []) ∷ [])
    × (made maker.Gmatch stepper.Gmatch (num 12 ∷ text (codes "%d") ∷ []) 3 ≡ costs 8 (Closure 0 ∷ []) ∷ costs 4 (text (codes "1") ∷ []) ∷ costs 4 (text (codes "2") ∷ []) ∷ costs 2 (Nil ∷ []) ∷ [])
    × (made maker.Gmatch stepper.Gmatch (text (codes "a") ∷ text (codes "%") ∷ []) 2 ≡ costs 8 (Closure 0 ∷ []) ∷ raises 1 (codes "malformed pattern (1)") ∷ raises 1 (codes "malformed pattern (1)") ∷ [])

-- In `mw.ustring` places count code points, and texts of the arguments cost their bytes, those of a step too. ä is 195 164.
abbrev pub Points : Type 0
Points =
    (made maker.UstringGmatch stepper.UstringGmatch (text (195 ∷ 164 ∷ 98 ∷ 195 ∷ 164 ∷ []) ∷ text (40 ∷ 41 ∷ 195 ∷ 164 ∷ []) ∷ []) 3 ≡ costs 17 (Closure 0 ∷ []) ∷ costs 6 (num 1 ∷ []) ∷ costs 8 (num 3 ∷ []) ∷ costs 5 (Nil ∷ []) ∷ [])
    × (steps stepper.UstringGmatch (Nil ∷ text (codes "xyz") ∷ []) 1 (answer_of (Makes maker.UstringGmatch) (text (codes "a") ∷ text (codes ".") ∷ []) here).heap ≡ costs 6 (text (codes "a") ∷ []) ∷ [])

-- the code points from place 2 on, and again nil behind the last one
abbrev pub CodePoints : Type 0
CodePoints =
    (made maker.Gcodepoint stepper.Gcodepoint (text (97 ∷ 195 ∷ 164 ∷ 226 ∷ 130 ∷ 172 ∷ []) ∷ num 2 ∷ []) 4 ≡ costs 14 (Closure 0 ∷ []) ∷ costs 0 (num 228 ∷ []) ∷ costs 0 (num 8364 ∷ []) ∷ costs 0 (Nil ∷ []) ∷ costs 0 (Nil ∷ []) ∷ [])
    × (made maker.Gcodepoint stepper.Gcodepoint (text (codes "abc") ∷ num 2 ∷ num 2 ∷ []) 2 ≡ costs 11 (Closure 0 ∷ []) ∷ costs 0 (num 98 ∷ []) ∷ costs 0 (Nil ∷ []) ∷ [])

-- parts: of a pattern, of a plain text, and of an empty pattern, whose matches end a part behind a code point
abbrev pub Parts : Type 0
Parts =
    (made maker.Gsplit stepper.Gsplit (text (codes "a,b") ∷ text (codes ",") ∷ []) 3 ≡ costs 12 (Closure 0 ∷ []) ∷ costs 4 (text (codes "a") ∷ []) ∷ costs 3 (text (codes "b") ∷ []) ∷ costs 1 (Nil ∷ []) ∷ [])
    × (made maker.Gsplit stepper.Gsplit (text (codes "a.b") ∷ text (codes ".") ∷ Truth true ∷ []) 3 ≡ costs 12 (Closure 0 ∷ []) ∷ costs 1 (text (codes "a") ∷ []) ∷ costs 1 (text (codes "b") ∷ []) ∷ costs 0 (Nil ∷ []) ∷ [])
    × (made maker.Gsplit stepper.Gsplit (text (codes "ab") ∷ text [] ∷ []) 3 ≡ costs 10 (Closure 0 ∷ []) ∷ costs 1 (text (codes "a") ∷ []) ∷ costs 1 (text (codes "b") ∷ []) ∷ costs 0 (Nil ∷ []) ∷ [])
    × (made maker.Gsplit stepper.Gsplit (text [] ∷ text (codes "x") ∷ []) 2 ≡ costs 9 (Closure 0 ∷ []) ∷ costs 1 (text [] ∷ []) ∷ costs 1 (Nil ∷ []) ∷ [])

-- arguments that are none
abbrev pub Refused : Type 0
Refused =
    (call maker.Gmatch [] ≡ raises 0 (codes "bad argument #1 to 'gmatch' (string expected, got no value)"))
    × (call maker.Gmatch (text (codes "a") ∷ Nil ∷ []) ≡ raises 0 (codes "bad argument #2 to 'gmatch' (string expected, got nil)"))
    × (call maker.UstringGmatch (text (255 ∷ []) ∷ text (codes "ab") ∷ []) ≡ raises 3 (codes "bad argument #1 to 'gmatch' (not UTF-8)"))
    × (call maker.Gcodepoint (text (codes "a") ∷ Truth true ∷ []) ≡ raises 1 (codes "bad argument #2 to 'gcodepoint' (number expected, got boolean)"))
    × (call maker.Gsplit (text (codes "a") ∷ text (255 ∷ []) ∷ []) ≡ raises 2 (codes "bad argument #2 to 'gsplit' (not UTF-8)"))
