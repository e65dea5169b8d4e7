-- FUNCTIONS OF `string` that look for nothing and lay out nothing (manual 5.4). A text that is made costs its bytes, and `byte` a step
-- for each value.
use Rattle.std.specs.Prelude.{ℕ, pos, negsuc, List, [], ◌∷◌, length, map, reverse as reversed, codes}
use Rattle.std.specs.Char.{to_ascii_lowercase, to_ascii_uppercase}
use Rattle.mw_text.specs.LuaStringPlaces.{sub_of}
use Rattle.mw_text.specs.LuaStringTexts.{rep_of}
use Rattle.lua_walk.specs.LuaHeapValue.{Value, Number}
use Rattle.lua_walk.specs.LuaHeapHeap.{Heap}
use Rattle.lua_meaning.specs.Scope.{Bytes}
use Rattle.lua_meaning.specs.Values.{rest}
use Rattle.lua_meaning.specs.Arguments.{Plain, gives, costs, gives_text, with_argument, a_text, a_number, number_or}
use Rattle.lua_meaning.specs.Checks.{codes_from}

-- `string.byte(s, i, j)`: i is 1 where it is absent, and j is i
abbrev pub code_values : Bytes → List Value
code_values = map (λ (code : ℕ). Number (pos code))

abbrev pub give_codes : {X : Type 0} → Heap X → Bytes → Plain X
give_codes h text = costs (length text) h (code_values text)

abbrev pub byte : {X : Type 0} → List Value → Heap X → Plain X
byte args h =
    with_argument h (a_text 1 (codes "byte") args) (λ s.
    with_argument h (number_or (pos 1) 2 (codes "byte") (rest args)) (λ i.
    with_argument h (number_or i 3 (codes "byte") (rest (rest args))) (λ j. give_codes h (sub_of s i j))))

-- `string.char(..)`
abbrev pub char_of : {X : Type 0} → List Value → Heap X → Plain X
char_of args h = with_argument h (codes_from 1 (codes "char") args) (λ made. gives_text h made)

-- `string.len(s)`
abbrev pub len : {X : Type 0} → List Value → Heap X → Plain X
len args h = with_argument h (a_text 1 (codes "len") args) (λ s. gives h (Number (pos (length s)) ∷ []))

-- a text that is made of the first argument
abbrev pub of_text : {X : Type 0} → Bytes → (Bytes → Bytes) → List Value → Heap X → Plain X
of_text function change args h = with_argument h (a_text 1 function args) (λ s. gives_text h (change s))

-- `string.lower(s)`, `string.upper(s)`: the letters of ASCII; `string.reverse(s)`
abbrev pub lower : {X : Type 0} → List Value → Heap X → Plain X
lower args h = of_text (codes "lower") (map to_ascii_lowercase) args h

abbrev pub upper : {X : Type 0} → List Value → Heap X → Plain X
upper args h = of_text (codes "upper") (map to_ascii_uppercase) args h

abbrev pub reverse : {X : Type 0} → List Value → Heap X → Plain X
reverse args h = of_text (codes "reverse") reversed args h

-- `string.rep(s, n)`
abbrev pub rep : {X : Type 0} → List Value → Heap X → Plain X
rep args h =
    with_argument h (a_text 1 (codes "rep") args) (λ s.
    with_argument h (a_number 2 (codes "rep") (rest args)) (λ n. gives_text h (rep_of s n)))

-- `string.sub(s, i, j)`: j is -1 where it is absent
abbrev pub sub : {X : Type 0} → List Value → Heap X → Plain X
sub args h =
    with_argument h (a_text 1 (codes "sub") args) (λ s.
    with_argument h (a_number 2 (codes "sub") (rest args)) (λ i.
    with_argument h (number_or (negsuc 0) 3 (codes "sub") (rest (rest args))) (λ j. gives_text h (sub_of s i j))))
