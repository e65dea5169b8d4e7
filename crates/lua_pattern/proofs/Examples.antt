-- The definitions on small inputs, with results of Lua 5.1 and tries counted by hand.
use Rattle.std.proofs.Common.{◌≡◌, true, false, [], ◌∷◌, refl}
use Rattle.lua_pattern.specs.declared.item.Item.TheVariants as item
use Rattle.lua_pattern.specs.declared.item.Single.TheVariants as single
use Rattle.lua_pattern.specs.declared.item.Class.TheVariants as class
use Rattle.lua_pattern.specs.declared.item.Part.TheVariants as part
use Rattle.lua_pattern.specs.declared.slots.Slot.TheVariants as slot
use Rattle.lua_pattern.specs.Texts.{bytes, points, point_code}
use Rattle.lua_pattern.specs.Way.{Hit, At, Nowhere, way, first}
use Rattle.lua_pattern.specs.Read.{Fault, Fine, read_of, read_unanchored}

-- a*a on aaa: three comparisons fit, then `a` has no place at the end, then it fits at the third place
star_then_one : way bytes (item.Star (single.Plain 97) ∷ item.One (single.Plain 97) ∷ []) (97 ∷ 97 ∷ 97 ∷ []) 0 [] ≡ Hit 3 [] 4
star_then_one = refl

-- a-b on aab: b fails, a fits, b fails, a fits, b fits
few_then_one : way bytes (item.Minus (single.Plain 97) ∷ item.One (single.Plain 98) ∷ []) (97 ∷ 97 ∷ 98 ∷ []) 0 [] ≡ Hit 3 [] 5
few_then_one = refl

-- %b() on (()) and then one byte
pairs : way bytes (item.Balance 40 41 ∷ []) (40 ∷ 40 ∷ 41 ∷ 41 ∷ 120 ∷ []) 0 [] ≡ Hit 4 [] 4
pairs = refl

-- (a)%1 on aa
twice : way bytes (item.Mark ∷ item.One (single.Plain 97) ∷ item.Mark ∷ item.Back 0 1 ∷ []) (97 ∷ 97 ∷ []) 0 [] ≡ Hit 2 (0 ∷ 1 ∷ []) 4
twice = refl

-- the second start matches; under the anchor the first alone is looked at
second : first bytes false (item.One (single.Plain 98) ∷ []) (97 ∷ 98 ∷ []) 0 ≡ At 1 2 [] 2
second = refl

anchored : first bytes true (item.One (single.Plain 98) ∷ []) (97 ∷ 98 ∷ []) 0 ≡ Nowhere 2
anchored = refl

-- é+ on aéé: the place is in bytes, the comparisons are of code points
two_points : first points false (item.Plus (single.Plain 233) ∷ []) (97 ∷ 195 ∷ 169 ∷ 195 ∷ 169 ∷ []) 0 ≡ At 1 5 [] 3
unfolding point_code
two_points = refl

-- (%a+)[^%d-]*$
read_example : read_of (40 ∷ 37 ∷ 97 ∷ 43 ∷ 41 ∷ 91 ∷ 94 ∷ 37 ∷ 100 ∷ 45 ∷ 93 ∷ 42 ∷ 36 ∷ [])
    ≡ Fine false (item.Mark ∷ item.Plus (single.Kind class.Letter false) ∷ item.Mark ∷ item.Star (single.Of (record { negated = true; parts = part.Kind class.Digit false ∷ part.Range 45 45 ∷ [] })) ∷ item.End ∷ [])
    (slot.Text 0 1 ∷ [])
read_example = refl

-- ^a with the anchor, and with a plain `^`
read_anchor : read_of (94 ∷ 97 ∷ []) ≡ Fine true (item.One (single.Plain 97) ∷ []) []
read_anchor = refl

read_plain : read_unanchored (94 ∷ 97 ∷ []) ≡ Fine false (item.One (single.Plain 94) ∷ item.One (single.Plain 97) ∷ []) []
read_plain = refl

-- each fault but that of 33 captures
fault_1 : read_of (97 ∷ 37 ∷ []) ≡ Fault 1
fault_1 = refl

fault_2 : read_of (91 ∷ 97 ∷ []) ≡ Fault 2
fault_2 = refl

fault_3 : read_of (37 ∷ 102 ∷ 97 ∷ []) ≡ Fault 3
fault_3 = refl

fault_4 : read_of (40 ∷ 97 ∷ []) ≡ Fault 4
fault_4 = refl

fault_5 : read_of (41 ∷ 40 ∷ []) ≡ Fault 5
fault_5 = refl

fault_7 : read_of (40 ∷ 37 ∷ 49 ∷ []) ≡ Fault 7
fault_7 = refl

fault_8 : read_of (37 ∷ 98 ∷ 120 ∷ []) ≡ Fault 8
fault_8 = refl
