-- Decimal digits, and their number.
use Rattle.std.proofs.Common.{◌≡◌, ◌∙◌, ap, sym, refl, arith, rules, ℕ, ◌+◌, ◌*◌, ◌-◌, ◌<◌, ◌≤◌, ◌^◌, true, false, pos, List, [], ◌∷◌, length}
use Rattle.std.specs.Char.{is_ascii_digit, digit_value}
use Rattle.std.specs.List.{list_all}
use Rattle.std.specs.Str.Parse.{digits_value, digits_value_after}
use Rattle.std.proofs.lemmas.Str.Parse.{IsNumeralModel, numerals_by_value, digits_value_short}
use Rattle.std.specs.Prelude.{nat_le}
use Rattle.std.proofs.lemmas.Bool.{leb-true, and_parts}
use Rattle.lua_basic.specs.LuaHeapProc.{Proc}
use Rattle.lua_basic.specs.LuaHeapValue.{Value, Nil, Number, Text}
use Rattle.lua_basic.specs.LuaHeapTable.{get}
use Rattle.lua_basic.specs.LuaHeapHeap.{Heap, table_at}
use Rattle.lua_basic.specs.LuaMeaningArguments.{gives}
use Rattle.lua_home.specs.LuaMeaningFrames.{is_place, by_key}

pub digit : (c : ℕ) → is_ascii_digit c ≡ true → digit_value c ≡ c - 48
digit c h = grind (arith, rules, h)

pub grows : (n : ℕ) (ds : List ℕ) → n ≤ digits_value_after 10 n ds
grows n [] = omega arith
grows n (c ∷ cs) = let h = grows (n * 10 + digit_value c) cs in omega (arith, h)

-- A NAME of a place has digits alone, and at most 18 of them
pub place-digits : (name : List ℕ) → is_place name ≡ true → list_all is_ascii_digit name ≡ true
place-digits name h = (and_parts _ _ (and_parts _ _ h).0).1

own : IsNumeralModel (λ ds. list_all is_ascii_digit ds ≡ true) (digits_value 10)
own = numerals_by_value _ (search rules)

pub place-within : (name : List ℕ) → is_place name ≡ true → digits_value 10 name < 2 ^ 63
place-within name h =
    let short : length name ≤ 18 = leb-true (length name) 18 (and_parts _ _ (and_parts _ _ (and_parts _ _ h).0).0).1 in
    let below : digits_value 10 name < 10 ^ 18 = digits_value_short own name 18 (place-digits name h) short in
    omega (arith, below)

-- an entry by a name of a place, and by no such name
pub by-place : (h : Heap Proc) (t : ℕ) (name : List ℕ) (v : Value) → is_place name ≡ true → v ≡ get (table_at h t).entries (Number (pos (digits_value 10 name))) → by_key h t (Text name) ≡ gives h (v ∷ [])
by-place h t name v p e = rw p (ap (λ x. gives h (x ∷ [])) (sym e))

pub by-no-place : (h : Heap Proc) (t : ℕ) (name : List ℕ) → is_place name ≡ false → by_key h t (Text name) ≡ gives h (Nil ∷ [])
by-no-place h t name p = rw p refl
