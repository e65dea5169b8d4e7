-- Lengths of texts, and parts of them.
use Rattle.std.proofs.Common.{◌≡◌, ◌∙◌, ap, sym, refl, arith, ℕ, zero, suc, ◌-◌, ◌≤◌, ◌<◌, ◌^◌, min, List, [], ◌∷◌, length, take, drop, length-drop}
use Rattle.std.proofs.lemmas.List.{length-map, length-reverse, drop_all, take_min}
use Rattle.std.specs.Char.{to_ascii_lowercase, to_ascii_uppercase}
use Rattle.lua_string.specs.Texts.{saturated}
use Rattle.lua_string.specs.Walk.{span}
use Rattle.lua_basic.specs.LuaMeaningScope.{Bytes}
use Rattle.lua_strings.specs.declared.making.Change.{Change}
use Rattle.lua_strings.specs.declared.making.Change.TheVariants as change
use Rattle.lua_strings.specs.Found.{change_of}

pub change-length : (which : Change) (s : Bytes) → length (change_of which s) ≡ length s
change-length change.Lower s = length-map s to_ascii_lowercase
change-length change.Upper s = length-map s to_ascii_uppercase
change-length change.Reverse s = length-reverse s

pub saturated-le : (n k : ℕ) → k ≡ saturated n → k ≤ n
saturated-le n k e = omega (arith, e)

pub saturated-is : (n k : ℕ) → k ≡ saturated n → n < 2 ^ 64 → k ≡ n
saturated-is n k e lt = omega (arith, e, lt)

-- SPANS
none : (n : ℕ) (s : List ℕ) → s ≡ [] → [] ≡ take n s
none zero s e = refl
none (suc n) [] e = refl
none (suc n) (c ∷ cs) e = absurd cc

pub span-past : (s : List ℕ) (from to : ℕ) → length s ≤ from → [] ≡ span s from to
span-past s from to le = none (to - from) (drop from s) (drop_all from s le)

pub span-empty : (s : List ℕ) (from to : ℕ) → min to (length s) ≤ from → from < length s → [] ≡ span s from to
span-empty s from to le lt = let e : to - from ≡ 0 = omega (arith, le, lt) in sym (ap (λ n. take n (drop from s)) e)

-- as much as there is
pub span-cut : (s : List ℕ) (from to : ℕ) → from < length s → take (min to (length s) - from) (drop from s) ≡ span s from to
span-cut s from to lt =
    let d : length (drop from s) ≡ length s - from = length-drop from s in
    let e : min to (length s) - from ≡ min (to - from) (length (drop from s)) = omega (arith, d, lt) in
    ap (λ n. take n (drop from s)) e ∙ take_min (to - from) (drop from s)
