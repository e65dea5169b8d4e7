-- LISTS AS TEXTS, AND SHORTENED TEXTS (Scribunto manual, mw.text.listToText, mw.text.truncate).
use Rattle.std.specs.Prelude.{ℕ, suc, ◌-◌, Bool, true, false, nat_le, if◌then◌else◌, ℤ, pos, negsuc, unsigned_abs, List, [], ◌∷◌, ◌++◌, length, take, drop}

-- what stands behind an item: nothing behind the last one, the conjunction before the last one, else the separator
abbrev pub glue : List ℕ → List ℕ → List (List ℕ) → List ℕ
glue sep conj [] = []
glue sep conj (b ∷ []) = conj
glue sep conj (b ∷ (c ∷ cs)) = sep

abbrev pub joined : List ℕ → List ℕ → List (List ℕ) → List ℕ
joined sep conj [] = []
joined sep conj (a ∷ more) = a ++ (glue sep conj more ++ joined sep conj more)

-- how many code points are kept, of the most that are allowed: without those of the ellipsis where they count
abbrev pub room : Bool → ℕ → List ℕ → ℕ
room false most ellipsis = most
room true most ellipsis = most - length ellipsis

-- the first ones with the ellipsis behind them, or below 0 the last ones with it before them
abbrev pub shortened : List ℕ → List ℕ → Bool → ℤ → List ℕ
shortened cs ellipsis adjust (pos n) = take (room adjust n ellipsis) cs ++ ellipsis
shortened cs ellipsis adjust (negsuc n) = ellipsis ++ drop (length cs - room adjust (suc n) ellipsis) cs

-- TRUNCATE, of code points
abbrev pub truncated : List ℕ → ℤ → List ℕ → Bool → List ℕ
truncated cs n ellipsis adjust = if nat_le (length cs) (unsigned_abs n) then cs else shortened cs ellipsis adjust n
