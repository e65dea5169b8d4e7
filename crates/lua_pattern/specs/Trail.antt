-- What the choices of a search mean.
use Rattle.std.specs.Prelude.{ℕ, zero, suc, ◌+◌, ◌-◌, ◌≤◌, cond, List, [], ◌∷◌, take, drop}
use Rattle.lua_pattern.specs.declared.item.Item.{Item}
use Rattle.lua_pattern.specs.declared.item.Item.TheVariants.{Minus}
use Rattle.lua_pattern.specs.declared.item.Single.{Single}
use Rattle.lua_pattern.specs.declared.trail.Choice.{Choice}
use Rattle.lua_pattern.specs.declared.trail.Choice.TheVariants.{Down, Up}
use Rattle.lua_pattern.specs.Letters.{Letters, Symbol}
use Rattle.lua_pattern.specs.Single.{fits}
use Rattle.lua_pattern.specs.Way.{Outcome, Miss, Rest, costs, or_else, least_first, way}

pub record TrailState : Type 0 where
  pub choices : List Choice
  pub marks : List ℕ

-- the marks that had been passed when the choice was made
abbrev pub marks_of : Choice → ℕ
marks_of (Down item low high count) = count
marks_of (Up first behind at count) = count

-- Each choice was made when no more marks had been passed than at the one above it.
abbrev pub Ordered : List Choice → ℕ → Type 0
Ordered [] n = Unit {0}
Ordered (c ∷ cs) n = (marks_of c ≤ n) × Ordered cs (marks_of c)

-- the rest at each place where a symbol begins, from n bytes behind a place down to that place
abbrev pub downwards : Letters → List ℕ → ℕ → Rest → ℕ → List ℕ → Outcome
downwards a subject zero rest at marks = rest at marks
downwards a subject (suc n) rest at marks =
    cond (a.starts (drop (at + suc n) subject)) (or_else (rest (at + suc n) marks) (downwards a subject n rest at marks)) (downwards a subject n rest at marks)

-- one symbol more, where it fits, and then the rest here, or behind one more
abbrev pub one_more : Letters → Single → List Symbol → Rest → ℕ → List ℕ → Outcome
one_more a x [] rest at marks = Miss 0
one_more a x (c ∷ cs) rest at marks = costs 1 (cond (fits a x c.code) (least_first a x cs rest (at + c.size) marks) (Miss 0))

-- one symbol more of the first item
abbrev pub again : Letters → List Item → List ℕ → ℕ → List ℕ → Outcome
again a [] subject at marks = Miss 0
again a (Minus x ∷ items) subject at marks = one_more a x (a.symbols (drop at subject)) (way a items subject) at marks
again a (_ ∷ items) subject at marks = Miss 0

-- the same of an item that stands n behind a first one, or of the one before it, and so on down to the first
abbrev pub backwards : Letters → List Item → List ℕ → ℕ → ℕ → ℕ → List ℕ → Outcome
backwards a items subject first zero at marks = again a (drop first items) subject at marks
backwards a items subject first (suc n) at marks =
    or_else (again a (drop (first + suc n) items) subject at marks) (backwards a items subject first n at marks)

abbrev pub chosen : Letters → List Item → List ℕ → Choice → List ℕ → Outcome
chosen a items subject (Down item low high count) marks = downwards a subject (high - low) (way a (drop item items) subject) low marks
chosen a items subject (Up first behind at count) marks = backwards a items subject first (behind - 1 - first) at marks

-- what the choices give, the last one first
abbrev pub tried : Letters → List Item → List ℕ → List Choice → List ℕ → Outcome
tried a items subject [] marks = Miss 0
tried a items subject (c ∷ cs) marks =
    or_else (chosen a items subject c (take (marks_of c) marks)) (tried a items subject cs (take (marks_of c) marks))
