-- Choices and marks.
use Rattle.std.proofs.Common.{◌≡◌, ℕ, ◌≤◌, List, [], ◌∷◌, ◌++◌, length, refl, ap, arith}
use Rattle.lua_pattern.specs.declared.item.Item.{Item}
use Rattle.lua_pattern.specs.declared.trail.Choice.{Choice}
use Rattle.lua_pattern.specs.Letters.{Letters}
use Rattle.lua_pattern.specs.Way.{or_else}
use Rattle.lua_pattern.specs.Trail.{Ordered, marks_of, tried, chosen}
use Rattle.std.proofs.lemmas.List.{take-append-le}

pub ordered_more : (cs : List Choice) (n m : ℕ) → n ≤ m → Ordered cs n → Ordered cs m
ordered_more [] n m le o = tt
ordered_more (c ∷ cs) n m le o = let h : marks_of c ≤ n = o.0 in (omega (arith, h), o.1)

pub tried_mark : (a : Letters) (items : List Item) (subject : List ℕ) (cs : List Choice) (marks more : List ℕ) → Ordered cs (length marks) →
    tried a items subject cs (marks ++ more) ≡ tried a items subject cs marks
tried_mark a items subject [] marks more o = refl
tried_mark a items subject (c ∷ cs) marks more o =
    let h : marks_of c ≤ length marks = o.0 in
    ap (λ m. or_else (chosen a items subject c m) (tried a items subject cs m)) (take-append-le (marks_of c) marks more h)
