-- The first way in which the items of a pattern match, and the number of tries (Lua 5.1 manual, 5.4.1).
use Rattle.std.specs.Prelude.{ℕ, zero, suc, ◌+◌, ◌-◌, Bool, true, false, cond, not, ◌&&◌, ◌==◌, List, [], ◌∷◌, ◌++◌, Option, Some, None, length, take, drop, slice_index}
use Rattle.lua_pattern.specs.declared.item.Single.{Single}
use Rattle.lua_pattern.specs.declared.item.Set.{Set}
use Rattle.lua_pattern.specs.declared.item.Item.{Item}
use Rattle.lua_pattern.specs.declared.item.Item.TheVariants.{One, Star, Plus, Minus, Maybe, Back, Balance, Frontier, Mark, End}
use Rattle.lua_pattern.specs.Letters.{Symbol, Letters}
use Rattle.lua_pattern.specs.Single.{fits}
use Rattle.lua_pattern.specs.Sets.{in_set}

-- A match ends at a place and has the places of the marks that were passed. With it or without, a number of tries.
pub data Outcome : Type 0 where
  Hit : ℕ → List ℕ → ℕ → Outcome
  Miss : ℕ → Outcome

-- so many tries more
abbrev pub costs : ℕ → Outcome → Outcome
costs n (Hit end marks m) = Hit end marks (n + m)
costs n (Miss m) = Miss (n + m)

-- the first, or where it has no match, the second
abbrev pub or_else : Outcome → Outcome → Outcome
or_else (Hit end marks n) other = Hit end marks n
or_else (Miss n) other = costs n other

abbrev pub tries : Outcome → ℕ
tries (Hit end marks n) = n
tries (Miss n) = n

-- What the rest of the items gives, at a place and with the marks so far.
abbrev pub Rest : Type 0
Rest = ℕ → List ℕ → Outcome

-- a single character: the first symbol is compared, and the rest stands behind it
abbrev pub one : Letters → Single → List Symbol → Rest → ℕ → List ℕ → Outcome
one a x [] rest at marks = Miss 0
one a x (c ∷ cs) rest at marks = costs 1 (cond (fits a x c.code) (rest (at + c.size) marks) (Miss 0))

-- how many bytes the symbols take that fit, up to the first that does not
abbrev pub run : Letters → Single → List Symbol → ℕ
run a x [] = 0
run a x (c ∷ cs) = cond (fits a x c.code) (c.size + run a x cs) 0

-- the comparisons that find this, the failing one included
abbrev pub comparisons : Letters → Single → List Symbol → ℕ
comparisons a x [] = 0
comparisons a x (c ∷ cs) = suc (cond (fits a x c.code) (comparisons a x cs) 0)

-- the rest behind as many symbols as fit, or behind one fewer, and so on
abbrev pub most_first : Letters → Single → List Symbol → Rest → ℕ → List ℕ → Outcome
most_first a x [] rest at marks = rest at marks
most_first a x (c ∷ cs) rest at marks =
    cond (fits a x c.code) (or_else (most_first a x cs rest (at + c.size) marks) (rest at marks)) (rest at marks)

-- `*`: first all is compared that fits
abbrev pub star : Letters → Single → List Symbol → Rest → ℕ → List ℕ → Outcome
star a x cs rest at marks = costs (comparisons a x cs) (most_first a x cs rest at marks)

-- `-`: the rest here, or behind one symbol that fits, and so on
abbrev pub least_first : Letters → Single → List Symbol → Rest → ℕ → List ℕ → Outcome
least_first a x [] rest at marks = rest at marks
least_first a x (c ∷ cs) rest at marks =
    or_else (rest at marks) (costs 1 (cond (fits a x c.code) (least_first a x cs rest (at + c.size) marks) (Miss 0)))

-- `?`: the rest behind the first symbol, or without it
abbrev pub maybe : Letters → Single → List Symbol → Rest → ℕ → List ℕ → Outcome
maybe a x [] rest at marks = rest at marks
maybe a x (c ∷ cs) rest at marks =
    costs 1 (cond (fits a x c.code) (or_else (rest (at + c.size) marks) (rest at marks)) (rest at marks))

-- The text begins with the word; and the bytes compared.
abbrev pub begins : List ℕ → List ℕ → Bool
begins [] text = true
begins (w ∷ ws) [] = false
begins (w ∷ ws) (b ∷ bs) = cond (w == b) (begins ws bs) false

abbrev pub bytes_compared : List ℕ → List ℕ → ℕ
bytes_compared [] text = 0
bytes_compared (w ∷ ws) [] = 0
bytes_compared (w ∷ ws) (b ∷ bs) = suc (cond (w == b) (bytes_compared ws bs) 0)

-- the text between two marks
abbrev pub between_marks : List ℕ → ℕ → ℕ → List ℕ → List ℕ
between_marks subject left right marks =
    take (slice_index marks right - slice_index marks left) (drop (slice_index marks left) subject)

-- `%1` to `%9`: the word once more
abbrev pub same_again : List ℕ → List ℕ → Rest → ℕ → List ℕ → Outcome
same_again word text rest at marks =
    costs (bytes_compared word text) (cond (begins word text) (rest (at + length word) marks) (Miss 0))

-- a number of symbols, and how many bytes they take; and with one more in front
abbrev pub longer : Symbol → Option (ℕ × ℕ) → Option (ℕ × ℕ)
longer c None = None
longer c (Some p) = Some (suc p.0, c.size + p.1)

-- How long a text is that closes each mark, with a number of them open beside the first.
abbrev pub closing : ℕ → ℕ → ℕ → List Symbol → Option (ℕ × ℕ)
closing x y depth [] = None
closing x y zero (c ∷ cs) =
    cond (c.code == y) (Some (1, c.size)) (longer c (cond (c.code == x) (closing x y 1 cs) (closing x y 0 cs)))
closing x y (suc depth) (c ∷ cs) =
    longer c (cond (c.code == y) (closing x y depth cs) (cond (c.code == x) (closing x y (suc (suc depth)) cs) (closing x y (suc depth) cs)))

-- the rest behind such a text, each symbol of which is compared; where there is none, all are
abbrev pub after_closing : Option (ℕ × ℕ) → ℕ → Rest → ℕ → List ℕ → Outcome
after_closing None whole rest at marks = Miss whole
after_closing (Some p) whole rest at marks = costs p.0 (rest (at + p.1) marks)

-- `%bxy`
abbrev pub balanced : ℕ → ℕ → List Symbol → Rest → ℕ → List ℕ → Outcome
balanced x y [] rest at marks = Miss 0
balanced x y (c ∷ cs) rest at marks =
    costs 1 (cond (c.code == x) (after_closing (closing x y 0 cs) (length cs) rest (at + c.size) marks) (Miss 0))

-- the code of the first symbol, or zero
abbrev pub first_code : List Symbol → ℕ
first_code [] = 0
first_code (c ∷ cs) = c.code

-- the code of the symbol before a place: of the last one that begins below it, or zero
abbrev pub code_before : Letters → List ℕ → ℕ → ℕ
code_before a subject zero = 0
code_before a subject (suc at) =
    cond (a.starts (drop at subject)) (first_code (a.symbols (drop at subject))) (code_before a subject at)

-- `%f`: the symbol before the place is not in the set, and the one at it is
abbrev pub is_frontier : Letters → Set → List ℕ → ℕ → Bool
is_frontier a set subject at =
    not (in_set a set (code_before a subject at)) && in_set a set (first_code (a.symbols (drop at subject)))

-- one test, and the rest where it holds
abbrev pub test_way : Bool → Rest → ℕ → List ℕ → Outcome
test_way b rest at marks = costs 1 (cond b (rest at marks) (Miss 0))

-- what an item and the rest give
abbrev pub item_way : Letters → Item → List ℕ → Rest → ℕ → List ℕ → Outcome
item_way a (One x) subject rest at marks = one a x (a.symbols (drop at subject)) rest at marks
item_way a (Star x) subject rest at marks = star a x (a.symbols (drop at subject)) rest at marks
item_way a (Plus x) subject rest at marks =
    one a x (a.symbols (drop at subject)) (λ p. star a x (a.symbols (drop p subject)) rest p) at marks
item_way a (Minus x) subject rest at marks = least_first a x (a.symbols (drop at subject)) rest at marks
item_way a (Maybe x) subject rest at marks = maybe a x (a.symbols (drop at subject)) rest at marks
item_way a (Back left right) subject rest at marks =
    same_again (between_marks subject left right marks) (drop at subject) rest at marks
item_way a (Balance x y) subject rest at marks = balanced x y (a.symbols (drop at subject)) rest at marks
item_way a (Frontier set) subject rest at marks = test_way (is_frontier a set subject at) rest at marks
item_way a Mark subject rest at marks = costs 1 (rest at (marks ++ at ∷ []))
item_way a End subject rest at marks = test_way (at == length subject) rest at marks

-- The first match of the items at a place, and the tries.
abbrev pub way : Letters → List Item → List ℕ → ℕ → List ℕ → Outcome
way a [] subject at marks = Hit at marks 0
way a (item ∷ items) subject at marks = item_way a item subject (way a items subject) at marks

-- What a search gives: where the match starts is said too.
pub data Answer : Type 0 where
  At : ℕ → ℕ → List ℕ → ℕ → Answer
  Nowhere : ℕ → Answer

abbrev pub starting : ℕ → Outcome → Answer
starting from (Hit end marks n) = At from end marks n
starting from (Miss n) = Nowhere n

abbrev pub answer_costs : ℕ → Answer → Answer
answer_costs n (At start end marks m) = At start end marks (n + m)
answer_costs n (Nowhere m) = Nowhere (n + m)

abbrev pub answer_or_else : Answer → Answer → Answer
answer_or_else (At start end marks n) other = At start end marks n
answer_or_else (Nowhere n) other = answer_costs n other

abbrev pub answer_tries : Answer → ℕ
answer_tries (At start end marks n) = n
answer_tries (Nowhere n) = n

-- the first start from a place on, behind which these symbols stand, with a match
abbrev pub first_of : Letters → List Item → List ℕ → List Symbol → ℕ → Answer
first_of a items subject [] from = starting from (way a items subject from [])
first_of a items subject (c ∷ cs) from =
    answer_or_else (starting from (way a items subject from [])) (first_of a items subject cs (from + c.size))

-- Under `^` only the first place is looked at, after one test of the anchor.
abbrev pub first : Letters → Bool → List Item → List ℕ → ℕ → Answer
first a true items subject from = starting from (costs 1 (way a items subject from []))
first a false items subject from = first_of a items subject (a.symbols (drop from subject)) from
