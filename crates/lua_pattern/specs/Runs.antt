-- Items that stand one behind the other and make no try: at a subject's end, and anywhere.
use Rattle.std.specs.Prelude.{◌≡◌, ℕ, suc, ◌+◌, ◌<◌, Bool, true, false, cond, List, [], ◌∷◌, length, drop, slice_index}
use Rattle.lua_pattern.specs.declared.item.Item.{Item}
use Rattle.lua_pattern.specs.declared.item.Item.TheVariants.{Star, Minus, Maybe}
use Rattle.lua_pattern.specs.declared.items.Run.{Run}
use Rattle.lua_pattern.specs.declared.items.Run.TheVariants.{Idle, Few}

-- It matches nothing at a subject's end, and makes no try there.
abbrev pub is_idle : Item → Bool
is_idle (Star x) = true
is_idle (Minus x) = true
is_idle (Maybe x) = true
is_idle _ = false

-- It takes as few as it can: none at first, without a try.
abbrev pub is_few : Item → Bool
is_few (Minus x) = true
is_few _ = false

abbrev pub is_in : Run → Item → Bool
is_in Idle x = is_idle x
is_in Few x = is_few x

-- how many of them stand at the head
abbrev pub leading : Run → List Item → ℕ
leading r [] = 0
leading r (x ∷ xs) = cond (is_in r x) (suc (leading r xs)) 0

-- What is noted of an item, if anything is: the index behind those that stand from it on.
abbrev pub IsNoted : Run → List Item → List ℕ → Type 0
IsNoted r items noted = (k : ℕ) → k < length noted → slice_index noted k ≡ k + leading r (drop k items)
