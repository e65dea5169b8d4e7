-- LISTS IN WHICH ONE ITEM IS SET: at its place, or behind the others where it has none.
use Rattle.std.specs.Prelude.{ℕ, ◌+◌, List, [], ◌∷◌, ◌++◌, map, take, drop, Option, Some, None}

abbrev pub new_items : {A : Type 0} → Option A → List A
new_items (Some x) = x ∷ []
new_items None = []

abbrev pub settled_at : {A : Type 0} → Option ℕ → List A → List A → List A
settled_at (Some at) new xs = take at xs ++ (new ++ drop (at + 1) xs)
settled_at None new xs = xs ++ new

-- the same, as the items are seen
abbrev pub settled_seen : {A B : Type 0} → (A → B) → Option ℕ → List B → List A → List B
settled_seen f (Some at) new xs = map f (take at xs) ++ (new ++ map f (drop (at + 1) xs))
settled_seen f None new xs = map f xs ++ new
