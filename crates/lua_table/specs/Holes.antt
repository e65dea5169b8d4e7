-- Marks on the places of a list, and the complete binary tree in an array that finds the first one. The nodes below the node i are
-- 2 i and 2 i + 1, and those from `width` on are the leaves.
use Rattle.std.specs.Prelude.{◌≡◌, ◌≢◌, ℕ, ℤ, pos, zero, suc, ◌+◌, ◌<◌, ◌≤◌, Bool, true, false, ◌||◌, List, length, slice_index_or}
use Rattle.lua_table.specs.Entries.{value_at, is_there}

-- whether a place is marked; there is no mark past the end
abbrev pub marked : List Bool → ℕ → Bool
marked marks place = slice_index_or marks place false

-- the first of the leaves below a node that stands `levels` above the leaves
abbrev pub first_below : ℕ → ℕ → ℕ
first_below zero node = node
first_below (suc levels) node = first_below levels (node + node)

-- a node is marked where one of those below it is
abbrev pub IsJoined : List Bool → ℕ → Type 0
IsJoined nodes node = marked nodes node ≡ (marked nodes (node + node) || marked nodes (node + node + 1))

pub record IsTree (nodes : List Bool) (width : ℕ) : Type 0 where
  pub size : length nodes ≡ width + width
  pub joined : (node : ℕ) → 0 < node → node < width → IsJoined nodes node

-- a tree in which the node above `below` need not be joined
pub record IsTreeAbove (below : ℕ) (nodes : List Bool) (width : ℕ) : Type 0 where
  pub size : length nodes ≡ width + width
  pub within : below < width + width
  pub joined : (node : ℕ) → 0 < node → node < width → node + node ≢ below → node + node + 1 ≢ below → IsJoined nodes node

-- the width of a tree that is complete, where it is not empty
abbrev pub IsWidth : ℕ → Type 0
IsWidth width = 0 < width → (levels : ℕ) × (width ≡ first_below levels 1)

-- `node` is marked, and no leaf before the first one below it is
pub record LeadsOn (nodes : List Bool) (width node : ℕ) : Type 0 where
  pub low : 0 < node
  pub high : node < width + width
  pub here : marked nodes node ≡ true
  pub levels : ℕ
  pub first : width ≤ first_below levels node
  pub before : (leaf : ℕ) → width ≤ leaf → leaf < first_below levels node → marked nodes leaf ≡ false

-- the keys from 1 to `run` of a table are marked where they have no value, and the next number is no key
module _ {V : Type 0} (eq : V → V → Bool) (nil : V) (number : ℤ → V) where
  pub record MarksCleared (es : List (V × V)) (marks : List Bool) (run : ℕ) : Type 0 where
    pub most : run ≤ 9223372036854775807
    pub fits : run ≤ length marks
    pub right : (k : ℕ) → k < run → marked marks k ≡ eq (value_at eq nil es (number (pos (k + 1)))) nil
    pub ends : run < 9223372036854775807 → is_there eq nil es (number (pos (run + 1))) ≡ false

  -- the same, but for a key that is about to be set
  pub record MarksClearedBut (key : V) (es : List (V × V)) (marks : List Bool) (run : ℕ) : Type 0 where
    pub most : run ≤ 9223372036854775807
    pub fits : run ≤ length marks
    pub right : (k : ℕ) → k < run → key ≢ number (pos (k + 1)) → marked marks k ≡ eq (value_at eq nil es (number (pos (k + 1)))) nil
    pub ends : run < 9223372036854775807 → is_there eq nil es (number (pos (run + 1))) ≡ false
    pub other : run < 9223372036854775807 → key ≢ number (pos (run + 1))

  -- the numbers after `from` up to `to` are keys, marked where they have no value, and the next number is no key
  pub record IsRun (es : List (V × V)) (marks : List Bool) (from to : ℕ) : Type 0 where
    pub onward : from ≤ to
    pub most : to ≤ 9223372036854775807
    pub fits : to ≤ length marks
    pub right : (k : ℕ) → from ≤ k → k < to → marked marks k ≡ eq (value_at eq nil es (number (pos (k + 1)))) nil
    pub ends : to < 9223372036854775807 → is_there eq nil es (number (pos (to + 1))) ≡ false
