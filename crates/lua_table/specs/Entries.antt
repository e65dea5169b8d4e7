-- A table of Lua as the list of its entries in order of first insertion, with nil for a cleared one (manual 2.2, 2.5.5 and 5.1).
use Rattle.std.specs.Prelude.{◌≡◌, ◌≢◌, ℕ, ℤ, pos, ◌+◌, ◌<◌, ◌≤◌, Bool, if◌then◌else◌, List, [], ◌∷◌, Option, Some, None, is_some, unwrap_or}
use Rattle.std.specs.List.{IsDistinct, AllByRecursion}
use Rattle.std.specs.Map.{lookup, keys_of}
use Rattle.lua_table.specs.declared.table.Step.{Step}

-- a table: its entries, its metatable, and whether it is read-only
pub record Contents (V : Type 0) : Type 0 where
  pub entries : List (V × V)
  pub meta : V
  pub frozen : Bool

module _ {V : Type 0} (eq : V → V → Bool) (nil : V) where
  -- the value of a key without metamethods
  abbrev pub value_at : List (V × V) → V → V
  value_at es key = unwrap_or (lookup (eq key) es) nil

  -- whether there is an entry of the key, cleared or not
  abbrev pub is_there : List (V × V) → V → Bool
  is_there es key = is_some (lookup (eq key) es)

  -- the entries after a set: a key that is there keeps its place, and nil for an absent key makes no entry
  abbrev pub set_at : List (V × V) → V → V → List (V × V)
  set_at [] key value = if eq value nil then [] else (key, value) ∷ []
  set_at (e ∷ es) key value = if eq key e.0 then (e.0, value) ∷ es else e ∷ set_at es key value

  -- the entries that come after a key, where it is there
  abbrev pub after_key : List (V × V) → V → Option (List (V × V))
  after_key [] key = None
  after_key (e ∷ es) key = if eq key e.0 then Some es else after_key es key

  -- where `next` stops, and how many cleared entries it passed over
  pub record Stop : Type 0 where
    pub key : V
    pub value : V
    pub passed : ℕ

  -- the first entry that is not cleared, or nil where there is none
  abbrev pub first_live : List (V × V) → Stop
  first_live [] = record { key = nil; value = nil; passed = 0 }
  first_live (e ∷ es) =
      if eq e.1 nil then (let s = first_live es in record s { passed = s.passed + 1 })
      else record { key = e.0; value = e.1; passed = 0 }

  -- the answer of `next` tells that stop
  abbrev pub Shows : Stop → Step V → Type 0
  Shows stop s = (s.key ≡ stop.key) × (s.value ≡ stop.value) × (s.passed ≡ stop.passed)

  -- each key is there once, and none is nil
  pub record HasKeys (es : List (V × V)) : Type 0 where
    pub distinct : IsDistinct eq (keys_of es)
    pub keys : AllByRecursion (λ key. key ≢ nil) (keys_of es)

-- n is the least border of a sequence, which is asked at the numbers of 64 bits from 1 on
pub record IsLeastBorder {V : Type 0} (nil : V) (value : ℕ → V) (n : ℕ) : Type 0 where
  pub below : (k : ℕ) → 0 < k → k ≤ n → value k ≢ nil
  pub above : n < 9223372036854775807 → value (n + 1) ≡ nil

-- n is the least border of a table, where `number` gives the keys
abbrev pub IsBorder : {V : Type 0} → (V → V → Bool) → V → (ℤ → V) → List (V × V) → ℕ → Type 0
IsBorder eq nil number es n = IsLeastBorder nil (λ k. value_at eq nil es (number (pos k))) n
