-- What a text consists of, for the definitions of patterns.
use Rattle.std.specs.Prelude.{◌≡◌, ℕ, ◌<◌, ◌≤◌, Bool, true, false, List, [], ◌∷◌, length, drop}
use Rattle.lua_pattern.specs.declared.item.Class.{Class}

-- a symbol of a text: its code, and how many bytes it takes
pub record Symbol : Type 0 where
  pub code : ℕ
  pub size : ℕ

-- An alphabet: the symbols of a text; whether a symbol begins at the head of a text, as at its end; the symbols of each class.
pub record Letters : Type 0 where
  pub symbols : List ℕ → List Symbol
  pub starts : List ℕ → Bool
  pub has : Class → ℕ → Bool

-- the first symbol of a text, and where symbols begin around it
pub record IsFirst (a : Letters) (text : List ℕ) (c : Symbol) (cs : List Symbol) : Type 0 where
  pub some : 0 < c.size
  pub within : c.size ≤ length text
  pub rest : cs ≡ a.symbols (drop c.size text)
  pub inner : (k : ℕ) → 0 < k → k < c.size → a.starts (drop k text) ≡ false
  pub next : a.starts (drop c.size text) ≡ true

-- Symbols stand one behind the other, and begin where the alphabet says.
pub record IsAlphabet (a : Letters) : Type 0 where
  pub none : a.symbols [] ≡ []
  pub first : (text : List ℕ) (c : Symbol) (cs : List Symbol) → a.symbols text ≡ c ∷ cs → IsFirst a text c cs
