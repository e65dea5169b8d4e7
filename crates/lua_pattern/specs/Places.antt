-- Where the places of a match lie.
use Rattle.std.specs.Prelude.{◌≡◌, ℕ, ◌+◌, ◌-◌, ◌≤◌, true, List, ◌∷◌, All, length, take, drop}
use Rattle.lua_pattern.specs.declared.pattern.Capture.{Capture}
use Rattle.lua_pattern.specs.declared.pattern.Capture.TheVariants.{Span, Place}
use Rattle.lua_pattern.specs.declared.pattern.Search.{Search}
use Rattle.lua_pattern.specs.declared.pattern.Search.TheVariants as search
use Rattle.lua_pattern.specs.Letters.{Symbol, Letters}
use Rattle.lua_pattern.specs.Way.{begins}

-- The word that stands at one place stands at another one, too.
abbrev pub Repeats : List ℕ → ℕ → ℕ → ℕ → Type 0
Repeats subject from to at = begins (take (to - from) (drop from subject)) (drop at subject) ≡ true

-- Behind a symbol, and behind a word once more, is a place again.
pub record KeepsPlaces (a : Letters) (subject : List ℕ) (P : ℕ → Type 0) : Type 0 where
  pub step : (at : ℕ) (c : Symbol) (cs : List Symbol) → P at → a.symbols (drop at subject) ≡ c ∷ cs → P (at + c.size)
  pub again : (at from to : ℕ) → P at → P from → P to → Repeats subject from to at → P (at + length (take (to - from) (drop from subject)))
  pub zero : P 0

abbrev pub IsCaptureAt : (ℕ → Type 0) → Capture → Type 0
IsCaptureAt P (Span from to) = P from × P to
IsCaptureAt P (Place at) = P at

-- A match lies behind the place from which the search goes, and begins, ends and captures at places.
abbrev pub HasPlaces : (ℕ → Type 0) → ℕ → Search → Type 0
HasPlaces P from (search.Found m n) = (from ≤ m.start) × (m.start ≤ m.end) × P m.start × P m.end × All (IsCaptureAt P) m.captures
HasPlaces P from (search.NotFound n) = Unit {0}
HasPlaces P from search.Spent = Unit {0}
