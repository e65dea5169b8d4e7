-- WHAT A SHEET SAYS of a piece that is given under a budget.
use Rattle.std.specs.Prelude.{◌≡◌, ℕ, ◌+◌, ◌<◌, List, length}
use Rattle.mw_html.specs.declared.sheet.End.{End}
use Rattle.mw_html.specs.declared.sheet.End.TheVariants.{Open, Sunk, Spent}
use Rattle.mw_html.specs.declared.sheet.Sheet.{Sheet}
use Rattle.mw_html.specs.Render.{Piece, Whole, Deep, and_then, count}

abbrev pub StandsAt : End → ℕ → List ℕ → ℕ → Piece → Type 0
StandsAt Open budget bytes left (Whole a n) = (n + length a + left ≡ budget) × (bytes ≡ a)
StandsAt Open budget bytes left (Deep a n) = ⊥
StandsAt Sunk budget bytes left (Whole a n) = ⊥
StandsAt Sunk budget bytes left (Deep a n) = n + length a + left ≡ budget
StandsAt Spent budget bytes left p = budget < count p

abbrev pub Stands : ℕ → Sheet → Piece → Type 0
Stands budget s p = StandsAt s.end budget s.bytes.items s.left p

-- from one sheet to another a piece was given
abbrev pub Leads : Sheet → Sheet → Piece → Type 0
Leads s t q = (budget : ℕ) (p : Piece) → Stands budget s p → Stands budget t (and_then p q)
