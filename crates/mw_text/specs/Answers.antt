-- ANSWERS WITHIN A BUDGET OF STEPS. A try costs one step, and so does each byte of the texts that are given.
use Rattle.std.specs.Prelude.{◌≡◌, ℕ, ◌+◌, ◌<◌, ◌≤◌, List, [], ◌∷◌, length}
use Rattle.mw_text.specs.declared.answers.TextAnswer.{TextAnswer}
use Rattle.mw_text.specs.declared.answers.TextAnswer.TheVariants as text
use Rattle.mw_text.specs.declared.answers.PartsAnswer.{PartsAnswer}
use Rattle.mw_text.specs.declared.answers.PartsAnswer.TheVariants as parts

-- It is spent exactly where tries and bytes together exceed the budget; else it has this text and these tries.
abbrev pub IsText : ℕ → ℕ → List ℕ → TextAnswer → Type 0
IsText budget tries bytes (text.Text made n) = (tries + length bytes ≤ budget) × (made.items ≡ bytes) × (n ≡ tries)
IsText budget tries bytes text.Spent = budget < tries + length bytes

abbrev pub total : List (List ℕ) → ℕ
total [] = 0
total (t ∷ ts) = length t + total ts

-- tries and texts
abbrev pub IsParts : ℕ → ℕ × List (List ℕ) → PartsAnswer → Type 0
IsParts budget whole (parts.Parts made n) = (whole.0 + total whole.1 ≤ budget) × (made ≡ whole.1) × (n ≡ whole.0)
IsParts budget whole parts.Spent = budget < whole.0 + total whole.1
