-- WHAT A RENDERING GIVES within the steps that are left, of which it takes its count.
use Rattle.std.specs.Prelude.{◌≡◌, ◌<◌}
use Rattle.lua_strings.specs.WkBaseDeclaredLeftLeft.{Left}
use Rattle.mw_html.specs.Render.{Piece, Whole, Deep, count}
use Rattle.lua_strings.specs.Costs.{Takes}
use Rattle.mw_html_texts.specs.declared.giving.ObjectText.{ObjectText}
use Rattle.mw_html_texts.specs.declared.giving.ObjectText.TheVariants.{Text, TooDeep, Spent}

abbrev pub IsText : Left → Left → Piece → ObjectText → Type 0
IsText l m (Whole a n) (Text bytes) = Takes (count (Whole a n)) l m × (bytes.items ≡ a)
IsText l m (Deep a n) TooDeep = Takes (count (Deep a n)) l m
IsText l m p Spent = (l.steps < count p) × (m ≡ record l { steps = 0 })
IsText l m p text = ⊥
