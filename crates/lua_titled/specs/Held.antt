-- How items by title are held: under the texts of their titles.
use Rattle.std.specs.Prelude.{◌≡◌, ℕ, List, [], ◌∷◌, map, Option, Some, None}
use Rattle.wk_base.specs.declared.title.Title.{Title}
use Rattle.wk_base.specs.Titles.{title_text}

abbrev pub ItemsByText : Type 0 → Type 0
ItemsByText X = List (List ℕ × (Title × X))

abbrev pub items_in : {X : Type 0} → ItemsByText X → List (Title × X)
items_in held = map (λ e. e.1) held

-- each stands under the text of its title
abbrev pub AreNamed : {X : Type 0} → ItemsByText X → Type 0
AreNamed [] = Unit {0}
AreNamed (e ∷ es) = (e.0 ≡ title_text e.1.0) × AreNamed es

-- the title that an item has where this one was given: that of the item which it replaces, where there is one
abbrev pub title_kept : {X : Type 0} → Option (Title × X) → Title → Title
title_kept (Some x) title = x.0
title_kept None title = title
