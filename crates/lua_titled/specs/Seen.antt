-- What items by title are seen as in `lua_meaning`, where each item is seen by a function.
use Rattle.std.specs.Prelude.{List, map}
use Rattle.wk_base.specs.declared.title.Title.{Title}
use Rattle.lua_meaning.specs.Titled.{Titled, ByTitle}

abbrev pub titled_by : {X Y : Type 0} → (X → Y) → Title × X → Titled Y
titled_by f p = record { title = p.0; item = f p.1 }

abbrev pub by_title : {X Y : Type 0} → (X → Y) → List (Title × X) → ByTitle Y
by_title f items = map (titled_by f) items

-- the items as they are
abbrev pub titled : {X : Type 0} → List (Title × X) → ByTitle X
titled items = by_title (λ x. x) items
