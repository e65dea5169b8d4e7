-- WHAT IS KEPT BY TITLE: at most one item for each title. Two titles are one where their texts are.
use Rattle.std.specs.Prelude.{Bool, List, [], ◌∷◌, Option, Some, None, if◌then◌else◌, bytes_eq}
use Rattle.lua_syntax.specs.WkBaseDeclaredTitleTitle.{Title}
use Rattle.lua_syntax.specs.WkBaseTitles.{title_text}

abbrev pub same_title : Title → Title → Bool
same_title a b = bytes_eq (title_text a) (title_text b)

pub record Titled (X : Type 0) : Type 0 where
  pub title : Title
  pub item : X

abbrev pub ByTitle : Type 0 → Type 0
ByTitle X = List (Titled X)

-- the item of a title
abbrev pub item_of : {X : Type 0} → ByTitle X → Title → Option X
item_of [] title = None
item_of (x ∷ xs) title = if same_title x.title title then Some x.item else item_of xs title

-- with this item for the title
abbrev pub with_item : {X : Type 0} → ByTitle X → Title → X → ByTitle X
with_item [] title item = record { title = title; item = item } ∷ []
with_item (x ∷ xs) title item = if same_title x.title title then record x { item = item } ∷ xs else x ∷ with_item xs title item

-- with none
abbrev pub without_item : {X : Type 0} → ByTitle X → Title → ByTitle X
without_item [] title = []
without_item (x ∷ xs) title = if same_title x.title title then xs else x ∷ without_item xs title
