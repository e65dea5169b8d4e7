-- Items that are seen by a function: what is found, put and taken out is seen as what is found, put and taken out.
use Rattle.std.proofs.Common.{◌≡◌, ◌∙◌, refl, sym, ap, Bool, true, false, List, [], ◌∷◌, map, Option, Some, None, if◌then◌else◌}
use Rattle.std.specs.Option.{option_map}
use Rattle.wk_base.specs.declared.title.Title.{Title}
use Rattle.lua_meaning.specs.Titled.{Titled, ByTitle, same_title, item_of, with_item, without_item}
use Rattle.lua_titled.specs.Seen.{by_title, titled}

module _ {X Y : Type 0} (f : X → Y) where
  abbrev through : Titled X → Titled Y
  through t = record { title = t.title; item = f t.item }

  as_through : (xs : List (Title × X)) → by_title f xs ≡ map through (titled xs)
  as_through [] = refl
  as_through (x ∷ xs) = ap (λ ys. record { title = x.0; item = f x.1 } ∷ ys) (as_through xs)

  item_through : (ts : ByTitle X) (title : Title) → item_of (map through ts) title ≡ option_map f (item_of ts title)
  item_through [] title = refl
  item_through (t ∷ ts) title = by (same_title t.title title) (item_through ts title)
    where
      by : (b : Bool) → item_of (map through ts) title ≡ option_map f (item_of ts title) → (if b then Some (f t.item) else item_of (map through ts) title) ≡ option_map f (if b then Some t.item else item_of ts title)
      by true later = refl
      by false later = later

  with_through : (ts : ByTitle X) (title : Title) (item : X) → with_item (map through ts) title (f item) ≡ map through (with_item ts title item)
  with_through [] title item = refl
  with_through (t ∷ ts) title item = by (same_title t.title title) (with_through ts title item)
    where
      by : (b : Bool) → with_item (map through ts) title (f item) ≡ map through (with_item ts title item) → (if b then record (through t) { item = f item } ∷ map through ts else through t ∷ with_item (map through ts) title (f item)) ≡ map through (if b then record t { item = item } ∷ ts else t ∷ with_item ts title item)
      by true later = refl
      by false later = ap (λ us. through t ∷ us) later

  without_through : (ts : ByTitle X) (title : Title) → without_item (map through ts) title ≡ map through (without_item ts title)
  without_through [] title = refl
  without_through (t ∷ ts) title = by (same_title t.title title) (without_through ts title)
    where
      by : (b : Bool) → without_item (map through ts) title ≡ map through (without_item ts title) → (if b then map through ts else through t ∷ without_item (map through ts) title) ≡ map through (if b then ts else t ∷ without_item ts title)
      by true later = refl
      by false later = ap (λ us. through t ∷ us) later

  pub item_by : (xs : List (Title × X)) (title : Title) → item_of (by_title f xs) title ≡ option_map f (item_of (titled xs) title)
  item_by xs title = ap (λ ts. item_of ts title) (as_through xs) ∙ item_through (titled xs) title

  -- of lists that are this with an item, or without one
  pub with_by : (xs ys : List (Title × X)) (title : Title) (item : X) → titled ys ≡ with_item (titled xs) title item → by_title f ys ≡ with_item (by_title f xs) title (f item)
  with_by xs ys title item e = as_through ys ∙ ap (map through) e ∙ sym (with_through (titled xs) title item) ∙ ap (λ ts. with_item ts title (f item)) (sym (as_through xs))

  pub without_by : (xs ys : List (Title × X)) (title : Title) → titled ys ≡ without_item (titled xs) title → by_title f ys ≡ without_item (by_title f xs) title
  without_by xs ys title e = as_through ys ∙ ap (map through) e ∙ sym (without_through (titled xs) title) ∙ ap (λ ts. without_item ts title) (sym (as_through xs))
