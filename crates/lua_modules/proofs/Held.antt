-- ITEMS BY TITLE: what is true of all of them stays true where one is put or taken out.
use Rattle.std.proofs.Common.{◌≡◌, ◌∙◌, sym, subst, Bool, true, false, List, [], ◌∷◌, Option, Some, if◌then◌else◌}
use Rattle.std.specs.List.{AllByRecursion}
use Rattle.lua_code.specs.WkBaseDeclaredTitleTitle.{Title}
use Rattle.lua_code.specs.LuaMeaningTitled.{ByTitle, same_title, item_of, with_item, without_item}
use Rattle.lua_state.specs.LuaTitledSeen.{titled}

module _ {X : Type 0} (P : X → Type 0) where
  abbrev AllItems : ByTitle X → Type 0
  AllItems ts = AllByRecursion (λ t. P t.item) ts

  to_titled : (xs : List (Title × X)) → AllByRecursion (λ x. P x.1) xs → AllItems (titled xs)
  to_titled [] h = tt
  to_titled (x ∷ xs) h = (h.0, to_titled xs h.1)

  from_titled : (xs : List (Title × X)) → AllItems (titled xs) → AllByRecursion (λ x. P x.1) xs
  from_titled [] h = tt
  from_titled (x ∷ xs) h = (h.0, from_titled xs h.1)

  with_all : (ts : ByTitle X) (title : Title) (item : X) → AllItems ts → P item → AllItems (with_item ts title item)
  with_all [] title item h p = (p, tt)
  with_all (t ∷ ts) title item h p = by (same_title t.title title) (with_all ts title item h.1 p)
    where
      by : (b : Bool) → AllItems (with_item ts title item) → AllItems (if b then record t { item = item } ∷ ts else t ∷ with_item ts title item)
      by true later = (p, h.1)
      by false later = (h.0, later)

  without_all : (ts : ByTitle X) (title : Title) → AllItems ts → AllItems (without_item ts title)
  without_all [] title h = tt
  without_all (t ∷ ts) title h = by (same_title t.title title) (without_all ts title h.1)
    where
      by : (b : Bool) → AllItems (without_item ts title) → AllItems (if b then ts else t ∷ without_item ts title)
      by true later = h.1
      by false later = (h.0, later)

  among : (ts : ByTitle X) (title : Title) (x : X) → AllItems ts → item_of ts title ≡ Some x → P x
  among [] title x h e = absurd cc
  among (t ∷ ts) title x h e = by (same_title t.title title) e (among ts title x h.1)
    where
      by : (b : Bool) → (if b then Some t.item else item_of ts title) ≡ Some x → (item_of ts title ≡ Some x → P x) → P x
      by true e later = let same : t.item ≡ x = cc in subst P same h.0
      by false e later = later e

  pub put_all : (xs ys : List (Title × X)) (title : Title) (item : X) → titled ys ≡ with_item (titled xs) title item → AllByRecursion (λ x. P x.1) xs → P item → AllByRecursion (λ x. P x.1) ys
  put_all xs ys title item e h p = from_titled ys (subst AllItems (sym e) (with_all (titled xs) title item (to_titled xs h) p))

  pub out_all : (xs ys : List (Title × X)) (title : Title) → titled ys ≡ without_item (titled xs) title → AllByRecursion (λ x. P x.1) xs → AllByRecursion (λ x. P x.1) ys
  out_all xs ys title e h = from_titled ys (subst AllItems (sym e) (without_all (titled xs) title (to_titled xs h)))

  pub item_all : (xs : List (Title × X)) (title : Title) (o : Option X) (x : X) → o ≡ item_of (titled xs) title → o ≡ Some x → AllByRecursion (λ x. P x.1) xs → P x
  item_all xs title o x e is h = among (titled xs) title x (to_titled xs h) (sym e ∙ is)
