-- What is found, put and taken out by the texts of titles is what is found, put and taken out by titles.
use Rattle.std.proofs.Common.{◌≡◌, ◌∙◌, refl, sym, ap, subst, ℕ, Bool, true, false, List, [], ◌∷◌, map, Option, Some, None, cond, bytes_eq}
use Rattle.std.specs.Option.{option_map}
use Rattle.std.specs.Map.{lookup, remove_entry}
use Rattle.std.proofs.lemmas.Slice.Eq.{bytes_eq-Decides}
use Rattle.indexmap.specs.IndexMap.{insert_entry}
use Rattle.wk_base.specs.declared.title.Title.{Title}
use Rattle.wk_base.specs.contracts.bytes.BytesPartialEq.TheImpl as bytes
use Rattle.wk_base.specs.Titles.{title_text}
use Rattle.lua_meaning.specs.Titled.{same_title, item_of, with_item, without_item}
use Rattle.lua_titled.specs.Held.{ItemsByText, items_in, title_kept, AreNamed}
use Rattle.lua_titled.specs.Seen.{titled}

turned : (a b : List ℕ) → bytes_eq a b ≡ bytes_eq b a
turned a b = by (bytes_eq a b) (bytes_eq b a) refl refl
  where
    by : (x y : Bool) → bytes_eq a b ≡ x → bytes_eq b a ≡ y → bytes_eq a b ≡ bytes_eq b a
    by true y p q = p ∙ sym ((bytes_eq-Decides b a).1 (sym ((bytes_eq-Decides a b).0 p)))
    by false true p q = absurd (let r : bytes_eq a b ≡ true = (bytes_eq-Decides a b).1 (sym ((bytes_eq-Decides b a).0 q)) in cc)
    by false false p q = p ∙ sym q

-- a key passes the test where its title is the same
test : {X : Type 0} (text : List ℕ) (title : Title) (e : List ℕ × (Title × X)) → text ≡ title_text title → e.0 ≡ title_text e.1.0 → bytes.ghosts.eq text e.0 ≡ same_title e.1.0 title
test text title e t k = turned text e.0 ∙ ap (λ x. bytes_eq x text) k ∙ ap (bytes_eq (title_text e.1.0)) t

module _ {X : Type 0} (text : List ℕ) (title : Title) (t : text ≡ title_text title) where
  pub found : (es : ItemsByText X) → AreNamed es → option_map (λ x. x.1) (lookup (bytes.ghosts.eq text) es) ≡ item_of (titled (items_in es)) title
  found [] all = refl
  found (e ∷ es) all =
      pick (bytes.ghosts.eq text e.0) ∙ ap (λ b. cond b (Some e.1.1) (option_map (λ x. x.1) (lookup (bytes.ghosts.eq text) es))) (test text title e t all.0)
      ∙ ap (λ o. cond (same_title e.1.0 title) (Some e.1.1) o) (found es all.1)
    where
      pick : (b : Bool) → option_map (λ x. x.1) (cond b (Some e.1) (lookup (bytes.ghosts.eq text) es)) ≡ cond b (Some e.1.1) (option_map (λ x. x.1) (lookup (bytes.ghosts.eq text) es))
      pick true = refl
      pick false = refl

  pub taken_out : (es : ItemsByText X) → AreNamed es → titled (items_in (remove_entry (bytes.ghosts.eq text) es)) ≡ without_item (titled (items_in es)) title
  taken_out [] all = refl
  taken_out (e ∷ es) all =
      pick (bytes.ghosts.eq text e.0) ∙ ap (λ b. cond b (titled (items_in es)) (record { title = e.1.0; item = e.1.1 } ∷ titled (items_in (remove_entry (bytes.ghosts.eq text) es)))) (test text title e t all.0)
      ∙ ap (λ o. cond (same_title e.1.0 title) (titled (items_in es)) (record { title = e.1.0; item = e.1.1 } ∷ o)) (taken_out es all.1)
    where
      pick : (b : Bool) → titled (items_in (cond b es (e ∷ remove_entry (bytes.ghosts.eq text) es))) ≡ cond b (titled (items_in es)) (record { title = e.1.0; item = e.1.1 } ∷ titled (items_in (remove_entry (bytes.ghosts.eq text) es)))
      pick true = refl
      pick false = refl

  pub out_named : (es : ItemsByText X) → AreNamed es → AreNamed (remove_entry (bytes.ghosts.eq text) es)
  out_named [] all = tt
  out_named (e ∷ es) all = by (bytes.ghosts.eq text e.0) (out_named es all.1)
    where
      by : (b : Bool) → AreNamed (remove_entry (bytes.ghosts.eq text) es) → AreNamed (cond b es (e ∷ remove_entry (bytes.ghosts.eq text) es))
      by true later = all.1
      by false later = (all.0, later)

  module _ (item : X) where
    -- the item goes where the text is, with the title that is there
    abbrev pub kept : ItemsByText X → Title × X
    kept es = (title_kept (lookup (bytes.ghosts.eq text) es) title, item)

    pub inserted : (es : ItemsByText X) → AreNamed es → titled (items_in (insert_entry bytes.ghosts.eq es text (kept es))) ≡ with_item (titled (items_in es)) title item
    inserted [] all = refl
    inserted (e ∷ es) all = by (bytes.ghosts.eq text e.0) (same_title e.1.0 title) (test text title e t all.0) (inserted es all.1)
      where
        by : (b c : Bool) → b ≡ c → titled (items_in (insert_entry bytes.ghosts.eq es text (kept es))) ≡ with_item (titled (items_in es)) title item
            → titled (items_in (cond b ((e.0, (title_kept (cond b (Some e.1) (lookup (bytes.ghosts.eq text) es)) title, item)) ∷ es) (e ∷ insert_entry bytes.ghosts.eq es text (title_kept (cond b (Some e.1) (lookup (bytes.ghosts.eq text) es)) title, item))))
            ≡ cond c (record { title = e.1.0; item = item } ∷ titled (items_in es)) (record { title = e.1.0; item = e.1.1 } ∷ with_item (titled (items_in es)) title item)
        by true true p later = refl
        by true false p later = cc
        by false true p later = cc
        by false false p later = ap (λ o. record { title = e.1.0; item = e.1.1 } ∷ o) later

    pub in_named : (es : ItemsByText X) → AreNamed es → AreNamed (insert_entry bytes.ghosts.eq es text (kept es))
    in_named [] all = (t, tt)
    in_named (e ∷ es) all = by (bytes.ghosts.eq text e.0) (in_named es all.1)
      where
        by : (b : Bool) → AreNamed (insert_entry bytes.ghosts.eq es text (kept es))
            → AreNamed (cond b ((e.0, (title_kept (cond b (Some e.1) (lookup (bytes.ghosts.eq text) es)) title, item)) ∷ es) (e ∷ insert_entry bytes.ghosts.eq es text (title_kept (cond b (Some e.1) (lookup (bytes.ghosts.eq text) es)) title, item)))
        by true later = (all.0, all.1)
        by false later = (all.0, later)
