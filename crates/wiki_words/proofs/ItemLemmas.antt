-- Lists that are read one item after another.
use Rattle.std.proofs.Common.{◌≡◌, ◌∙◌, ℕ, List, [], ◌∷◌, ◌++◌, refl, sym, ap, append_assoc, append-nil}
use Rattle.std.specs.Prelude.{Option, Some, None, option_map}
use Rattle.std.specs.List.{cons_option}
use Rattle.wiki_words.specs.declared.items.Reading.{Reading}
use Rattle.wiki_words.specs.declared.items.Reading.TheVariants.{Any, TextOf, ValueAlone}
use Rattle.wiki_words.specs.Items.{Item, WordMeaning, meaning_of, followed_by, items_from}

-- some items, and those behind them
abbrev pub behind : {A : Type 0} → List A → Option (List A) → Option (List A)
behind items more = option_map (λ more. items ++ more) more

-- the first word is read, whatever it is
opened : (reading : Reading) (word : List ℕ) (words : List (List ℕ)) → items_from reading (word ∷ words) ≡ followed_by (meaning_of reading word) (λ next. items_from next words)
opened Any word words = refl
opened (TextOf name) word words = refl
opened ValueAlone word words = refl

moved : (items : List Item) (item : Option Item) (more : Option (List Item)) → behind items (option_map (cons_option item) more) ≡ behind (items ++ cons_option item []) more
moved items item None = refl
moved items None (Some more) = ap (λ (front : List Item). Some (front ++ more)) (sym (append-nil items))
moved items (Some x) (Some more) = ap Some (sym (append_assoc items (x ∷ []) more))

-- a word more
pub word_more : (items : List Item) (reading : Reading) (word : List ℕ) (words : List (List ℕ)) (item : Option Item) (next : Reading) → Some (record { item = item; next = next }) ≡ meaning_of reading word → behind items (items_from reading (word ∷ words)) ≡ behind (items ++ cons_option item []) (items_from next words)
word_more items reading word words item next e =
    ap (behind items) (opened reading word words ∙ ap (λ (m : Option WordMeaning). followed_by m (λ next. items_from next words)) (sym e))
    ∙ moved items item (items_from next words)
