-- The texts of a store, and the set of byte strings that keeps them.
use Rattle.std.proofs.Common.{◌≡◌, ℕ, Bool, true, false, cond, ◌||◌, List, [], ◌∷◌, ◌++◌, Option, Some, refl, sym, ◌∙◌, ap}
use Rattle.std.specs.Borrow.{Bor}
use Rattle.std.specs.Prelude.{slice_get}
use Rattle.std.specs.List.{list_any, find}
use Rattle.std.specs.Option.{option_map}
use Rattle.std.specs.Str.{bytes_eq}
use Rattle.std.specs.Cmp.Lexicographic.{same_text}
use Rattle.std.proofs.lemmas.Map.Keys.{any_passes_from_place}
use Rattle.std.proofs.lemmas.Option.{slice_get-map}
use Rattle.indexmap.specs.IndexSet.{insert_key}
use Rattle.lua_store.specs.Texts.{texts_of}
use Rattle.lua_store.specs.Parts.{with_text}

abbrev Key : Type 0
Key = Bor (List ℕ)

found_here : (bs : List ℕ) (x : Key) (k : Key) (rest : Option Key) → (rest ≡ Some k → k.now ≡ bs) → (b : Bool) → b ≡ bytes_eq bs x.now → cond b (Some x) rest ≡ Some k → k.now ≡ bs
found_here bs x k rest go true e h = let same : x ≡ k = cc in ap (λ z. z.now) (sym same) ∙ sym (same_text bs x.now e)
found_here bs x k rest go false e h = go h

pub find_same : (bs : List ℕ) (ks : List Key) (k : Key) → find (λ k. bytes_eq bs k.now) ks ≡ Some k → k.now ≡ bs
find_same bs [] k h = cc
find_same bs (x ∷ xs) k h = found_here bs x k (find (λ k. bytes_eq bs k.now) xs) (find_same bs xs k) (bytes_eq bs x.now) refl h

pub text_there : (bs : List ℕ) (ks : List Key) (at : ℕ) (k : Key) → slice_get ks at ≡ Some k → k.now ≡ bs → slice_get (texts_of ks) at ≡ Some bs
text_there bs ks at k h e = slice_get-map (λ b. b.now) ks at ∙ ap (option_map (λ b. b.now)) h ∙ ap Some e

any_text : (bs : List ℕ) (ks : List Key) → list_any (bytes_eq bs) (texts_of ks) ≡ list_any (λ k. bytes_eq bs k.now) ks
any_text bs [] = refl
any_text bs (k ∷ ks) = ap (λ b. bytes_eq bs k.now || b) (any_text bs ks)

pub with_text-there : (bs : List ℕ) (ks : List Key) → true ≡ list_any (λ k. bytes_eq bs k.now) ks → with_text (texts_of ks) bs ≡ texts_of ks
with_text-there bs ks h = ap (λ b. cond b (texts_of ks) (texts_of ks ++ bs ∷ [])) (any_text bs ks ∙ sym h)

-- a text that stands at a place is one of the texts
pub with_text-at : (bs : List ℕ) (ks : List Key) (at : ℕ) (k : Key) → slice_get ks at ≡ Some k → true ≡ bytes_eq bs k.now → with_text (texts_of ks) bs ≡ texts_of ks
with_text-at bs ks at k h e = with_text-there bs ks (sym (any_passes_from_place (λ k. bytes_eq bs k.now) ks at k h (sym e)))

texts_of-push : (ks : List Key) (k : Key) → texts_of (ks ++ k ∷ []) ≡ texts_of ks ++ k.now ∷ []
texts_of-push [] k = refl
texts_of-push (x ∷ ks) k = ap (λ r. x.now ∷ r) (texts_of-push ks k)

pub with_text-new : (bs : List ℕ) (ks : List Key) (k : Key) → k.now ≡ bs → texts_of (insert_key (λ x y. bytes_eq x.now y.now) ks k) ≡ with_text (texts_of ks) bs
with_text-new bs ks k e =
    here (list_any (λ y. bytes_eq k.now y.now) ks) refl
  where
    here : (b : Bool) → b ≡ list_any (λ y. bytes_eq k.now y.now) ks → texts_of (cond b ks (ks ++ k ∷ [])) ≡ with_text (texts_of ks) bs
    here true h = sym (with_text-there bs ks (h ∙ ap (λ t. list_any (λ y. bytes_eq t y.now) ks) e))
    here false h = texts_of-push ks k ∙ ap (λ t. texts_of ks ++ t ∷ []) e
        ∙ ap (λ b. cond b (texts_of ks) (texts_of ks ++ bs ∷ [])) (h ∙ ap (λ t. list_any (λ y. bytes_eq t y.now) ks) e ∙ sym (any_text bs ks))
