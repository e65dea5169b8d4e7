-- Lists in which one is set: how far they were looked through, and what is set then.
use Rattle.std.proofs.lemmas.List.{map-append}
use Rattle.std.proofs.Common.{◌≡◌, ◌∙◌, ap, sym, refl, arith, ℕ, zero, suc, ◌+◌, ◌<◌, ◌≤◌, Bool, true, false, List, [], ◌∷◌, ◌++◌, length, take, drop, map, append_assoc, append-nil, Option, Some, None, slice_set, slice_index_or}
use Rattle.std.specs.List.{AllByRecursion}
use Rattle.std.specs.Option.{IfSome}
use Rattle.lua_strings.specs.LuaMeaningHtmlNodes.{settled, attr_of, item_of, styles_of}
use Rattle.lua_strings.specs.LuaStoreDeclaredIdsTextId.{TextId}
use Rattle.lua_strings.specs.LuaStoreSeen.{StoreView, text_at, seen_pair, seen_style}
use Rattle.lua_strings.specs.LuaStoreParts.{IsTextOf, IsPairOf, IsStyleOf, IsLater}
use Rattle.mw_htmls.specs.Nodes.{text_seen, pair_of, style_of, style_texts}
use Rattle.mw_htmls.specs.Settled.{settled_at, settled_seen}
use Rattle.mw_htmls.proofs.Changed.{all_then}

-- AT A PLACE
pub drop_index : {A : Type 0} (xs : List A) (k : ℕ) (d : A) → k < length xs → drop k xs ≡ slice_index_or xs k d ∷ drop (k + 1) xs
drop_index [] k d lt = absurd (omega (arith, lt))
drop_index (x ∷ xs) zero d lt = refl
drop_index (x ∷ xs) (suc k) d lt = let more : suc (k + 1) ≡ suc k + 1 = omega arith in drop_index xs k d (omega (arith, lt)) ∙ ap (λ n. slice_index_or xs k d ∷ drop n (x ∷ xs)) more

pub set_index : {A : Type 0} (xs : List A) (k : ℕ) (x : A) → k < length xs → slice_set xs k x ≡ take k xs ++ x ∷ drop (k + 1) xs
set_index [] k x lt = absurd (omega (arith, lt))
set_index (y ∷ xs) zero x lt = refl
set_index (y ∷ xs) (suc k) x lt = let more : suc (k + 1) ≡ suc k + 1 = omega arith in ap (λ ys. y ∷ ys) (set_index xs k x (omega (arith, lt))) ∙ ap (λ n. y ∷ (take k xs ++ x ∷ drop n (y ∷ xs))) more

take_suc : {A : Type 0} (xs : List A) (k : ℕ) (x : A) (more : List A) → drop k xs ≡ x ∷ more → take (suc k) xs ≡ take k xs ++ x ∷ []
take_suc [] zero x more e = absurd cc
take_suc [] (suc k) x more e = absurd cc
take_suc (y ∷ xs) zero x more e = let same : y ≡ x = cc in ap (λ z. z ∷ []) same
take_suc (y ∷ xs) (suc k) x more e = ap (λ ys. y ∷ ys) (take_suc xs k x more e)

take_next : {A : Type 0} (xs : List A) (k : ℕ) (x : A) (more : List A) → drop k xs ≡ x ∷ more → take (k + 1) xs ≡ take k xs ++ x ∷ []
take_next xs k x more e = let next : k + 1 ≡ suc k = omega arith in ap (λ n. take n xs) next ∙ take_suc xs k x more e

take_past : {A : Type 0} (xs : List A) (k : ℕ) → length xs ≤ k → take k xs ≡ xs
take_past [] zero h = refl
take_past [] (suc k) h = refl
take_past (x ∷ xs) zero h = absurd (omega (arith, h))
take_past (x ∷ xs) (suc k) h = ap (λ ys. x ∷ ys) (take_past xs k (omega (arith, h)))

drop_past : {A : Type 0} (xs : List A) (k : ℕ) → length xs ≤ k → drop k xs ≡ []
drop_past [] zero h = refl
drop_past [] (suc k) h = refl
drop_past (x ∷ xs) zero h = absurd (omega (arith, h))
drop_past (x ∷ xs) (suc k) h = drop_past xs k (omega (arith, h))

-- WHERE THE FIRST ONE STANDS for which a test holds: those before a place were passed over
module _ {A B : Type 0} (f : A → B) (test : B → Bool) (xs : List A) where
  abbrev pub Passed : ℕ → Type 0
  Passed k = (new : List B) → settled test new (map f xs) ≡ map f (take k xs) ++ settled test new (map f (drop k xs))

  pub passed_on : (k : ℕ) (x : A) → drop k xs ≡ x ∷ drop (k + 1) xs → test (f x) ≡ false → Passed k → Passed (k + 1)
  passed_on k x is no_ e = λ new.
      let rest = settled test new (map f (drop (k + 1) xs)) in
      let one : settled test new (map f (x ∷ drop (k + 1) xs)) ≡ f x ∷ rest = rw no_ refl in
      let front : map f (take (k + 1) xs) ≡ map f (take k xs) ++ f x ∷ [] = ap (map f) (take_next xs k x (drop (k + 1) xs) is) ∙ map-append f (take k xs) (x ∷ []) in
      e new ∙ ap (λ ys. map f (take k xs) ++ settled test new (map f ys)) is ∙ ap (λ ys. map f (take k xs) ++ ys) one
      ∙ sym (append_assoc (map f (take k xs)) (f x ∷ []) rest) ∙ ap (λ ys. ys ++ rest) (sym front)

  pub found_there : (k : ℕ) (x : A) → drop k xs ≡ x ∷ drop (k + 1) xs → test (f x) ≡ true → Passed k → (new : List B) → settled test new (map f xs) ≡ settled_seen f (Some k) new xs
  found_there k x is yes_ e = λ new.
      let here : settled test new (map f (x ∷ drop (k + 1) xs)) ≡ new ++ map f (drop (k + 1) xs) = rw yes_ refl in
      e new ∙ ap (λ ys. map f (take k xs) ++ settled test new (map f ys)) is ∙ ap (λ ys. map f (take k xs) ++ ys) here

  pub found_nowhere : (k : ℕ) → length xs ≤ k → Passed k → (new : List B) → settled test new (map f xs) ≡ settled_seen f None new xs
  found_nowhere k end e = λ new.
      e new ∙ ap (λ ys. map f ys ++ settled test new (map f (drop k xs))) (take_past xs k end) ∙ ap (λ ys. map f xs ++ settled test new (map f ys)) (drop_past xs k end)

pub seen_settled : {A B : Type 0} (f : A → B) (place : Option ℕ) (new xs : List A) → map f (settled_at place new xs) ≡ settled_seen f place (map f new) xs
seen_settled f (Some k) new xs = map-append f (take k xs) (new ++ drop (k + 1) xs) ∙ ap (λ ys. map f (take k xs) ++ ys) (map-append f new (drop (k + 1) xs))
seen_settled f None new xs = map-append f xs new

all_taken : {A : Type 0} (P : A → Type 0) (k : ℕ) (xs : List A) → AllByRecursion P xs → AllByRecursion P (take k xs)
all_taken P zero xs all = tt
all_taken P (suc k) [] all = tt
all_taken P (suc k) (x ∷ xs) all = (all.0, all_taken P k xs all.1)

pub all_dropped : {A : Type 0} (P : A → Type 0) (k : ℕ) (xs : List A) → AllByRecursion P xs → AllByRecursion P (drop k xs)
all_dropped P zero xs all = all
all_dropped P (suc k) [] all = tt
all_dropped P (suc k) (x ∷ xs) all = all_dropped P k xs all.1

pub all_settled : {A : Type 0} (P : A → Type 0) (place : Option ℕ) (new xs : List A) → AllByRecursion P new → AllByRecursion P xs → AllByRecursion P (settled_at place new xs)
all_settled P (Some k) new xs some all = all_then P (take k xs) (new ++ drop (k + 1) xs) (all_taken P k xs all) (all_then P new (drop (k + 1) xs) some (all_dropped P (k + 1) xs all))
all_settled P None new xs some all = all_then P xs new all some

-- WHAT IS SET, as it is seen
pub pair_seen : (texts : List (List ℕ)) (name : TextId) (value : Option TextId) → map (seen_pair texts) (pair_of name value) ≡ attr_of (text_at texts name.at) (text_seen texts value)
pair_seen texts name (Some value) = refl
pair_seen texts name None = refl

pub style_seen : (texts : List (List ℕ)) (name : TextId) (value : Option TextId) → map (seen_style texts) (style_of name value) ≡ item_of (text_at texts name.at) (text_seen texts value)
style_seen texts name (Some value) = refl
style_seen texts name None = refl

pub pair_of_is : (s : StoreView) (name : TextId) (value : Option TextId) → IsTextOf s name → IfSome value (IsTextOf s) → AllByRecursion (IsPairOf s) (pair_of name value)
pair_of_is s name (Some value) of is = ((of, is), tt)
pair_of_is s name None of is = tt

pub style_of_is : (s : StoreView) (name : TextId) (value : Option TextId) → IsTextOf s name → IfSome value (IsTextOf s) → AllByRecursion (IsStyleOf s) (style_of name value)
style_of_is s name (Some value) of is = ((of, is), tt)
style_of_is s name None of is = tt

-- a text of styles alone
pub one_text_seen : (texts : List (List ℕ)) (text : Option TextId) → map (seen_style texts) (style_texts text) ≡ styles_of (text_seen texts text)
one_text_seen texts (Some id) = refl
one_text_seen texts None = refl

pub one_text_is : (s : StoreView) (text : Option TextId) → IfSome text (IsTextOf s) → AllByRecursion (IsStyleOf s) (style_texts text)
one_text_is s (Some id) of = (of, tt)
one_text_is s None of = tt

-- a value in a later store
pub value_later : (s t : StoreView) → IsLater s t → (value : Option TextId) → IfSome value (IsTextOf s) → IfSome value (IsTextOf t)
value_later s t l (Some id) of = let le = l.texts.length_ in omega (arith, of, le)
value_later s t l None of = tt
