-- Entries whose keys are the numbers from 1 on, in front of others.
use Rattle.std.proofs.Common.{◌≡◌, ◌≢◌, Bool, true, false, sym, ◌∙◌, cond, List, [], ◌∷◌, ◌++◌, Option, Some, None, refl, ap, arith, ℕ, ℤ, pos, zero, suc, ◌+◌, ◌<◌, ◌≤◌, length, drop, slice_get, set, subst, add-one, position, get_or, is_some}
use Rattle.std.proofs.lemmas.List.Quantifiers.{position-Some}
use Rattle.std.proofs.lemmas.Option.{none-some}
use Rattle.std.specs.Cmp.{IsEquivalence}
use Rattle.std.specs.Map.{lookup, keys_of}
use Rattle.indexmap.specs.IndexMap.{insert_entry}
use Rattle.lua_table.specs.Entries.{after_key, first_live}
use Rattle.lua_table.specs.Front.{numbered}

pub not_true : (b : Bool) → (b ≡ true → ⊥) → b ≡ false
not_true true h = absurd (h refl)
not_true false h = refl

pub drop_there : {A : Type 0} (xs : List A) (n : ℕ) (x : A) → slice_get xs n ≡ Some x → drop n xs ≡ x ∷ drop (suc n) xs
drop_there [] zero x h = cc
drop_there [] (suc n) x h = cc
drop_there (y ∷ xs) zero x h = let same : y ≡ x = cc in ap (λ z. z ∷ xs) same
drop_there (y ∷ xs) (suc n) x h = drop_there xs n x h

length-zero : {A : Type 0} (xs : List A) → length xs ≡ 0 → xs ≡ []
length-zero [] h = refl
length-zero (x ∷ xs) h = absurd (omega arith)

append_nil : {A : Type 0} (xs : List A) → xs ++ [] ≡ xs
append_nil [] = refl
append_nil (x ∷ xs) = ap (λ r. x ∷ r) (append_nil xs)

pos_same : (m n : ℕ) → Some (pos m) ≡ Some (pos n) → m ≡ n
pos_same m n h = cc

module _ {V : Type 0} (eq : V → V → Bool) (number : ℤ → V) (same : (a b : V) → eq a b ≡ true → a ≡ b) where
  -- keys of different numbers are not equal
  pub number_apart : (whole : V → Option ℤ) → ((n : ℤ) → whole (number n) ≡ Some n) → (m n : ℕ) → (m ≡ n → ⊥) → eq (number (pos m)) (number (pos n)) ≡ false
  number_apart whole back m n differ =
      not_true _ (λ h. differ (pos_same m n (sym (back (pos m)) ∙ ap whole (same (number (pos m)) (number (pos n)) h) ∙ back (pos n))))

  -- a key that is none of the numbers up to a count is equal to none of them
  pub past_from : (key : V) (count : ℕ) (vs : List V) → count ≡ length vs → ((n : ℕ) → 0 < n → n ≤ count → key ≢ number (pos n))
      → (n : ℕ) → 0 < n → n ≤ 0 + length vs → eq key (number (pos n)) ≡ false
  past_from key count vs is absent n low high = not_true _ (λ h. absent n low (omega arith) (same key (number (pos n)) h))

-- one more value at the end of the front
module _ {V : Type 0} (number : ℤ → V) where
  pub numbered-push : (before n : ℕ) (vs : List V) (w : V) → n ≡ before + length vs + 1 → numbered number before (vs ++ w ∷ []) ≡ numbered number before vs ++ (number (pos n), w) ∷ []
  numbered-push before n [] w is = let first : before + 1 ≡ n = omega arith in ap (λ m. (number (pos m), w) ∷ []) first
  numbered-push before n (v ∷ vs) w is =
      let on : n ≡ before + 1 + length vs + 1 = omega arith in
      ap (λ r. (number (pos (before + 1)), v) ∷ r) (numbered-push (before + 1) n vs w on)

-- a key of the front
module _ {V : Type 0} (eq : V → V → Bool) (number : ℤ → V)
    (laws : IsEquivalence eq) (same : (a b : V) → eq a b ≡ true → a ≡ b) (whole : V → Option ℤ) (back : (n : ℤ) → whole (number n) ≡ Some n) where
  hit : (n m : ℕ) → n ≡ m → eq (number (pos n)) (number (pos m)) ≡ true
  hit n m is = let P : ℕ → Type 0 = λ k. eq (number (pos n)) (number (pos k)) ≡ true in subst P is (laws.refl (number (pos n)))

  pub lookup-here : (before at n : ℕ) (vs : List V) (es : List (V × V)) (v : V) → n ≡ before + at + 1 → slice_get vs at ≡ Some v
      → lookup (eq (number (pos n))) (numbered number before vs ++ es) ≡ Some v
  lookup-here before zero n [] es v is h = cc
  lookup-here before (suc at) n [] es v is h = cc
  lookup-here before zero n (x ∷ vs) es v is h =
      let found : eq (number (pos n)) (number (pos (before + 1))) ≡ true = hit n (before + 1) (omega arith) in
      rw found h
  lookup-here before (suc at) n (x ∷ vs) es v is h =
      let missed : eq (number (pos n)) (number (pos (before + 1))) ≡ false = number_apart eq number same whole back n (before + 1) (λ e. omega arith) in
      rw missed (lookup-here (before + 1) at n vs es v (omega arith) h)

  pub insert-here : (before at n : ℕ) (vs : List V) (es : List (V × V)) (w : V) → n ≡ before + at + 1 → at < length vs
      → insert_entry eq (numbered number before vs ++ es) (number (pos n)) w ≡ numbered number before (set vs at w) ++ es
  insert-here before at n [] es w is h = absurd (omega arith)
  insert-here before zero n (x ∷ vs) es w is h =
      let found : eq (number (pos n)) (number (pos (before + 1))) ≡ true = hit n (before + 1) (omega arith) in
      rw found refl
  insert-here before (suc at) n (x ∷ vs) es w is h =
      let missed : eq (number (pos n)) (number (pos (before + 1))) ≡ false = number_apart eq number same whole back n (before + 1) (λ e. omega arith) in
      rw missed (ap (λ r. (number (pos (before + 1)), x) ∷ r) (insert-here (before + 1) at n vs es w (omega arith) (omega arith)))

  after-place : (nil : V) (before at n : ℕ) (vs : List V) (es : List (V × V)) → n ≡ before + at + 1 → at < length vs
      → after_key eq nil (numbered number before vs ++ es) (number (pos n)) ≡ Some (numbered number n (drop (suc at) vs) ++ es)
  after-place nil before at n [] es is h = absurd (omega arith)
  after-place nil before zero n (x ∷ vs) es is h =
      let found : eq (number (pos n)) (number (pos (before + 1))) ≡ true = hit n (before + 1) (omega arith) in
      let first : before + 1 ≡ n = omega arith in
      rw found (ap (λ m. Some (numbered number m vs ++ es)) first)
  after-place nil before (suc at) n (x ∷ vs) es is h =
      let missed : eq (number (pos n)) (number (pos (before + 1))) ≡ false = number_apart eq number same whole back n (before + 1) (λ e. omega arith) in
      rw missed (after-place nil (before + 1) at n vs es (omega arith) (omega arith))

  pub after-here : (nil : V) (at n : ℕ) (vs : List V) (es : List (V × V)) → n ≡ at + 1 → at < length vs
      → after_key eq nil (numbered number 0 vs ++ es) (number (pos n)) ≡ Some (numbered number n (drop n vs) ++ es)
  after-here nil at n vs es is h =
      let next : suc at ≡ n = omega arith in
      after-place nil 0 at n vs es (omega arith) h ∙ ap (λ m. Some (numbered number n (drop m vs) ++ es)) next

-- another key
module _ {V : Type 0} (eq : V → V → Bool) (number : ℤ → V) (key : V) where
  pub lookup-past : (before : ℕ) (vs : List V) (es : List (V × V)) → ((n : ℕ) → before < n → n ≤ before + length vs → eq key (number (pos n)) ≡ false)
      → lookup (eq key) (numbered number before vs ++ es) ≡ lookup (eq key) es
  lookup-past before [] es h = refl
  lookup-past before (x ∷ vs) es h =
      let missed : eq key (number (pos (before + 1))) ≡ false = h (before + 1) (omega arith) (omega arith) in
      rw missed (lookup-past (before + 1) vs es (λ n low high. h n (omega arith) (omega arith)))

  pub insert-past : (before : ℕ) (vs : List V) (es : List (V × V)) (w : V) → ((n : ℕ) → before < n → n ≤ before + length vs → eq key (number (pos n)) ≡ false)
      → insert_entry eq (numbered number before vs ++ es) key w ≡ numbered number before vs ++ insert_entry eq es key w
  insert-past before [] es w h = refl
  insert-past before (x ∷ vs) es w h =
      let missed : eq key (number (pos (before + 1))) ≡ false = h (before + 1) (omega arith) (omega arith) in
      rw missed (ap (λ r. (number (pos (before + 1)), x) ∷ r) (insert-past (before + 1) vs es w (λ n low high. h n (omega arith) (omega arith))))

  pub after-past : (nil : V) (before : ℕ) (vs : List V) (es : List (V × V)) → ((n : ℕ) → before < n → n ≤ before + length vs → eq key (number (pos n)) ≡ false)
      → after_key eq nil (numbered number before vs ++ es) key ≡ after_key eq nil es key
  after-past nil before [] es h = refl
  after-past nil before (x ∷ vs) es h =
      let missed : eq key (number (pos (before + 1))) ≡ false = h (before + 1) (omega arith) (omega arith) in
      rw missed (after-past nil (before + 1) vs es (λ n low high. h n (omega arith) (omega arith)))

  -- a new key at the end of the front, and one at the end of the others
  module _ (vs : List V) (es : List (V × V)) (past : (n : ℕ) → 0 < n → n ≤ 0 + length vs → eq key (number (pos n)) ≡ false) where
    pub put-front : (ws : List V) (value : V) → length es ≡ 0 → ws ≡ vs ++ value ∷ [] → key ≡ number (pos (length vs + 1))
        → numbered number 0 ws ++ es ≡ insert_entry eq (numbered number 0 vs ++ es) key value
    put-front ws value none pushed named =
        let empty : es ≡ [] = length-zero es none in
        let added : numbered number 0 ws ≡ numbered number 0 vs ++ (key, value) ∷ [] =
        ap (numbered number 0) pushed ∙ numbered-push number 0 (length vs + 1) vs value (omega arith) ∙ ap (λ k. numbered number 0 vs ++ (k, value) ∷ []) (sym named) in
        ap (λ r. numbered number 0 ws ++ r) empty ∙ append_nil (numbered number 0 ws) ∙ added
        ∙ sym (insert-past 0 vs es value past ∙ ap (λ r. numbered number 0 vs ++ insert_entry eq r key value) empty)

    pub put-rest : (fs : List (V × V)) (value : V) → fs ≡ insert_entry eq es key value → numbered number 0 vs ++ fs ≡ insert_entry eq (numbered number 0 vs ++ es) key value
    put-rest fs value put = ap (λ r. numbered number 0 vs ++ r) put ∙ sym (insert-past 0 vs es value past)

    pub absent-past : lookup (eq key) es ≡ None → lookup (eq key) (numbered number 0 vs ++ es) ≡ None
    absent-past none = lookup-past 0 vs es past ∙ none

    pub absent-empty : length es ≡ 0 → lookup (eq key) (numbered number 0 vs ++ es) ≡ None
    absent-empty none = lookup-past 0 vs es past ∙ ap (lookup (eq key)) (length-zero es none)

-- the place of a key in the list of keys, and what comes after it
module _ {V : Type 0} (eq : V → V → Bool) (nil key : V) where
  after-first : (es : List (V × V)) (i : ℕ) (d : V) → i < length (keys_of es) → eq key (get_or (keys_of es) i d) ≡ true
      → ((k : ℕ) → k < i → eq key (get_or (keys_of es) k d) ≡ false) → after_key eq nil es key ≡ Some (drop (suc i) es)
  after-first [] i d within found before = absurd (omega arith)
  after-first (e ∷ es) zero d within found before = let here : eq key e.0 ≡ true = found in rw here refl
  after-first (e ∷ es) (suc i) d within found before =
      let missed : eq key e.0 ≡ false = before 0 (omega arith) in
      rw missed (after-first es i d (omega arith) found (λ k low. before (suc k) (omega arith)))

  pub after-found : (es : List (V × V)) (i : ℕ) → position (eq key) (keys_of es) ≡ Some i → after_key eq nil es key ≡ Some (drop (i + 1) es)
  after-found es i h =
      let place = position-Some (eq key) (keys_of es) i key h in
      after-first es i key place.0 place.1 place.2 ∙ ap (λ m. Some (drop m es)) (sym (add-one i))

  pub after-absent : (es : List (V × V)) → is_some (lookup (eq key) es) ≡ false → after_key eq nil es key ≡ None
  after-absent [] h = refl
  after-absent (e ∷ es) h =
      (elim (eq key e.0) as (λ b. is_some (cond b (Some e.1) (lookup (eq key) es)) ≡ false → cond b (Some es) (after_key eq nil es key) ≡ None)
      [ true ↦ (λ f. cc) | false ↦ (λ f. after-absent es f) ]) h

-- the first entry that is not cleared, where the entry e stands in front of others
module _ {V : Type 0} (eq : V → V → Bool) (nil : V) where
  live_here : (e : V × V) (es : List (V × V)) → false ≡ eq e.1 nil → first_live eq nil (e ∷ es) ≡ record { key = e.0; value = e.1; passed = 0 }
  live_here e es live =
      let P : Bool → Type 0 = λ b. cond b (let s = first_live eq nil es in record s { passed = s.passed + 1 }) (record { key = e.0; value = e.1; passed = 0 }) ≡ record { key = e.0; value = e.1; passed = 0 } in
      subst P live refl

  live_passed : (e : V × V) (es : List (V × V)) → true ≡ eq e.1 nil → first_live eq nil (e ∷ es) ≡ (let s = first_live eq nil es in record s { passed = s.passed + 1 })
  live_passed e es cleared =
      let P : Bool → Type 0 = λ b. cond b (let s = first_live eq nil es in record s { passed = s.passed + 1 }) (record { key = e.0; value = e.1; passed = 0 }) ≡ (let s = first_live eq nil es in record s { passed = s.passed + 1 }) in
      subst P cleared refl

  -- what is found from a place of the list on
  pub lookup_met : (p : V → Bool) (es : List (V × V)) (at : ℕ) (e : V × V) → slice_get es at ≡ Some e → true ≡ p e.0 → lookup p (drop at es) ≡ Some e.1
  lookup_met p es at e there met = ap (lookup p) (drop_there es at e there) ∙ ap (λ b. cond b (Some e.1) (lookup p (drop (suc at) es))) (sym met)

  pub lookup_passed : (p : V → Bool) (es : List (V × V)) (at : ℕ) (e : V × V) → slice_get es at ≡ Some e → false ≡ p e.0 → lookup p (drop at es) ≡ lookup p (drop (at + 1) es)
  lookup_passed p es at e there other =
      ap (lookup p) (drop_there es at e there) ∙ ap (λ b. cond b (Some e.1) (lookup p (drop (suc at) es))) (sym other) ∙ ap (λ m. lookup p (drop m es)) (sym (add-one at))

  -- at a place of the list
  pub live_at : (es : List (V × V)) (at : ℕ) (e : V × V) → slice_get es at ≡ Some e → false ≡ eq e.1 nil
      → first_live eq nil (drop at es) ≡ record { key = e.0; value = e.1; passed = 0 }
  live_at es at e there live = ap (first_live eq nil) (drop_there es at e there) ∙ live_here e (drop (suc at) es) live

  pub passed_at : (es : List (V × V)) (at : ℕ) (e : V × V) → slice_get es at ≡ Some e → true ≡ eq e.1 nil
      → first_live eq nil (drop at es) ≡ (let s = first_live eq nil (drop (at + 1) es) in record s { passed = s.passed + 1 })
  passed_at es at e there cleared =
      ap (first_live eq nil) (drop_there es at e there) ∙ live_passed e (drop (suc at) es) cleared
      ∙ ap (λ m. let s = first_live eq nil (drop m es) in record s { passed = s.passed + 1 }) (sym (add-one at))

  -- at a place of the front
  module _ (number : ℤ → V) where
    numbered-drop : (vs : List V) (es : List (V × V)) (at : ℕ) (v : V) → slice_get vs at ≡ Some v
        → numbered number at (drop at vs) ++ es ≡ (number (pos (at + 1)), v) ∷ (numbered number (at + 1) (drop (at + 1) vs) ++ es)
    numbered-drop vs es at v there =
        ap (λ ws. numbered number at ws ++ es) (drop_there vs at v there)
        ∙ ap (λ m. (number (pos (at + 1)), v) ∷ (numbered number (at + 1) (drop m vs) ++ es)) (sym (add-one at))

    pub live_number : (vs : List V) (es : List (V × V)) (at : ℕ) (v : V) → slice_get vs at ≡ Some v → false ≡ eq v nil
        → first_live eq nil (numbered number at (drop at vs) ++ es) ≡ record { key = number (pos (at + 1)); value = v; passed = 0 }
    live_number vs es at v there live =
        ap (first_live eq nil) (numbered-drop vs es at v there) ∙ live_here (number (pos (at + 1)), v) (numbered number (at + 1) (drop (at + 1) vs) ++ es) live

    pub passed_number : (vs : List V) (es : List (V × V)) (at : ℕ) (v : V) → slice_get vs at ≡ Some v → true ≡ eq v nil
        → first_live eq nil (numbered number at (drop at vs) ++ es) ≡ (let s = first_live eq nil (numbered number (at + 1) (drop (at + 1) vs) ++ es) in record s { passed = s.passed + 1 })
    passed_number vs es at v there cleared =
        ap (first_live eq nil) (numbered-drop vs es at v there) ∙ live_passed (number (pos (at + 1)), v) (numbered number (at + 1) (drop (at + 1) vs) ++ es) cleared

abbrev or_this : {V : Type 0} → Option V → V → V
or_this (Some x) w = x
or_this None w = w

-- the entry at a place
pub at_front : {V : Type 0} (number : ℤ → V) (before place n : ℕ) (vs : List V) (es : List (V × V)) (v : V) → n ≡ before + place + 1 → slice_get vs place ≡ Some v
    → slice_get (numbered number before vs ++ es) place ≡ Some (number (pos n), v)
at_front number before place n [] es v e h = absurd (none-some v h)
at_front number before zero n (w ∷ vs) es v e h =
    let same : before + 1 ≡ n = omega (arith, e) in ap (λ m. Some (number (pos m), w)) same ∙ ap (λ x. Some (number (pos n), x)) (ap (λ o. or_this o w) h)
at_front number before (suc place) n (w ∷ vs) es v e h = at_front number (before + 1) place n vs es v (omega (arith, e)) h

pub at_rest : {V : Type 0} (number : ℤ → V) (before place later : ℕ) (vs : List V) (es : List (V × V)) → place ≡ length vs + later
    → slice_get (numbered number before vs ++ es) place ≡ slice_get es later
at_rest number before place later [] es e = let same : place ≡ later = omega (arith, e) in ap (slice_get es) same
at_rest number before zero later (v ∷ vs) es e = absurd (omega (arith, e))
at_rest number before (suc place) later (v ∷ vs) es e = at_rest number (before + 1) place later vs es (omega (arith, e))

pub past_end : {A : Type 0} (xs : List A) (n : ℕ) → length xs ≤ n → slice_get xs n ≡ None
past_end [] n h = refl
past_end (x ∷ xs) zero h = absurd (omega (arith, h))
past_end (x ∷ xs) (suc n) h = past_end xs n (omega (arith, h))
