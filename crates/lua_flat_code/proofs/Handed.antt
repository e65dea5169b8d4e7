-- Lists: an item and those behind it, and what is put in front.
use Rattle.std.proofs.Common.{◌≡◌, ◌∙◌, ◌≤◌, ◌<◌, ◌-◌, ℕ, suc, ◌+◌, List, [], ◌∷◌, ◌++◌, length, drop, get_or, refl, sym, ap, subst, arith}
use Rattle.std.proofs.lemmas.List.{drop_more, drop_all, length-drop}

-- LISTS
pub next_item : {A : Type 0} (xs : List A) (i : ℕ) (x : A) → x ≡ get_or xs i x → i < length xs → drop i xs ≡ x ∷ drop (i + 1) xs
next_item xs i x e h = drop_more xs i x h ∙ ap (λ y. y ∷ drop (i + 1) xs) (sym e)

pub nil_behind : {A : Type 0} (xs : List A) → xs ++ [] ≡ xs
nil_behind [] = refl
nil_behind (x ∷ xs) = ap (λ l. x ∷ l) (nil_behind xs)

pub joined_lists : {A : Type 0} (xs ys zs : List A) → (xs ++ ys) ++ zs ≡ xs ++ (ys ++ zs)
joined_lists [] ys zs = refl
joined_lists (x ∷ xs) ys zs = ap (λ l. x ∷ l) (joined_lists xs ys zs)

pub dropped : {A : Type 0} (xs ys : List A) → drop (length xs) (xs ++ ys) ≡ ys
dropped [] ys = refl
dropped (x ∷ xs) ys = dropped xs ys

pub length_joined : {A : Type 0} (xs ys : List A) → length (xs ++ ys) ≡ length xs + length ys
length_joined [] ys = omega arith
length_joined (x ∷ xs) ys = ap suc (length_joined xs ys) ∙ omega arith

-- what was put in front is taken off again
pub taken_off : {A : Type 0} (all front back : List A) (n : ℕ) → all ≡ front ++ back → n ≡ length back → drop (length all - n) all ≡ back
taken_off all front back n is counted =
    let many : length (front ++ back) ≡ length front + length back = length_joined front back in
    let left : length (front ++ back) - n ≡ length front = omega (arith, many, counted) in
    subst (λ xs. drop (length xs - n) xs ≡ back) (sym is) (ap (λ k. drop k (front ++ back)) left ∙ dropped front back)

-- a list of one item
pub only_one : {A : Type 0} (xs : List A) (x : A) → length xs ≡ 1 → x ≡ get_or xs 0 x → xs ≡ x ∷ []
only_one [] x many is = cc
only_one (y ∷ []) x many is = ap (λ z. z ∷ []) (sym is)
only_one (y ∷ z ∷ xs) x many is = absurd (not_one many)
  where
    not_one : suc (suc (length xs)) ≡ 1 → ⊥
    not_one e = omega (arith, e)

pub some_behind : {A : Type 0} (xs : List A) (x : A) → 1 ≤ length (xs ++ x ∷ [])
some_behind [] x = omega arith
some_behind (y ∷ xs) x = let h : 1 ≤ length (xs ++ x ∷ []) = some_behind xs x in omega (arith, h)

pub nothing_left : {A : Type 0} (xs : List A) → length xs ≡ 0 → xs ≡ []
nothing_left [] none = refl
nothing_left (x ∷ xs) none = absurd (not_none none)
  where
    not_none : suc (length xs) ≡ 0 → ⊥
    not_none e = omega (arith, e)

-- a list of which so many are left from a place on
pub left_behind : {A : Type 0} (xs : List A) (i n : ℕ) → n + i ≡ length xs → length (drop i xs) ≡ n
left_behind xs i n is = let many : length (drop i xs) ≡ length xs - i = length-drop i xs in omega (arith, many, is)

pub none_left : {A : Type 0} (xs : List A) (i n : ℕ) → n + i ≡ length xs → n ≡ 0 → drop i xs ≡ []
none_left xs i n is none = drop_all i xs (omega (arith, is, none))
