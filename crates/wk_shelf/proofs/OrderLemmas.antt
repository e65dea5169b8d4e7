-- A sort gives the texts in byte order: two lists that rise and hold the same texts are the same.
use Rattle.std.proofs.Common.{◌≡◌, ℕ, ◌+◌, Bool, true, false, cond, List, [], ◌∷◌, map, get_or, suc, sum_by, refl, sym, ◌∙◌, ap, subst, arith, string_bytes, String, Global}
use Rattle.std.specs.List.{AllByRecursion}
use Rattle.std.specs.List.Sorted.{IsPermutation, IsSorted}
use Rattle.std.specs.declared.cmp.Ordering.{Ordering}
use Rattle.std.specs.declared.cmp.Ordering.TheVariants.{Less, Equal, Greater}
use Rattle.std.specs.Ordering.{nat_cmp, is_le, is_gt, is_lt, ordering_reverse}
use Rattle.std.specs.Str.{bytes_eq}
use Rattle.std.specs.Cmp.{upto, tied_itself}
use Rattle.std.specs.Cmp.Lexicographic.{slice_cmp, nat_list_cmp_total, texts_ties, same_text}
use Rattle.std.specs.String.{string_cmp}
use Rattle.std.proofs.lemmas.List.Sums.{sum_by-cons}
use Rattle.std.proofs.lemmas.List.Sorted.{IsPermutation-map, sum_by-IsPermutation}
use Rattle.std.specs.Prelude.{Option, Some, None, IfSome}
use Rattle.wk_shelf.specs.Files.{StoredFile, Lists, names_in}
use Rattle.wk_shelf.specs.Order.{text_le, put_in_order, in_byte_order}

abbrev compared : List ℕ → List ℕ → Ordering
compared = slice_cmp nat_cmp

-- ---- the order of texts

not_greater : (r : Ordering) → is_le r ≡ true → is_gt r ≡ false
not_greater Less h = refl
not_greater Equal h = refl
not_greater Greater h = cc

at_most : (r : Ordering) → is_gt r ≡ false → is_le r ≡ true
at_most Less h = refl
at_most Equal h = refl
at_most Greater h = cc

turned : (r s : Ordering) → s ≡ ordering_reverse r → is_le r ≡ false → is_le s ≡ true
turned Less s e h = cc
turned Equal s e h = cc
turned Greater s e h = rw e refl

tied : (r s : Ordering) → s ≡ ordering_reverse r → is_le r ≡ true → is_le s ≡ true → r ≡ Equal
tied Less s e h k = let gone : is_le s ≡ false = rw e refl in cc
tied Equal s e h k = refl
tied Greater s e h k = cc

pub le_refl : (x : List ℕ) → text_le x x ≡ true
le_refl x = ap is_le (tied_itself nat_list_cmp_total x)

le_trans : (x y z : List ℕ) → text_le x y ≡ true → text_le y z ≡ true → text_le x z ≡ true
le_trans x y z p q = at_most _ (upto nat_list_cmp_total x y z (not_greater _ p) (not_greater _ q))

le_other : (x y : List ℕ) → text_le x y ≡ false → text_le y x ≡ true
le_other x y h = turned (compared x y) (compared y x) (nat_list_cmp_total.antisymm y x) h

le_both : (x y : List ℕ) → text_le x y ≡ true → text_le y x ≡ true → x ≡ y
le_both x y h k =
    let even : compared x y ≡ Equal = tied (compared x y) (compared y x) (nat_list_cmp_total.antisymm y x) h k in
    same_text x y (sym (texts_ties x y ∙ rw even refl))

-- ---- lists that rise

abbrev AllFrom : List ℕ → List (List ℕ) → Type 0
AllFrom x xs = AllByRecursion (λ y. text_le x y ≡ true) xs

abbrev Rises : List (List ℕ) → Type 0
Rises [] = Unit {0}
Rises (x ∷ xs) = AllFrom x xs × Rises xs

from_lower : (x y : List ℕ) (zs : List (List ℕ)) → text_le x y ≡ true → AllFrom y zs → AllFrom x zs
from_lower x y [] h all = tt
from_lower x y (z ∷ zs) h all = (le_trans x y z h all.0, from_lower x y zs h all.1)

AllFrom-put : (x y : List ℕ) (zs : List (List ℕ)) → text_le x y ≡ true → AllFrom x zs → AllFrom x (put_in_order y zs)
AllFrom-put x y [] h all = (h, tt)
AllFrom-put x y (z ∷ zs) h all =
    elim (text_le y z) as (λ b. AllFrom x (cond b (y ∷ z ∷ zs) (z ∷ put_in_order y zs))) [
      | true ↦ (h, all)
      | false ↦ (all.0, AllFrom-put x y zs h all.1)
    ]

Rises-put_at : (x u : List ℕ) (us : List (List ℕ)) (b : Bool) → text_le x u ≡ b → Rises (u ∷ us) → Rises (put_in_order x us) → Rises (cond b (x ∷ u ∷ us) (u ∷ put_in_order x us))
Rises-put_at x u us true e h k = ((e, from_lower x u us e h.0), h)
Rises-put_at x u us false e h k = (AllFrom-put u x us (le_other x u e) h.0, k)

Rises-put : (x : List ℕ) (us : List (List ℕ)) → Rises us → Rises (put_in_order x us)
Rises-put x [] h = (tt, tt)
Rises-put x (u ∷ us) h = Rises-put_at x u us (text_le x u) refl h (Rises-put x us h.1)

Rises-in_byte_order : (ts : List (List ℕ)) → Rises (in_byte_order ts)
Rises-in_byte_order [] = tt
Rises-in_byte_order (t ∷ ts) = Rises-put t (in_byte_order ts) (Rises-in_byte_order ts)

-- ---- how often a text stands in a list

abbrev one_if : Bool → ℕ
one_if true = 1
one_if false = 0

abbrev one_at : List ℕ → List ℕ → ℕ
one_at t x = one_if (bytes_eq t x)

abbrev times : List ℕ → List (List ℕ) → ℕ
times t [] = 0
times t (x ∷ xs) = one_at t x + times t xs

times-sum_by : (t : List ℕ) (xs : List (List ℕ)) → times t xs ≡ sum_by (one_at t) xs
times-sum_by t [] = refl
times-sum_by t (x ∷ xs) = ap (λ n. one_at t x + n) (times-sum_by t xs) ∙ sym (sum_by-cons (one_at t) x xs)

times-IsPermutation : (t : List ℕ) (xs ys : List (List ℕ)) → IsPermutation xs ys → times t ys ≡ times t xs
times-IsPermutation t xs ys h = times-sum_by t ys ∙ sum_by-IsPermutation (one_at t) xs ys h ∙ sym (times-sum_by t xs)

times-put : (t x : List ℕ) (us : List (List ℕ)) → times t (put_in_order x us) ≡ one_at t x + times t us
times-put t x [] = refl
times-put t x (u ∷ us) =
    elim (text_le x u) as (λ b. times t (cond b (x ∷ u ∷ us) (u ∷ put_in_order x us)) ≡ one_at t x + (one_at t u + times t us)) [
      | true ↦ refl
      | false ↦ let rest : times t (put_in_order x us) ≡ one_at t x + times t us = times-put t x us in omega arith
    ]

times-in_byte_order : (t : List ℕ) (ts : List (List ℕ)) → times t (in_byte_order ts) ≡ times t ts
times-in_byte_order t [] = refl
times-in_byte_order t (u ∷ us) = times-put t u (in_byte_order us) ∙ ap (λ n. one_at t u + n) (times-in_byte_order t us)

one_at_itself : (t : List ℕ) → one_at t t ≡ 1
one_at_itself t = let same : bytes_eq t t ≡ true = texts_ties t t ∙ rw (tied_itself nat_list_cmp_total t) refl in rw same refl

not_at : (a b y : List ℕ) (same : Bool) → bytes_eq b y ≡ same → text_le a b ≡ false → text_le a y ≡ true → one_if same ≡ 0
not_at a b y true e h k = let moved : text_le a b ≡ true = subst (λ t. text_le a t ≡ true) (sym (same_text b y (sym e))) k in cc
not_at a b y false e h k = refl

absent : (a b : List ℕ) (xs : List (List ℕ)) → text_le a b ≡ false → AllFrom a xs → times b xs ≡ 0
absent a b [] h all = refl
absent a b (x ∷ xs) h all =
    let here : one_at b x ≡ 0 = not_at a b x (bytes_eq b x) refl h all.0 in
    let rest : times b xs ≡ 0 = absent a b xs h all.1 in
    omega arith

-- a text below all of a list that holds it is not there
lowest : (a b : List ℕ) (us vs : List (List ℕ)) → Rises (a ∷ us) → times b (a ∷ us) ≡ times b (b ∷ vs) → text_le a b ≡ false → ⊥
lowest a b us vs h e k =
    let none : times b (a ∷ us) ≡ 0 = absent a b (a ∷ us) k (le_refl a, h.0) in
    let same : times b (a ∷ us) ≡ one_at b b + times b vs = e in
    let some : one_at b b ≡ 1 = one_at_itself b in
    omega arith

unique_at : (a b : List ℕ) (us vs : List (List ℕ)) (p q : Bool) → text_le a b ≡ p → text_le b a ≡ q → Rises (a ∷ us) → Rises (b ∷ vs) → ((t : List ℕ) → times t (a ∷ us) ≡ times t (b ∷ vs)) → a ≡ b
unique_at a b us vs true true e f h k same = le_both a b e f
unique_at a b us vs true false e f h k same = absurd (lowest b a vs us k (sym (same a)) f)
unique_at a b us vs false q e f h k same = absurd (lowest a b us vs h (same b) e)

unique : (us vs : List (List ℕ)) → Rises us → Rises vs → ((t : List ℕ) → times t us ≡ times t vs) → us ≡ vs
unique [] [] h k same = refl
unique [] (b ∷ vs) h k same = let some : one_at b b ≡ 1 = one_at_itself b in let e : 0 ≡ one_at b b + times b vs = same b in absurd (omega arith)
unique (a ∷ us) [] h k same = let some : one_at a a ≡ 1 = one_at_itself a in let e : one_at a a + times a us ≡ 0 = same a in absurd (omega arith)
unique (a ∷ us) (b ∷ vs) h k same =
    let heads : a ≡ b = unique_at a b us vs (text_le a b) (text_le b a) refl refl h k same in
    let tails : us ≡ vs = unique us vs h.1 k.1 (λ t.
    let e : one_at t a + times t us ≡ one_at t b + times t vs = same t in
    let f : one_at t a ≡ one_at t b = ap (one_at t) heads in
    omega arith) in
    cc

-- ---- from what a sort of strings ensures

reversed : (r s : Ordering) → s ≡ ordering_reverse r → is_lt r ≡ false → is_le s ≡ true
reversed Less s e h = cc
reversed Equal s e h = rw e refl
reversed Greater s e h = rw e refl

pair_rises : (x y : List ℕ) → is_lt (compared y x) ≡ false → text_le x y ≡ true
pair_rises x y h = reversed (compared y x) (compared x y) (nat_list_cmp_total.antisymm x y) h

sorted_tail : (x : String Global) (xs : List (String Global)) → IsSorted string_cmp (x ∷ xs) → IsSorted string_cmp xs
sorted_tail x xs h = λ k d low high.
    let next : suc k + 1 ≡ suc (k + 1) = omega arith in
    let P : ℕ → Type 0 = λ n. is_lt (string_cmp (get_or (x ∷ xs) n d) (get_or xs k d)) ≡ false in
    subst P next (h (suc k) d (omega arith) (omega arith))

Rises-cons : (x y : String Global) (ys : List (String Global)) → IsSorted string_cmp (x ∷ y ∷ ys) → Rises (map string_bytes (y ∷ ys)) → Rises (map string_bytes (x ∷ y ∷ ys))
Rises-cons x y ys h k =
    let first : text_le (string_bytes x) (string_bytes y) ≡ true = pair_rises (string_bytes x) (string_bytes y) (h 0 x (omega arith) (omega arith)) in
    ((first, from_lower (string_bytes x) (string_bytes y) (map string_bytes ys) first k.0), k)

Rises-sorted : (xs : List (String Global)) → IsSorted string_cmp xs → Rises (map string_bytes xs)
Rises-sorted [] h = tt
Rises-sorted (x ∷ []) h = (tt, tt)
Rises-sorted (x ∷ y ∷ ys) h = Rises-cons x y ys h (Rises-sorted (y ∷ ys) (sorted_tail x (y ∷ ys) h))

-- a sort of strings gives the texts in byte order
pub sorted_is_in_byte_order : (names : List (List ℕ)) (before after : List (String Global)) → IsPermutation (map string_bytes before) names → IsPermutation before after → IsSorted string_cmp after → map string_bytes after ≡ in_byte_order names
sorted_is_in_byte_order names before after listed moved sorted =
    unique (map string_bytes after) (in_byte_order names) (Rises-sorted after sorted) (Rises-in_byte_order names) (λ t.
    times-IsPermutation t _ _ (IsPermutation-map string_bytes before after moved)
    ∙ sym (times-IsPermutation t _ _ listed)
    ∙ sym (times-in_byte_order t names))

-- the same where a shelf told the names, if it tells any
pub in_order : (files : Option (List StoredFile)) (folder : List ℕ) (before after : List (String Global)) → Lists files folder (map string_bytes before) → IsPermutation before after → IsSorted string_cmp after → IfSome files (λ fs. map string_bytes after ≡ in_byte_order (names_in folder fs))
in_order None folder before after told moved sorted = tt
in_order (Some fs) folder before after told moved sorted = sorted_is_in_byte_order (names_in folder fs) before after told.0 moved sorted
