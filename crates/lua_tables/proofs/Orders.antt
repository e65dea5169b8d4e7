-- Values in order: two lists that rise by a total order and hold the same are the same, so a sort gives what an insertion sort gives.
use Rattle.std.proofs.Common.{◌≡◌, ◌∙◌, ap, sym, subst, refl, arith, rules, ℕ, zero, suc, ◌+◌, ◌≤◌, ◌<◌, Bool, true, false, cond, if◌then◌else◌, ◌||◌, nat_le, ℤ, List, [], ◌∷◌, ◌++◌, length, map, get_or, sum_by, replicate}
use Rattle.std.specs.List.{AllByRecursion}
use Rattle.std.specs.List.Sorted.{IsPermutation, IsSorted}
use Rattle.std.specs.declared.cmp.Ordering.{Ordering}
use Rattle.std.specs.declared.cmp.Ordering.TheVariants.{Less, Equal, Greater}
use Rattle.std.specs.Ordering.{nat_cmp, int_cmp, is_le, is_gt, is_lt, is_eq, ordering_reverse}
use Rattle.std.specs.Cmp.{IsTotalOrder, upto, tied_itself, int_cmp_total, int_ranked}
use Rattle.std.specs.Cmp.Lexicographic.{slice_cmp, nat_list_cmp_total, texts_ties, same_text}
use Rattle.std.proofs.lemmas.List.Sums.{sum_by-cons}
use Rattle.std.proofs.lemmas.List.Sorted.{IsPermutation-map, sum_by-IsPermutation}
use Rattle.lua_basic.specs.LuaHeapValue.{Value, Number, Text}
use Rattle.lua_basic.specs.LuaMeaningScope.{Bytes}
use Rattle.lua_basic.specs.LuaMeaningValues.{first}
use Rattle.lua_basic.specs.LuaMeaningTableLibrary.{Walk, PassedAll, Refused, one_passed, walk, is_number, is_string, goes_with, may_stand, value_cmp, put_in_order, in_order}
use Rattle.lua_tables.specs.Kinds.{numbers_in, texts_in}
use Rattle.lua_tables.specs.Repeated.{repeated}

not_greater : (r : Ordering) → is_le r ≡ true → is_gt r ≡ false
not_greater Less h = refl
not_greater Equal h = refl
not_greater Greater h = cc

at_most : (r : Ordering) → is_gt r ≡ false → is_le r ≡ true
at_most Less h = refl
at_most Equal h = refl
at_most Greater h = cc

turned : (r s : Ordering) → s ≡ ordering_reverse r → is_le r ≡ false → is_le s ≡ true
turned Less s e h = cc
turned Equal s e h = cc
turned Greater s e h = rw e refl

tied : (r s : Ordering) → s ≡ ordering_reverse r → is_le r ≡ true → is_le s ≡ true → r ≡ Equal
tied Less s e h k = let gone : is_le s ≡ false = rw e refl in cc
tied Equal s e h k = refl
tied Greater s e h k = cc

reversed : (r s : Ordering) → s ≡ ordering_reverse r → is_lt r ≡ false → is_le s ≡ true
reversed Less s e h = cc
reversed Equal s e h = rw e refl
reversed Greater s e h = rw e refl

equal_when : (r : Ordering) → is_eq r ≡ true → r ≡ Equal
equal_when Less h = cc
equal_when Equal h = refl
equal_when Greater h = cc

abbrev one_if : Bool → ℕ
one_if true = 1
one_if false = 0

-- A TOTAL ORDER whose ties are equal
module _ {K : Type 0} (cmp : K → K → Ordering) (o : IsTotalOrder cmp) (ties : (x y : K) → cmp x y ≡ Equal → x ≡ y) where
  abbrev le : K → K → Bool
  le x y = is_le (cmp x y)

  le_refl : (x : K) → le x x ≡ true
  le_refl x = ap is_le (tied_itself o x)

  le_trans : (x y z : K) → le x y ≡ true → le y z ≡ true → le x z ≡ true
  le_trans x y z p q = at_most _ (upto o x y z (not_greater _ p) (not_greater _ q))

  le_other : (x y : K) → le x y ≡ false → le y x ≡ true
  le_other x y h = turned (cmp x y) (cmp y x) (o.antisymm y x) h

  le_both : (x y : K) → le x y ≡ true → le y x ≡ true → x ≡ y
  le_both x y h k = ties x y (tied (cmp x y) (cmp y x) (o.antisymm y x) h k)

  -- LISTS THAT RISE
  abbrev AllFrom : K → List K → Type 0
  AllFrom x xs = AllByRecursion (λ y. le x y ≡ true) xs

  abbrev Rises : List K → Type 0
  Rises [] = Unit {0}
  Rises (x ∷ xs) = AllFrom x xs × Rises xs

  from_lower : (x y : K) (zs : List K) → le x y ≡ true → AllFrom y zs → AllFrom x zs
  from_lower x y [] h all = tt
  from_lower x y (z ∷ zs) h all = (le_trans x y z h all.0, from_lower x y zs h all.1)

  from-put : (x y : K) (zs : List K) → le x y ≡ true → AllFrom x zs → AllFrom x (put_in_order cmp y zs)
  from-put x y [] h all = (h, tt)
  from-put x y (z ∷ zs) h all =
      elim (le y z) as (λ b. AllFrom x (cond b (y ∷ z ∷ zs) (z ∷ put_in_order cmp y zs))) [
        | true ↦ (h, all)
        | false ↦ (all.0, from-put x y zs h all.1)
      ]

  rises-put_at : (x u : K) (us : List K) (b : Bool) → le x u ≡ b → Rises (u ∷ us) → Rises (put_in_order cmp x us) → Rises (cond b (x ∷ u ∷ us) (u ∷ put_in_order cmp x us))
  rises-put_at x u us true e h k = ((e, from_lower x u us e h.0), h)
  rises-put_at x u us false e h k = (from-put u x us (le_other x u e) h.0, k)

  rises-put : (x : K) (us : List K) → Rises us → Rises (put_in_order cmp x us)
  rises-put x [] h = (tt, tt)
  rises-put x (u ∷ us) h = rises-put_at x u us (le x u) refl h (rises-put x us h.1)

  rises-in_order : (xs : List K) → Rises (in_order cmp xs)
  rises-in_order [] = tt
  rises-in_order (x ∷ xs) = rises-put x (in_order cmp xs) (rises-in_order xs)

  -- HOW OFTEN one stands in a list
  abbrev one_at : K → K → ℕ
  one_at t x = one_if (is_eq (cmp t x))

  abbrev times : K → List K → ℕ
  times t [] = 0
  times t (x ∷ xs) = one_at t x + times t xs

  times-sum_by : (t : K) (xs : List K) → times t xs ≡ sum_by (one_at t) xs
  times-sum_by t [] = refl
  times-sum_by t (x ∷ xs) = ap (λ n. one_at t x + n) (times-sum_by t xs) ∙ sym (sum_by-cons (one_at t) x xs)

  times-moved : (t : K) (xs ys : List K) → IsPermutation xs ys → times t ys ≡ times t xs
  times-moved t xs ys h = times-sum_by t ys ∙ sum_by-IsPermutation (one_at t) xs ys h ∙ sym (times-sum_by t xs)

  times-put : (t x : K) (us : List K) → times t (put_in_order cmp x us) ≡ one_at t x + times t us
  times-put t x [] = refl
  times-put t x (u ∷ us) =
      elim (le x u) as (λ b. times t (cond b (x ∷ u ∷ us) (u ∷ put_in_order cmp x us)) ≡ one_at t x + (one_at t u + times t us)) [
        | true ↦ refl
        | false ↦ let rest : times t (put_in_order cmp x us) ≡ one_at t x + times t us = times-put t x us in omega (arith, rest)
      ]

  times-in_order : (t : K) (xs : List K) → times t (in_order cmp xs) ≡ times t xs
  times-in_order t [] = refl
  times-in_order t (x ∷ xs) = times-put t x (in_order cmp xs) ∙ ap (λ n. one_at t x + n) (times-in_order t xs)

  one_at_itself : (t : K) → one_at t t ≡ 1
  one_at_itself t = ap (λ r. one_if (is_eq r)) (tied_itself o t)

  not_at : (a b y : K) (same : Bool) → is_eq (cmp b y) ≡ same → le a b ≡ false → le a y ≡ true → one_if same ≡ 0
  not_at a b y true e h k = let moved : le a b ≡ true = subst (λ t. le a t ≡ true) (sym (ties b y (equal_when (cmp b y) e))) k in absurd cc
  not_at a b y false e h k = refl

  absent : (a b : K) (xs : List K) → le a b ≡ false → AllFrom a xs → times b xs ≡ 0
  absent a b [] h all = refl
  absent a b (x ∷ xs) h all =
      let here : one_at b x ≡ 0 = not_at a b x (is_eq (cmp b x)) refl h all.0 in
      let rest : times b xs ≡ 0 = absent a b xs h all.1 in
      omega (arith, here, rest)

  -- what is below all of a list that holds it is not there
  lowest : (a b : K) (us vs : List K) → Rises (a ∷ us) → times b (a ∷ us) ≡ times b (b ∷ vs) → le a b ≡ false → ⊥
  lowest a b us vs h e k =
      let none : times b (a ∷ us) ≡ 0 = absent a b (a ∷ us) k (le_refl a, h.0) in
      let same : times b (a ∷ us) ≡ one_at b b + times b vs = e in
      let some : one_at b b ≡ 1 = one_at_itself b in
      omega (arith, none, same, some)

  unique_at : (a b : K) (us vs : List K) (p q : Bool) → le a b ≡ p → le b a ≡ q → Rises (a ∷ us) → Rises (b ∷ vs) → ((t : K) → times t (a ∷ us) ≡ times t (b ∷ vs)) → a ≡ b
  unique_at a b us vs true true e f h k same = le_both a b e f
  unique_at a b us vs true false e f h k same = absurd (lowest b a vs us k (sym (same a)) f)
  unique_at a b us vs false q e f h k same = absurd (lowest a b us vs h (same b) e)

  unique : (us vs : List K) → Rises us → Rises vs → ((t : K) → times t us ≡ times t vs) → us ≡ vs
  unique [] [] h k same = refl
  unique [] (b ∷ vs) h k same = let some : one_at b b ≡ 1 = one_at_itself b in let e : 0 ≡ one_at b b + times b vs = same b in absurd (omega (arith, some, e))
  unique (a ∷ us) [] h k same = let some : one_at a a ≡ 1 = one_at_itself a in let e : one_at a a + times a us ≡ 0 = same a in absurd (omega (arith, some, e))
  unique (a ∷ us) (b ∷ vs) h k same =
      let heads : a ≡ b = unique_at a b us vs (le a b) (le b a) refl refl h k same in
      let tails : us ≡ vs = unique us vs h.1 k.1 (λ t.
      let e : one_at t a + times t us ≡ one_at t b + times t vs = same t in
      let f : one_at t a ≡ one_at t b = ap (one_at t) heads in
      omega (arith, e, f)) in
      ap (λ x. x ∷ us) heads ∙ ap (λ xs. b ∷ xs) tails

  pair_rises : (x y : K) → is_lt (cmp y x) ≡ false → le x y ≡ true
  pair_rises x y h = reversed (cmp y x) (cmp x y) (o.antisymm x y) h

  -- WHAT A SORT ENSURES, of items that are seen as what is ordered
  module _ {Y : Type 0} (shown : Y → K) where
    sorted_tail : (x : Y) (xs : List Y) → IsSorted (λ a b. cmp (shown a) (shown b)) (x ∷ xs) → IsSorted (λ a b. cmp (shown a) (shown b)) xs
    sorted_tail x xs h = λ k d low high.
        let next : suc k + 1 ≡ suc (k + 1) = omega arith in
        let P : ℕ → Type 0 = λ n. is_lt (cmp (shown (get_or (x ∷ xs) n d)) (shown (get_or xs k d))) ≡ false in
        subst P next (h (suc k) d (omega arith) (omega (arith, high)))

    rises-sorted : (xs : List Y) → IsSorted (λ a b. cmp (shown a) (shown b)) xs → Rises (map shown xs)
    rises-sorted [] h = tt
    rises-sorted (x ∷ []) h = (tt, tt)
    rises-sorted (x ∷ y ∷ ys) h =
        let more = rises-sorted (y ∷ ys) (sorted_tail x (y ∷ ys) h) in
        let low : le (shown x) (shown y) ≡ true = pair_rises (shown x) (shown y) (h 0 x (omega arith) (omega arith)) in
        ((low, from_lower (shown x) (shown y) (map shown ys) low more.0), more)

    pub sorted_is_in_order : (before after : List Y) → IsPermutation before after → IsSorted (λ a b. cmp (shown a) (shown b)) after → map shown after ≡ in_order cmp (map shown before)
    sorted_is_in_order before after moved sorted =
        unique (map shown after) (in_order cmp (map shown before)) (rises-sorted after sorted) (rises-in_order (map shown before)) (λ t.
        times-moved t _ _ (IsPermutation-map shown before after moved) ∙ sym (times-in_order t (map shown before)))

  -- ITEMS THAT STAND SO OFTEN, one after another
  all-times : (x y : K) (n : ℕ) (zs : List K) → le x y ≡ true → AllFrom x zs → AllFrom x (replicate n y ++ zs)
  all-times x y zero zs h all = all
  all-times x y (suc n) zs h all = (h, all-times x y n zs h all)

  rises-times : (y : K) (n : ℕ) (zs : List K) → AllFrom y zs → Rises zs → Rises (replicate n y ++ zs)
  rises-times y zero zs all h = h
  rises-times y (suc n) zs all h = (all-times y y n zs (le_refl y) all, rises-times y n zs all h)

  times-append : (t : K) (xs ys : List K) → times t (xs ++ ys) ≡ times t xs + times t ys
  times-append t [] ys = omega arith
  times-append t (x ∷ xs) ys = let rest : times t (xs ++ ys) ≡ times t xs + times t ys = times-append t xs ys in omega (arith, rest)

  abbrev times_in : K → K × ℕ → ℕ
  times_in t e = times t (replicate e.1 e.0)

  times-repeated : (t : K) (es : List (K × ℕ)) → times t (repeated es) ≡ sum_by (times_in t) es
  times-repeated t [] = refl
  times-repeated t (e ∷ es) =
      times-append t (replicate e.1 e.0) (repeated es) ∙ ap (λ n. times_in t e + n) (times-repeated t es) ∙ sym (sum_by-cons (times_in t) e es)

  times-shuffled : (t : K) (es fs : List (K × ℕ)) → IsPermutation es fs → times t (repeated fs) ≡ times t (repeated es)
  times-shuffled t es fs h = times-repeated t fs ∙ sum_by-IsPermutation (times_in t) es fs h ∙ sym (times-repeated t es)

  module _ {Y : Type 0} (counted : Y → K × ℕ) where
    all-repeated : (x : K) (ys : List Y) → AllFrom x (map (λ y. (counted y).0) ys) → AllFrom x (repeated (map counted ys))
    all-repeated x [] h = tt
    all-repeated x (y ∷ ys) h = all-times x (counted y).0 (counted y).1 (repeated (map counted ys)) h.0 (all-repeated x ys h.1)

    rises-repeated : (ys : List Y) → Rises (map (λ y. (counted y).0) ys) → Rises (repeated (map counted ys))
    rises-repeated [] h = tt
    rises-repeated (y ∷ ys) h =
        rises-times (counted y).0 (counted y).1 (repeated (map counted ys)) (all-repeated (counted y).0 ys h.0) (rises-repeated ys h.1)

    -- each item once is sorted, with how often it stands in a list: so the list is in order
    pub repeated_is_in_order : (xs : List K) (before after : List Y) → IsPermutation xs (repeated (map counted before)) → IsPermutation before after
        → IsSorted (λ a b. cmp (counted a).0 (counted b).0) after → repeated (map counted after) ≡ in_order cmp xs
    repeated_is_in_order xs before after there moved sorted =
        unique (repeated (map counted after)) (in_order cmp xs) (rises-repeated after (rises-sorted (λ y. (counted y).0) after sorted)) (rises-in_order xs) (λ t.
        times-shuffled t _ _ (IsPermutation-map counted before after moved) ∙ times-moved t xs _ there ∙ sym (times-in_order t xs))

-- NUMBERS, and strings by their bytes
int_ties_at : (x y : ℤ) (r : Ordering) → r ≡ int_cmp x y → r ≡ Equal → x ≡ y
int_ties_at x y Less e h = absurd cc
int_ties_at x y Equal e h = int_ranked x y Equal e
int_ties_at x y Greater e h = absurd cc

int_ties : (x y : ℤ) → int_cmp x y ≡ Equal → x ≡ y
int_ties x y h = int_ties_at x y (int_cmp x y) refl h

text_ties : (x y : Bytes) → slice_cmp nat_cmp x y ≡ Equal → x ≡ y
text_ties x y h = same_text x y (sym (texts_ties x y ∙ ap is_eq h))

map-itself : {A : Type 0} (xs : List A) → map (λ x. x) xs ≡ xs
map-itself [] = refl
map-itself (x ∷ xs) = ap (λ ys. x ∷ ys) (map-itself xs)

pub numbers_sorted : (before after : List ℤ) → IsPermutation before after → IsSorted int_cmp after → after ≡ in_order int_cmp before
numbers_sorted before after moved sorted =
    sym (map-itself after) ∙ sorted_is_in_order int_cmp int_cmp_total int_ties (λ x. x) before after moved sorted ∙ ap (in_order int_cmp) (map-itself before)

pub texts_repeated : {Y : Type 0} (counted : Y → Bytes × ℕ) (xs : List Bytes) (before after : List Y) → IsPermutation xs (repeated (map counted before)) → IsPermutation before after
    → IsSorted (λ a b. slice_cmp nat_cmp (counted a).0 (counted b).0) after → repeated (map counted after) ≡ in_order (slice_cmp nat_cmp) xs
texts_repeated counted xs before after = repeated_is_in_order (slice_cmp nat_cmp) nat_list_cmp_total text_ties counted xs before after

-- THE ORDER OF VALUES of one kind is that of what they hold
number-put : (n : ℤ) (ns : List ℤ) → put_in_order value_cmp (Number n) (map Number ns) ≡ map Number (put_in_order int_cmp n ns)
number-put n [] = refl
number-put n (m ∷ ns) =
    elim (is_le (int_cmp n m)) as (λ b. cond b (Number n ∷ Number m ∷ map Number ns) (Number m ∷ put_in_order value_cmp (Number n) (map Number ns)) ≡ map Number (cond b (n ∷ m ∷ ns) (m ∷ put_in_order int_cmp n ns))) [
      | true ↦ refl
      | false ↦ ap (λ xs. Number m ∷ xs) (number-put n ns)
    ]

number-order : (ns : List ℤ) → in_order value_cmp (map Number ns) ≡ map Number (in_order int_cmp ns)
number-order [] = refl
number-order (n ∷ ns) = ap (put_in_order value_cmp (Number n)) (number-order ns) ∙ number-put n (in_order int_cmp ns)

text-put : (t : Bytes) (ts : List Bytes) → put_in_order value_cmp (Text t) (map Text ts) ≡ map Text (put_in_order (slice_cmp nat_cmp) t ts)
text-put t [] = refl
text-put t (u ∷ ts) =
    elim (is_le (slice_cmp nat_cmp t u)) as (λ b. cond b (Text t ∷ Text u ∷ map Text ts) (Text u ∷ put_in_order value_cmp (Text t) (map Text ts)) ≡ map Text (cond b (t ∷ u ∷ ts) (u ∷ put_in_order (slice_cmp nat_cmp) t ts))) [
      | true ↦ refl
      | false ↦ ap (λ xs. Text u ∷ xs) (text-put t ts)
    ]

text-order : (ts : List Bytes) → in_order value_cmp (map Text ts) ≡ map Text (in_order (slice_cmp nat_cmp) ts)
text-order [] = refl
text-order (t ∷ ts) = ap (put_in_order value_cmp (Text t)) (text-order ts) ∙ text-put t (in_order (slice_cmp nat_cmp) ts)

-- A WALK THAT PASSES ALL passes each
passed : (test : Value → Bool) (v : Value) (vs : List Value) (b : Bool) → test v ≡ b → walk test (v ∷ vs) ≡ PassedAll → (b ≡ true) × (walk test vs ≡ PassedAll)
passed test v vs true e h = (refl, rest (walk test vs) (sym (ap (λ b. if b then one_passed (walk test vs) else Refused 0 v) e) ∙ h))
  where
    rest : (w : Walk) → one_passed w ≡ PassedAll → w ≡ PassedAll
    rest PassedAll h = refl
    rest (Refused k u) h = absurd cc
passed test v vs false e h = absurd (no (sym (ap (λ b. if b then one_passed (walk test vs) else Refused 0 v) e) ∙ h))
  where
    no : Refused 0 v ≡ PassedAll → ⊥
    no h = absurd cc

stands_like : (n : ℕ) (one v : Value) → 1 < n → may_stand n one v ≡ true → goes_with one v ≡ true
stands_like n one v more h = go (nat_le n 1) refl h
  where
    go : (b : Bool) → nat_le n 1 ≡ b → (b || goes_with one v) ≡ true → goes_with one v ≡ true
    go true e h = let le : n ≤ 1 = grind (arith, rules, e) in absurd (omega (arith, more, le))
    go false e h = h

one_number : (v : Value) → is_number v ≡ true → (n : ℤ) × (v ≡ Number n)
one_number (Number n) h = (n, refl)
one_number v h = absurd cc

one_text : (v : Value) → is_string v ≡ true → (t : Bytes) × (v ≡ Text t)
one_text (Text t) h = (t, refl)
one_text v h = absurd cc

-- whatever goes with a number is a number, and so on
numbers_only : (n : ℕ) (one : ℤ) (vs : List Value) → 1 < n → walk (may_stand n (Number one)) vs ≡ PassedAll → vs ≡ map Number (numbers_in vs)
numbers_only n one [] more h = refl
numbers_only n one (v ∷ vs) more h =
    let p = passed (may_stand n (Number one)) v vs (may_stand n (Number one) v) refl h in
    let here = one_number v (stands_like n (Number one) v more p.0) in
    let rest = numbers_only n one vs more p.1 in
    ap (λ x. x ∷ vs) here.1 ∙ ap (λ xs. Number here.0 ∷ xs) rest ∙ sym (ap (λ x. map Number (numbers_in (x ∷ vs))) here.1)

texts_only : (n : ℕ) (one : Bytes) (vs : List Value) → 1 < n → walk (may_stand n (Text one)) vs ≡ PassedAll → vs ≡ map Text (texts_in vs)
texts_only n one [] more h = refl
texts_only n one (v ∷ vs) more h =
    let p = passed (may_stand n (Text one)) v vs (may_stand n (Text one) v) refl h in
    let here = one_text v (stands_like n (Text one) v more p.0) in
    let rest = texts_only n one vs more p.1 in
    ap (λ x. x ∷ vs) here.1 ∙ ap (λ xs. Text here.0 ∷ xs) rest ∙ sym (ap (λ x. map Text (texts_in (x ∷ vs))) here.1)

pub number_list : (vs : List Value) → 1 < length vs → is_number (first vs) ≡ true → walk (may_stand (length vs) (first vs)) vs ≡ PassedAll → in_order value_cmp vs ≡ map Number (in_order int_cmp (numbers_in vs))
number_list vs more is h =
    let one = one_number (first vs) is in
    let all = numbers_only (length vs) one.0 vs more (sym (ap (λ x. walk (may_stand (length vs) x) vs) one.1) ∙ h) in
    ap (in_order value_cmp) all ∙ number-order (numbers_in vs)

-- the first one is a string, where it is not a number and goes with itself
first_text : (one v : Value) → is_number one ≡ false → goes_with one v ≡ true → is_string one ≡ true
first_text (Text t) v n h = refl
first_text one v n h = absurd cc

pub text_list : (vs : List Value) → 1 < length vs → is_number (first vs) ≡ false → walk (may_stand (length vs) (first vs)) vs ≡ PassedAll → in_order value_cmp vs ≡ map Text (in_order (slice_cmp nat_cmp) (texts_in vs))
text_list [] more is h = absurd (omega (arith, more))
text_list (v ∷ vs) more is h =
    let n = length (v ∷ vs) in
    let p = passed (may_stand n v) v vs (may_stand n v v) refl h in
    let one = one_text v (first_text v v is (stands_like n v v more p.0)) in
    let all = texts_only n one.0 (v ∷ vs) more (sym (ap (λ x. walk (may_stand n x) (v ∷ vs)) one.1) ∙ h) in
    ap (in_order value_cmp) all ∙ text-order (texts_in (v ∷ vs))

pub short_list : (vs : List Value) → length vs ≤ 1 → in_order value_cmp vs ≡ vs
short_list [] h = refl
short_list (v ∷ []) h = refl
short_list (v ∷ w ∷ vs) h = absurd (omega (arith, h))

pub length-put : {A : Type 0} (cmp : A → A → Ordering) (x : A) (ys : List A) → length (put_in_order cmp x ys) ≡ suc (length ys)
length-put cmp x [] = refl
length-put cmp x (y ∷ ys) =
    elim (is_le (cmp x y)) as (λ b. length (cond b (x ∷ y ∷ ys) (y ∷ put_in_order cmp x ys)) ≡ suc (suc (length ys))) [
      | true ↦ refl
      | false ↦ ap suc (length-put cmp x ys)
    ]

pub length-in_order : {A : Type 0} (cmp : A → A → Ordering) (xs : List A) → length (in_order cmp xs) ≡ length xs
length-in_order cmp [] = refl
length-in_order cmp (x ∷ xs) = length-put cmp x (in_order cmp xs) ∙ ap suc (length-in_order cmp xs)

-- ONE VALUE AFTER ANOTHER
pub numbers-more : (v : Value) (vs : List Value) → numbers_in (v ∷ vs) ≡ numbers_in (v ∷ []) ++ numbers_in vs
numbers-more (Number n) vs = refl
numbers-more v vs = refl

pub texts-more : (v : Value) (vs : List Value) → texts_in (v ∷ vs) ≡ texts_in (v ∷ []) ++ texts_in vs
texts-more (Text t) vs = refl
texts-more v vs = refl
