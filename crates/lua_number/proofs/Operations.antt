-- Results in range and beyond it, rests and powers.
use Rattle.std.proofs.Common.{◌≡◌, ℕ, zero, suc, ◌+◌, ◌-◌, ◌^◌, ◌%◌, ◌<◌, ◌≤◌, ◌⊎◌, Bool, true, false, refl, sym, ap, subst, ◌∙◌, inl, inr, arith, true≢false}
use Rattle.std.specs.Prelude.{ℤ, pos, negsuc, ◌+ℤ◌, ◌-ℤ◌, ◌*ℤ◌, neg_ℤ, FitsSigned, Option, Some, None, SomeIff, nat_lt, nat_eq, if◌then◌else◌, ◌||◌, Result, Ok, Err, int_div, int_rem, unsigned_abs}
use Rattle.std.specs.Int.{w64, int_pow, CanDivide, IsNonZero}
use Rattle.std.specs.Option.{ok_or}
use Rattle.std.proofs.Math.Nat.{pow-suc, pow-le-pow_left, pow-le-pow_right}
use Rattle.std.proofs.lemmas.Bool.Decides.{nat_tests}
use Rattle.std.proofs.lemmas.Int.{ints, quot-rem, rem_below}
use lib.IntN.{pred_ℤ, pred_ℤ-*ℤ}
use Rattle.lua_number.specs.declared.arithmetic.NumberFault.{NumberFault}
use Rattle.lua_number.specs.declared.arithmetic.NumberFault.TheVariants.{OutOfRange, NotWhole, ByZero}
use Rattle.lua_number.specs.Whole.{fits, in_range_or_fault, is_zero, same_sign, floor_of, rest_of, remainder_of, quotient_of, rest_beside, Between, IsRest}

pub does_fit : (z : ℤ) → FitsSigned w64 z → fits z ≡ true
does_fit (pos n) f = grind (arith, nat_tests, f.sfits)
does_fit (negsuc n) f = grind (arith, nat_tests, f.sfits)

pub not_fits : (z : ℤ) → (FitsSigned w64 z → ⊥) → fits z ≡ false
not_fits (pos n) f = by_test (nat_lt n (2 ^ 63)) refl
  where
    by_test : (b : Bool) → nat_lt n (2 ^ 63) ≡ b → nat_lt n (2 ^ 63) ≡ false
    by_test true e = absurd (f (record { sfits = grind (arith, nat_tests, e) }))
    by_test false e = e
not_fits (negsuc n) f = by_test (nat_lt n (2 ^ 63)) refl
  where
    by_test : (b : Bool) → nat_lt n (2 ^ 63) ≡ b → nat_lt n (2 ^ 63) ≡ false
    by_test true e = absurd (f (record { sfits = grind (arith, nat_tests, e) }))
    by_test false e = e

pub result_fits : (z : ℤ) → FitsSigned w64 z → in_range_or_fault z ≡ Ok z
result_fits z f = ap (λ (b : Bool). if b then Ok z else Err OutOfRange) (does_fit z f)

pub result_not : (z : ℤ) → (FitsSigned w64 z → ⊥) → in_range_or_fault z ≡ Err OutOfRange
result_not z f = ap (λ (b : Bool). if b then Ok z else Err OutOfRange) (not_fits z f)

choice_first : {A : Type 0} (x y : Bool) (p q : A) → (x ≡ true) ⊎ (y ≡ true) → (if x || y then p else q) ≡ p
choice_first true y p q h = refl
choice_first false true p q h = refl
choice_first false false p q (inl h) = absurd (true≢false (sym h))
choice_first false false p q (inr h) = absurd (true≢false (sym h))

choice_second : {A : Type 0} (x y : Bool) (p q : A) → x ≡ false → y ≡ false → (if x || y then p else q) ≡ q
choice_second true y p q h k = absurd (true≢false h)
choice_second false true p q h k = absurd (true≢false k)
choice_second false false p q h k = refl

less_one : (m : ℤ) → m -ℤ pos 1 ≡ pred_ℤ m
less_one (pos zero) = refl
less_one (pos (suc n)) = omega (arith, ints)
less_one (negsuc n) = let e : n + 0 ≡ n = omega arith in ap (λ k. negsuc (suc k)) e

less_one-*ℤ : (m k : ℤ) → (m -ℤ pos 1) *ℤ k ≡ m *ℤ k -ℤ k
less_one-*ℤ m k = ap (λ x. x *ℤ k) (less_one m) ∙ pred_ℤ-*ℤ m k

-- The rest of a division, from the rest towards zero.
pub rest_same : (a b : ℤ) → (is_zero (int_rem a b) ≡ true) ⊎ (same_sign (int_rem a b) b ≡ true) → rest_of a b ≡ int_rem a b
rest_same a b h =
    let e : floor_of a b ≡ int_div a b = choice_first (is_zero (int_rem a b)) (same_sign (int_rem a b) b) _ _ h in
    ap (λ q. a -ℤ q *ℤ b) e ∙ omega (arith, ints, quot-rem a b)

pub rest_moved : (a b : ℤ) → is_zero (int_rem a b) ≡ false → same_sign (int_rem a b) b ≡ false → rest_of a b ≡ int_rem a b +ℤ b
rest_moved a b z s =
    let e : floor_of a b ≡ int_div a b -ℤ pos 1 = choice_second (is_zero (int_rem a b)) (same_sign (int_rem a b) b) _ _ z s in
    ap (λ q. a -ℤ q *ℤ b) e ∙ omega (arith, ints, quot-rem a b, less_one-*ℤ (int_div a b) b)

between_same : (r b : ℤ) → unsigned_abs r < unsigned_abs b → (is_zero r ≡ true) ⊎ (same_sign r b ≡ true) → Between r b
between_same (pos r) (pos b) lt h = lt
between_same (negsuc r) (negsuc b) lt h = omega arith
between_same (pos zero) (negsuc b) lt h = omega arith
between_same (pos (suc r)) (negsuc b) lt (inl h) = absurd (true≢false (sym h))
between_same (pos (suc r)) (negsuc b) lt (inr h) = absurd (true≢false (sym h))
between_same (negsuc r) (pos b) lt (inl h) = absurd (true≢false (sym h))
between_same (negsuc r) (pos b) lt (inr h) = absurd (true≢false (sym h))

between_moved : (r b : ℤ) → unsigned_abs r < unsigned_abs b → is_zero r ≡ false → same_sign r b ≡ false → Between (r +ℤ b) b
between_moved (pos zero) b lt z s = absurd (true≢false z)
between_moved (pos (suc r)) (pos b) lt z s = absurd (true≢false s)
between_moved (negsuc r) (negsuc b) lt z s = absurd (true≢false s)
between_moved (pos (suc r)) (negsuc b) lt z s =
    let e : pos (suc r) +ℤ negsuc b ≡ negsuc (b - suc r) = omega (arith, ints) in
    let h : b - suc r < b = omega arith in subst (λ (x : ℤ). Between x (negsuc b)) (sym e) h
between_moved (negsuc r) (pos b) lt z s =
    let e : negsuc r +ℤ pos b ≡ pos (b - suc r) = omega (arith, ints) in
    let h : b - suc r < b = omega arith in subst (λ (x : ℤ). Between x (pos b)) (sym e) h

nonzero : (b : ℤ) → is_zero b ≡ false → 0 < unsigned_abs b
nonzero (pos zero) z = absurd (true≢false z)
nonzero (pos (suc n)) z = omega arith
nonzero (negsuc n) z = omega arith

pub is_nonzero : (b : ℤ) → (b ≡ pos 0 → ⊥) → is_zero b ≡ false
is_nonzero (pos zero) h = absurd (h refl)
is_nonzero (pos (suc n)) h = refl
is_nonzero (negsuc n) h = refl

pub rest_between : (a b : ℤ) → is_zero b ≡ false → Between (rest_of a b) b
rest_between a b z = by_tests (is_zero (int_rem a b)) (same_sign (int_rem a b) b) refl refl
  where
    below : unsigned_abs (int_rem a b) < unsigned_abs b
    below = rem_below a b (nonzero b z)

    by_tests : (x y : Bool) → is_zero (int_rem a b) ≡ x → same_sign (int_rem a b) b ≡ y → Between (rest_of a b) b
    by_tests true y p q = subst (λ (r : ℤ). Between r b) (sym (rest_same a b (inl p))) (between_same _ _ below (inl p))
    by_tests false true p q = subst (λ (r : ℤ). Between r b) (sym (rest_same a b (inr q))) (between_same _ _ below (inr q))
    by_tests false false p q = subst (λ (r : ℤ). Between r b) (sym (rest_moved a b p q)) (between_moved _ _ below p q)

between_fits : (r b : ℤ) → Between r b → FitsSigned w64 b → FitsSigned w64 r
between_fits (pos r) (pos b) h f = record { sfits = omega (arith, f.sfits) }
between_fits (negsuc r) (negsuc b) h f = record { sfits = omega (arith, f.sfits) }
between_fits (pos r) (negsuc b) h f = record { sfits = omega (arith, f.sfits) }
between_fits (negsuc r) (pos b) h f = absurd (omega arith)

pub rest_is_rest : (a b : ℤ) → is_zero b ≡ false → IsRest a b (rest_of a b)
rest_is_rest a b z = ((floor_of a b, omega (arith, ints)), rest_between a b z)

-- The powers of -1.
one_pow : (n : ℕ) → 1 ^ n ≡ 1
one_pow zero = refl
one_pow (suc n) = rw pow-suc (omega (arith, one_pow n))

pub even_power : (n : ℕ) → n % 2 ≡ 0 → pos 1 ≡ int_pow (negsuc 0) n
even_power n e = rw (e, one_pow n) refl

pub odd_power : (n : ℕ) → (n % 2 ≡ 0 → ⊥) → negsuc 0 ≡ int_pow (negsuc 0) n
odd_power n e = let h : n % 2 ≡ 1 = omega arith in rw (h, one_pow n) refl

-- What `rem` answers.
pub rem_ok : (a b r : ℤ) → FitsSigned w64 b → (b ≡ pos 0 → ⊥) → r ≡ rest_of a b → Ok r ≡ remainder_of a b
rem_ok a b r f z e =
    rw (is_nonzero b z) (ap Ok e ∙ sym (result_fits (rest_of a b) (between_fits (rest_of a b) b (rest_between a b (is_nonzero b z)) f)))

pub rem_rest : (a b r : ℤ) → (b ≡ pos 0 → ⊥) → r ≡ rest_of a b → IsRest a b r
rem_rest a b r z e = subst (λ (x : ℤ). IsRest a b x) (sym e) (rest_is_rest a b (is_nonzero b z))

between_minus_one : (r : ℤ) → Between r (negsuc 0) → pos 0 ≡ r
between_minus_one (pos zero) h = refl
between_minus_one (pos (suc r)) h = absurd (omega arith)
between_minus_one (negsuc r) h = absurd (omega arith)

pub rest_by_minus_one : (a b : ℤ) → b ≡ negsuc 0 → pos 0 ≡ rest_of a b
rest_by_minus_one a b e = subst (λ (x : ℤ). pos 0 ≡ rest_of a x) (sym e) (between_minus_one (rest_of a (negsuc 0)) (rest_between a (negsuc 0) refl))

beyond : (m : ℕ) → 2 ^ 64 ≤ m → FitsSigned w64 (neg_ℤ (pos m)) → ⊥
beyond zero h f = omega arith
beyond (suc m) h f = omega (arith, f.sfits)

-- A power with a large exponent.
zero_pow : (n : ℕ) → 0 < n → 0 ^ n ≡ 0
zero_pow zero h = absurd (omega arith)
zero_pow (suc n) h = rw pow-suc (omega arith)

pub zero_power : (a : ℤ) (n : ℕ) → a ≡ pos 0 → 64 ≤ n → Ok (pos 0) ≡ in_range_or_fault (int_pow a n)
zero_power a n e h = rw (e, zero_pow n (omega arith)) refl

pub one_power : (a : ℤ) (n : ℕ) → a ≡ pos 1 → Ok (pos 1) ≡ in_range_or_fault (int_pow a n)
one_power a n e = rw (e, one_pow n) refl

grows : (a n : ℕ) → 2 ≤ a → 64 ≤ n → 2 ^ 64 ≤ a ^ n
grows a n h k = omega (arith, pow-le-pow_left {n = 2} {m = a} h 64, pow-le-pow_right {n = a} (omega arith) {i = 64} {j = n} k)

pub large_power : (a : ℤ) (n : ℕ) → (a ≡ pos 0 → ⊥) → (a ≡ pos 1 → ⊥) → (a ≡ negsuc 0 → ⊥) → 64 ≤ n → Err OutOfRange ≡ in_range_or_fault (int_pow a n)
large_power (pos zero) n p q r h = absurd (p refl)
large_power (pos (suc zero)) n p q r h = absurd (q refl)
large_power (pos (suc (suc a))) n p q r h = sym (result_not (pos (suc (suc a) ^ n)) (λ f. omega (arith, f.sfits, grows (suc (suc a)) n (omega arith) h)))
large_power (negsuc zero) n p q r h = absurd (r refl)
large_power (negsuc (suc a)) n p q r h = by_parity (nat_eq (n % 2) 0) refl
  where
    by_parity : (b : Bool) → nat_eq (n % 2) 0 ≡ b → Err OutOfRange ≡ in_range_or_fault (int_pow (negsuc (suc a)) n)
    by_parity true e = rw e (sym (result_not (pos (suc (suc a) ^ n)) (λ f. omega (arith, f.sfits, grows (suc (suc a)) n (omega arith) h))))
    by_parity false e = rw e (sym (result_not (neg_ℤ (pos (suc (suc a) ^ n))) (λ f. beyond _ (grows (suc (suc a)) n (omega arith) h) f)))

pub rest_beside_is : (a b r : ℤ) → r ≡ rest_beside (int_rem a b) b → r ≡ rest_of a b
rest_beside_is a b r e = e ∙ by_tests (is_zero (int_rem a b)) (same_sign (int_rem a b) b) refl refl
  where
    by_tests : (x y : Bool) → is_zero (int_rem a b) ≡ x → same_sign (int_rem a b) b ≡ y → rest_beside (int_rem a b) b ≡ rest_of a b
    by_tests true y p q = choice_first (is_zero (int_rem a b)) (same_sign (int_rem a b) b) _ _ (inl p) ∙ sym (rest_same a b (inl p))
    by_tests false true p q = choice_first (is_zero (int_rem a b)) (same_sign (int_rem a b) b) _ _ (inr q) ∙ sym (rest_same a b (inr q))
    by_tests false false p q = choice_second (is_zero (int_rem a b)) (same_sign (int_rem a b) b) _ _ p q ∙ sym (rest_moved a b p q)

pub rest_beside_of : (a b r m : ℤ) → m ≡ rest_beside r b → r ≡ int_rem a b → m ≡ rest_of a b
rest_beside_of a b r m e h = rest_beside_is a b m (e ∙ ap (λ x. rest_beside x b) h)

-- A checked operation gives the result, or says that it is out of range.
checked_is : (o : Option ℤ) (z : ℤ) → SomeIff o (FitsSigned w64 z) z → ok_or o OutOfRange ≡ in_range_or_fault z
checked_is None z h = sym (result_not z h)
checked_is (Some x) z h = ap Ok h.1 ∙ sym (result_fits z h.0)

-- What `div` answers.
err_ok : (f : NumberFault) (z : ℤ) → Err f ≡ Ok z → ⊥
err_ok f z e = cc

ok_same : (x y : ℤ) → let left : Result ℤ NumberFault = Ok x in left ≡ Ok y → x ≡ y
ok_same x y e = cc

is_not_zero : (b : ℤ) → FitsSigned w64 b → is_zero b ≡ false → IsNonZero w64 b
is_not_zero (pos zero) f z = absurd (true≢false z)
is_not_zero (pos (suc n)) f z = omega arith
is_not_zero (negsuc n) f z = omega (arith, f.sfits)

can_divide : (a b : ℤ) (o : Option ℤ) → FitsSigned w64 b → is_zero b ≡ false → SomeIff o (CanDivide w64 a b) (int_div a b) → SomeIff o (FitsSigned w64 (int_div a b)) (int_div a b)
can_divide a b None f z h = λ fits. h (is_not_zero b f z, fits)
can_divide a b (Some x) f z h = (h.0.1, h.1)

pub quotient_fault : (a b : ℤ) (f : NumberFault) → FitsSigned w64 b → Err f ≡ remainder_of a b → Err f ≡ quotient_of a b
quotient_fault a b f fit e = by_test (is_zero b) refl
  where
    by_test : (x : Bool) → is_zero b ≡ x → Err f ≡ quotient_of a b
    by_test true z = (rw z at e) ∙ sym (ap (λ (x : Bool). if x then Err ByZero else (if is_zero (rest_of a b) then in_range_or_fault (floor_of a b) else Err NotWhole)) z)
    by_test false z = absurd (err_ok f (rest_of a b) ((rw z at e) ∙ result_fits (rest_of a b) (between_fits (rest_of a b) b (rest_between a b z) fit)))

zero_sum : (r b : ℤ) → unsigned_abs r < unsigned_abs b → r +ℤ b ≡ pos 0 → ⊥
zero_sum (pos r) (pos b) lt e = omega (arith, ints)
zero_sum (pos r) (negsuc b) lt e = omega (arith, ints)
zero_sum (negsuc r) (pos b) lt e = omega (arith, ints)
zero_sum (negsuc r) (negsuc b) lt e = omega (arith, ints)

pub whole_floor : (a b : ℤ) → is_zero b ≡ false → rest_of a b ≡ pos 0 → floor_of a b ≡ int_div a b
whole_floor a b z e = by_tests (is_zero (int_rem a b)) (same_sign (int_rem a b) b) refl refl
  where
    by_tests : (x y : Bool) → is_zero (int_rem a b) ≡ x → same_sign (int_rem a b) b ≡ y → floor_of a b ≡ int_div a b
    by_tests true y p q = choice_first (is_zero (int_rem a b)) (same_sign (int_rem a b) b) _ _ (inl p)
    by_tests false true p q = choice_first (is_zero (int_rem a b)) (same_sign (int_rem a b) b) _ _ (inr q)
    by_tests false false p q = absurd (zero_sum (int_rem a b) b (rem_below a b (nonzero b z)) (sym (rest_moved a b p q) ∙ e))

pub ok_remainder : (a b r : ℤ) → FitsSigned w64 b → Ok r ≡ remainder_of a b → (is_zero b ≡ false) × (r ≡ rest_of a b)
ok_remainder a b r fit e = by_test (is_zero b) refl
  where
    by_test : (x : Bool) → is_zero b ≡ x → (is_zero b ≡ false) × (r ≡ rest_of a b)
    by_test true z = absurd (err_ok ByZero r (sym ((rw z at e))))
    by_test false z = (z, ok_same r (rest_of a b) ((rw z at e) ∙ result_fits (rest_of a b) (between_fits (rest_of a b) b (rest_between a b z) fit)))

pub quotient_whole : (a b : ℤ) (o : Option ℤ) (r : ℤ) → FitsSigned w64 b → Ok r ≡ remainder_of a b → r ≡ pos 0 → SomeIff o (CanDivide w64 a b) (int_div a b) → ok_or o OutOfRange ≡ quotient_of a b
quotient_whole a b o r fit e z h =
    let k : (is_zero b ≡ false) × (r ≡ rest_of a b) = ok_remainder a b r fit e in
    let none : rest_of a b ≡ pos 0 = sym k.1 ∙ z in
    let whole : floor_of a b ≡ int_div a b = whole_floor a b k.0 none in
    checked_is o (int_div a b) (can_divide a b o fit k.0 h) ∙ sym (ap (λ (x : Bool). if x then Err ByZero else (if is_zero (rest_of a b) then in_range_or_fault (floor_of a b) else Err NotWhole)) k.0 ∙ (ap (λ (x : ℤ). if is_zero x then in_range_or_fault (floor_of a b) else Err NotWhole) none ∙ ap in_range_or_fault whole))

pub quotient_not_whole : (a b r : ℤ) → FitsSigned w64 b → Ok r ≡ remainder_of a b → (r ≡ pos 0 → ⊥) → Err NotWhole ≡ quotient_of a b
quotient_not_whole a b r fit e z =
    let k : (is_zero b ≡ false) × (r ≡ rest_of a b) = ok_remainder a b r fit e in
    let some : is_zero (rest_of a b) ≡ false = is_nonzero (rest_of a b) (λ n. z (k.1 ∙ n)) in
    sym (ap (λ (x : Bool). if x then Err ByZero else (if is_zero (rest_of a b) then in_range_or_fault (floor_of a b) else Err NotWhole)) k.0 ∙ ap (λ (x : Bool). if x then in_range_or_fault (floor_of a b) else Err NotWhole) some)
