-- Values that stand for one another are read alike: their kinds, what they are as numbers and texts, arguments and their messages.
use Rattle.std.proofs.Common.{◌≡◌, ℕ, zero, suc, ℤ, Bool, List, [], ◌∷◌, ◌++◌, ◌+◌, length, drop, Option, Some, None, slice_get, slice_set, refl, ◌∙◌, ap, subst}
use Rattle.std.specs.Prelude.{Ok, Err, codes}
use Rattle.lua_heap.specs.Value.{Value, Number, Truth, Text, is_true}
use Rattle.lua_heap.specs.Heap.{tab}
use Rattle.lua_heap.specs.Related.{Map, Each, none, more, SameOption, neither, both, Same, nil, truth, number, text, table, closure, builtin, markup}
use Rattle.lua_meaning.specs.Scope.{Bytes}
use Rattle.lua_meaning.specs.Values.{kind_of, first, rest, second, third, number_in, text_in, is_function}
use Rattle.lua_meaning.specs.Messages.{bad_argument, expected}
use Rattle.lua_meaning.specs.Arguments.{text_charge, a_table, some_value, some_number, a_number, number_or, some_text, a_text}
use Rattle.lua_meaning.specs.Checks.{fourth, text_or}
use Rattle.lua_meaning.specs.CallBacks.{text_of}
use Rattle.lua_library_agree.specs.Same.{SameArgument, both_ok, both_err}

-- LISTS
pub one-each : {m : Map} {v w : Value} → Same m v w → Each (Same m) (v ∷ []) (w ∷ [])
one-each e = more _ _ _ _ e none

pub first-same : {m : Map} {vs ws : List Value} → Each (Same m) vs ws → Same m (first vs) (first ws)
first-same none = nil
first-same (more x y xs ys r e) = r

pub rest-same : {m : Map} {vs ws : List Value} → Each (Same m) vs ws → Each (Same m) (rest vs) (rest ws)
rest-same none = none
rest-same (more x y xs ys r e) = e

pub second-same : {m : Map} {vs ws : List Value} → Each (Same m) vs ws → Same m (second vs) (second ws)
second-same e = first-same (rest-same e)

pub third-same : {m : Map} {vs ws : List Value} → Each (Same m) vs ws → Same m (third vs) (third ws)
third-same e = second-same (rest-same e)

pub fourth-same : {m : Map} {vs ws : List Value} → Each (Same m) vs ws → Same m (fourth vs) (fourth ws)
fourth-same e = third-same (rest-same e)

pub drop-same : {m : Map} (n : ℕ) {vs ws : List Value} → Each (Same m) vs ws → Each (Same m) (drop n vs) (drop n ws)
drop-same zero e = e
drop-same (suc n) none = none
drop-same (suc n) (more x y xs ys r e) = drop-same n e

pub each-length : {A B : Type 0} {Q : A → B → Type 0} {xs : List A} {ys : List B} → Each Q xs ys → length xs ≡ length ys
each-length none = refl
each-length (more x y xs ys r e) = ap suc (each-length e)

pub each-get : {A B : Type 0} {Q : A → B → Type 0} {xs : List A} {ys : List B} → Each Q xs ys → (n : ℕ) → SameOption Q (slice_get xs n) (slice_get ys n)
each-get none n = neither
each-get (more x y xs ys r e) zero = both x y r
each-get (more x y xs ys r e) (suc n) = each-get e n

pub each-set : {A B : Type 0} {Q : A → B → Type 0} {xs : List A} {ys : List B} → Each Q xs ys → (n : ℕ) (a : A) (b : B) → Q a b → Each Q (slice_set xs n a) (slice_set ys n b)
each-set none n a b q = none
each-set (more x y xs ys r e) zero a b q = more a b xs ys q e
each-set (more x y xs ys r e) (suc n) a b q = more x y _ _ r (each-set e n a b q)

pub each-append : {A B : Type 0} {Q : A → B → Type 0} {xs : List A} {ys : List B} → Each Q xs ys → {us : List A} {vs : List B} → Each Q us vs → Each Q (xs ++ us) (ys ++ vs)
each-append none f = f
each-append (more x y xs ys r e) f = more x y _ _ r (each-append e f)

pub each-widen : {A B : Type 0} {P Q : A → B → Type 0} → ((a : A) (b : B) → P a b → Q a b) → {xs : List A} {ys : List B} → Each P xs ys → Each Q xs ys
each-widen f none = none
each-widen f (more x y xs ys r e) = more x y _ _ (f x y r) (each-widen f e)

-- PLAIN VALUES of equal content
pub truth-same : {m : Map} {b c : Bool} → b ≡ c → Same m (Truth b) (Truth c)
truth-same {m} {b} e = subst (λ c. Same m (Truth b) (Truth c)) e (truth b)

pub number-same : {m : Map} {a b : ℤ} → a ≡ b → Same m (Number a) (Number b)
number-same {m} {a} e = subst (λ b. Same m (Number a) (Number b)) e (number a)

pub text-same : {m : Map} {a b : Bytes} → a ≡ b → Same m (Text a) (Text b)
text-same {m} {a} e = subst (λ b. Same m (Text a) (Text b)) e (text a)

-- WHAT IS READ of values
pub kind-same : {m : Map} {v w : Value} → Same m v w → kind_of v ≡ kind_of w
kind-same nil = refl
kind-same (truth b) = refl
kind-same (number n) = refl
kind-same (text t) = refl
kind-same (table a b e) = refl
kind-same (closure a b e) = refl
kind-same (builtin b) = refl
kind-same (markup a b e) = refl

pub number_in-same : {m : Map} {v w : Value} → Same m v w → number_in v ≡ number_in w
number_in-same nil = refl
number_in-same (truth b) = refl
number_in-same (number n) = refl
number_in-same (text t) = refl
number_in-same (table a b e) = refl
number_in-same (closure a b e) = refl
number_in-same (builtin b) = refl
number_in-same (markup a b e) = refl

pub text_in-same : {m : Map} {v w : Value} → Same m v w → text_in v ≡ text_in w
text_in-same nil = refl
text_in-same (truth b) = refl
text_in-same (number n) = refl
text_in-same (text t) = refl
text_in-same (table a b e) = refl
text_in-same (closure a b e) = refl
text_in-same (builtin b) = refl
text_in-same (markup a b e) = refl

pub text_of-same : {m : Map} {v w : Value} → Same m v w → text_of v ≡ text_of w
text_of-same nil = refl
text_of-same (truth b) = refl
text_of-same (number n) = refl
text_of-same (text t) = refl
text_of-same (table a b e) = refl
text_of-same (closure a b e) = refl
text_of-same (builtin b) = refl
text_of-same (markup a b e) = refl

pub is_true-same : {m : Map} {v w : Value} → Same m v w → is_true v ≡ is_true w
is_true-same nil = refl
is_true-same (truth b) = refl
is_true-same (number n) = refl
is_true-same (text t) = refl
is_true-same (table a b e) = refl
is_true-same (closure a b e) = refl
is_true-same (builtin b) = refl
is_true-same (markup a b e) = refl

pub is_function-same : {m : Map} {v w : Value} → Same m v w → is_function v ≡ is_function w
is_function-same nil = refl
is_function-same (truth b) = refl
is_function-same (number n) = refl
is_function-same (text t) = refl
is_function-same (table a b e) = refl
is_function-same (closure a b e) = refl
is_function-same (builtin b) = refl
is_function-same (markup a b e) = refl

-- ARGUMENTS AND THEIR MESSAGES
pub expected-same : {m : Map} (kind : Bytes) {vs ws : List Value} → Each (Same m) vs ws → expected kind vs ≡ expected kind ws
expected-same kind none = refl
expected-same kind (more x y xs ys r e) = ap (λ (k : Bytes). kind ++ codes " expected, got " ++ k) (kind-same r)

pub bad-same : {m : Map} (n : ℕ) (name kind : Bytes) {vs ws : List Value} → Each (Same m) vs ws → bad_argument n name (expected kind vs) ≡ bad_argument n name (expected kind ws)
bad-same n name kind e = ap (bad_argument n name) (expected-same kind e)

pub err-same : {A B : Type 0} {Q : A → B → Type 0} {a b : Bytes} → a ≡ b → SameArgument Q (Err a) (Err b)
err-same {A} {B} {Q} {a} e = subst (λ b. SameArgument Q (Err a) (Err b)) e (both_err a)

abbrev pub SameTab : Map → ℕ → ℕ → Type 0
SameTab m a b = m.to (tab a) ≡ Some (tab b)

pub a_table-same : {m : Map} (n : ℕ) (name : Bytes) {vs ws : List Value} → Each (Same m) vs ws → SameArgument (SameTab m) (a_table n name vs) (a_table n name ws)
a_table-same n name none = both_err _
a_table-same n name (more _ _ _ _ nil e) = both_err _
a_table-same n name (more _ _ _ _ (truth b) e) = both_err _
a_table-same n name (more _ _ _ _ (number b) e) = both_err _
a_table-same n name (more _ _ _ _ (text b) e) = both_err _
a_table-same n name (more _ _ _ _ (table a b x) e) = both_ok a b x
a_table-same n name (more _ _ _ _ (closure a b x) e) = both_err _
a_table-same n name (more _ _ _ _ (builtin b) e) = both_err _
a_table-same n name (more _ _ _ _ (markup a b x) e) = both_err _

pub some_value-same : {A B : Type 0} {Q : A → B → Type 0} {a b : Bytes} → a ≡ b → {o : Option A} {p : Option B} → SameOption Q o p → SameArgument Q (some_value a o) (some_value b p)
some_value-same e neither = err-same e
some_value-same e (both x y r) = both_ok x y r

some_number-same : (n : ℕ) (name : Bytes) {m : Map} {vs ws : List Value} → Each (Same m) vs ws → (o : Option ℤ) → some_number n name vs o ≡ some_number n name ws o
some_number-same n name e (Some z) = refl
some_number-same n name e None = ap Err (bad-same n name (codes "number") e)

pub a_number-same : {m : Map} (n : ℕ) (name : Bytes) {vs ws : List Value} → Each (Same m) vs ws → a_number n name vs ≡ a_number n name ws
a_number-same n name {vs} {ws} e = ap (some_number n name vs) (number_in-same (first-same e)) ∙ some_number-same n name e (number_in (first ws))

pub number_or-same : {m : Map} (default other : ℤ) → default ≡ other → (n : ℕ) (name : Bytes) {vs ws : List Value} → Each (Same m) vs ws → number_or default n name vs ≡ number_or other n name ws
number_or-same d d' k n name none = ap Ok k
number_or-same d d' k n name (more _ _ _ _ nil e) = ap Ok k
number_or-same d d' k n name (more _ _ xs ys (truth b) e) = a_number-same n name (more _ _ xs ys (truth b) e)
number_or-same d d' k n name (more _ _ xs ys (number b) e) = a_number-same n name (more _ _ xs ys (number b) e)
number_or-same d d' k n name (more _ _ xs ys (text b) e) = a_number-same n name (more _ _ xs ys (text b) e)
number_or-same d d' k n name (more _ _ xs ys (table a b x) e) = a_number-same n name (more _ _ xs ys (table a b x) e)
number_or-same d d' k n name (more _ _ xs ys (closure a b x) e) = a_number-same n name (more _ _ xs ys (closure a b x) e)
number_or-same d d' k n name (more _ _ xs ys (builtin b) e) = a_number-same n name (more _ _ xs ys (builtin b) e)
number_or-same d d' k n name (more _ _ xs ys (markup a b x) e) = a_number-same n name (more _ _ xs ys (markup a b x) e)

some_text-same : (n : ℕ) (name : Bytes) {m : Map} {vs ws : List Value} → Each (Same m) vs ws → (o : Option Bytes) → some_text n name vs o ≡ some_text n name ws o
some_text-same n name e (Some t) = refl
some_text-same n name e None = ap Err (bad-same n name (codes "string") e)

pub a_text-same : {m : Map} (n : ℕ) (name : Bytes) {vs ws : List Value} → Each (Same m) vs ws → a_text n name vs ≡ a_text n name ws
a_text-same n name {vs} {ws} e = ap (some_text n name vs) (text_in-same (first-same e)) ∙ some_text-same n name e (text_in (first ws))

pub text_or-same : {m : Map} (default : Bytes) (n : ℕ) (name : Bytes) {vs ws : List Value} → Each (Same m) vs ws → text_or default n name vs ≡ text_or default n name ws
text_or-same d n name none = refl
text_or-same d n name (more _ _ _ _ nil e) = refl
text_or-same d n name (more _ _ xs ys (truth b) e) = a_text-same n name (more _ _ xs ys (truth b) e)
text_or-same d n name (more _ _ xs ys (number b) e) = a_text-same n name (more _ _ xs ys (number b) e)
text_or-same d n name (more _ _ xs ys (text b) e) = a_text-same n name (more _ _ xs ys (text b) e)
text_or-same d n name (more _ _ xs ys (table a b x) e) = a_text-same n name (more _ _ xs ys (table a b x) e)
text_or-same d n name (more _ _ xs ys (closure a b x) e) = a_text-same n name (more _ _ xs ys (closure a b x) e)
text_or-same d n name (more _ _ xs ys (builtin b) e) = a_text-same n name (more _ _ xs ys (builtin b) e)
text_or-same d n name (more _ _ xs ys (markup a b x) e) = a_text-same n name (more _ _ xs ys (markup a b x) e)

pub text_charge-same : {m : Map} {vs ws : List Value} → Each (Same m) vs ws → text_charge vs ≡ text_charge ws
text_charge-same none = refl
text_charge-same (more _ _ _ _ nil e) = text_charge-same e
text_charge-same (more _ _ _ _ (truth b) e) = text_charge-same e
text_charge-same (more _ _ _ _ (number b) e) = text_charge-same e
text_charge-same (more _ _ _ _ (text t) e) = ap (λ (n : ℕ). length t + n) (text_charge-same e)
text_charge-same (more _ _ _ _ (table a b x) e) = text_charge-same e
text_charge-same (more _ _ _ _ (closure a b x) e) = text_charge-same e
text_charge-same (more _ _ _ _ (builtin b) e) = text_charge-same e
text_charge-same (more _ _ _ _ (markup a b x) e) = text_charge-same e
