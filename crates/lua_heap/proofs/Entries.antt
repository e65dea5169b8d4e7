-- Tables that hold the same under a relation of their values: equal keys are found at the same places.
use Rattle.std.proofs.Common.{◌≡◌, ℕ, zero, suc, ◌+◌, pos, min, Bool, true, false, if◌then◌else◌, List, length, Option, Some, unwrap_or, is_some, refl, ◌∙◌, ap, subst}
use Rattle.std.specs.Option.{option_map}
use Rattle.std.specs.Map.{lookup}
use Rattle.lua_table.specs.Entries.{value_at, is_there, set_at, after_key, first_live, Stop}
use Rattle.lua_heap.specs.Value.{Value, Nil, Number, Table, Closure, Markup, same, is_nil}
use Rattle.lua_heap.specs.Table.{Entries, get, has, set, first_entry, next, border, border_from}
use Rattle.lua_heap.specs.Heap.{Ref, tab, clo, mar}
use Rattle.lua_heap.specs.Related.{Map, Each, none, more, SameOption, neither, both, SamePair, OneToOne, Same, nil, truth, number, text, table, closure, builtin, markup, SameEntries}
use Rattle.lua_heap.proofs.Values.{same-true, same-alike, both_ways}

choice : {A B : Type 0} (R : A → B → Type 0) (b c : Bool) (x y : A) (z w : B) → b ≡ c → R x z → R y w → R (if b then x else y) (if c then z else w)
choice R true true x y z w e p q = p
choice R false false x y z w e p q = q
choice R true false x y z w e p q = cc
choice R false true x y z w e p q = cc

each-length : {A B : Type 0} (R : A → B → Type 0) (xs : List A) (ys : List B) → Each R xs ys → length xs ≡ length ys
each-length R _ _ none = refl
each-length R _ _ (more x y xs ys r rest) = ap suc (each-length R xs ys rest)

-- the same stop, under a relation of values
pub record SameStop {V W : Type 0} (eq : V → V → Bool) (eq' : W → W → Bool) (nil : V) (nil' : W) (R : V → W → Type 0) (a : Stop eq nil) (b : Stop eq' nil') : Type 0 where
  pub key : R a.key b.key
  pub value : R a.value b.value
  pub passed : a.passed ≡ b.passed

module _ {V W : Type 0} (eq : V → V → Bool) (eq' : W → W → Bool) (nil : V) (nil' : W) (R : V → W → Type 0)
    (agree : (a b : V) (c d : W) → R a c → R b d → eq a b ≡ eq' c d) (nils : R nil nil') where
  pub lookup-related : (es : List (V × V)) (fs : List (W × W)) (k : V) (l : W) → Each (SamePair R) es fs → R k l → SameOption R (lookup (eq k) es) (lookup (eq' l) fs)
  lookup-related _ _ k l none r = neither
  lookup-related _ _ k l (more x y xs ys s rest) r =
      choice (SameOption R) (eq k x.0) (eq' l y.0) _ _ _ _ (agree _ _ _ _ r s.key) (both x.1 y.1 s.value) (lookup-related xs ys k l rest r)

  or-related : (a : Option V) (b : Option W) → SameOption R a b → R (unwrap_or a nil) (unwrap_or b nil')
  or-related _ _ neither = nils
  or-related _ _ (both x y r) = r

  some-related : (a : Option V) (b : Option W) → SameOption R a b → is_some a ≡ is_some b
  some-related _ _ neither = refl
  some-related _ _ (both x y r) = refl

  pub value_at-related : (es : List (V × V)) (fs : List (W × W)) (k : V) (l : W) → Each (SamePair R) es fs → R k l → R (value_at eq nil es k) (value_at eq' nil' fs l)
  value_at-related es fs k l s r = or-related _ _ (lookup-related es fs k l s r)

  pub is_there-related : (es : List (V × V)) (fs : List (W × W)) (k : V) (l : W) → Each (SamePair R) es fs → R k l → is_there eq nil es k ≡ is_there eq' nil' fs l
  is_there-related es fs k l s r = some-related _ _ (lookup-related es fs k l s r)

  pub set_at-related : (es : List (V × V)) (fs : List (W × W)) (k : V) (l : W) (v : V) (w : W) → Each (SamePair R) es fs → R k l → R v w
      → Each (SamePair R) (set_at eq nil es k v) (set_at eq' nil' fs l w)
  set_at-related _ _ k l v w none r t = choice (Each (SamePair R)) (eq v nil) (eq' w nil') _ _ _ _ (agree _ _ _ _ t nils) none (more _ _ _ _ (record { key = r; value = t }) none)
  set_at-related _ _ k l v w (more x y xs ys s rest) r t =
      choice (Each (SamePair R)) (eq k x.0) (eq' l y.0) _ _ _ _ (agree _ _ _ _ r s.key)
      (more _ _ _ _ (record { key = s.key; value = t }) rest)
      (more _ _ _ _ s (set_at-related xs ys k l v w rest r t))

  pub after_key-related : (es : List (V × V)) (fs : List (W × W)) (k : V) (l : W) → Each (SamePair R) es fs → R k l
      → SameOption (Each (SamePair R)) (after_key eq nil es k) (after_key eq' nil' fs l)
  after_key-related _ _ k l none r = neither
  after_key-related _ _ k l (more x y xs ys s rest) r =
      choice (SameOption (Each (SamePair R))) (eq k x.0) (eq' l y.0) _ _ _ _ (agree _ _ _ _ r s.key) (both xs ys rest) (after_key-related xs ys k l rest r)

  abbrev Stops : Stop eq nil → Stop eq' nil' → Type 0
  Stops a b = SameStop eq eq' nil nil' R a b

  pub first_live-related : (es : List (V × V)) (fs : List (W × W)) → Each (SamePair R) es fs → Stops (first_live eq nil es) (first_live eq' nil' fs)
  first_live-related _ _ none = record { key = nils; value = nils; passed = refl }
  first_live-related _ _ (more x y xs ys s rest) =
      let r = first_live-related xs ys rest in
      choice Stops (eq x.1 nil) (eq' y.1 nil') _ _ _ _ (agree _ _ _ _ s.value nils)
      (record { key = r.key; value = r.value; passed = ap (λ (n : ℕ). n + 1) r.passed })
      (record { key = s.key; value = s.value; passed = refl })

-- AT THE VALUES OF LUA, under a map that is one to one
tab_one : {o : Option Ref} {x y : ℕ} → o ≡ Some (tab x) → o ≡ Some (tab y) → x ≡ y
tab_one e f = cc

clo_one : {o : Option Ref} {x y : ℕ} → o ≡ Some (clo x) → o ≡ Some (clo y) → x ≡ y
clo_one e f = cc

mar_one : {o : Option Ref} {x y : ℕ} → o ≡ Some (mar x) → o ≡ Some (mar y) → x ≡ y
mar_one e f = cc

-- one value stands for one, and only for it
pub same-one : (m : Map) (v w u : Value) → Same m v w → Same m v u → w ≡ u
same-one m _ _ _ nil nil = refl
same-one m _ _ _ (truth k) (truth l) = refl
same-one m _ _ _ (number k) (number l) = refl
same-one m _ _ _ (text k) (text l) = refl
same-one m _ _ _ (builtin k) (builtin l) = refl
same-one m _ _ _ (table a b e) (table a' c f) = ap Table (tab_one e f)
same-one m _ _ _ (closure a b e) (closure a' c f) = ap Closure (clo_one e f)
same-one m _ _ _ (markup a b e) (markup a' c f) = ap Markup (mar_one e f)

pub same-back : (m : Map) (v w u : Value) → OneToOne m → Same m v u → Same m w u → v ≡ w
same-back m _ _ _ o nil nil = refl
same-back m _ _ _ o (truth k) (truth l) = refl
same-back m _ _ _ o (number k) (number l) = refl
same-back m _ _ _ o (text k) (text l) = refl
same-back m _ _ _ o (builtin k) (builtin l) = refl
same-back m _ _ _ o (table a b e) (table c b' f) = ap Table (one (o _ _ _ e f))
  where
    one : {x y : ℕ} → tab x ≡ tab y → x ≡ y
    one e = cc
same-back m _ _ _ o (closure a b e) (closure c b' f) = ap Closure (one (o _ _ _ e f))
  where
    one : {x y : ℕ} → clo x ≡ clo y → x ≡ y
    one e = cc
same-back m _ _ _ o (markup a b e) (markup c b' f) = ap Markup (one (o _ _ _ e f))
  where
    one : {x y : ℕ} → mar x ≡ mar y → x ≡ y
    one e = cc

pub same-related : (m : Map) → OneToOne m → (a b c d : Value) → Same m a c → Same m b d → same a b ≡ same c d
same-related m o a b c d p q = both_ways (same a b) (same c d)
    (λ e.
    let k : c ≡ d = same-one m b c d (subst (λ v. Same m v c) (same-true a b e) p) q in
    subst (λ v. same c v ≡ true) k (same-alike c))
    (λ e.
    let k : a ≡ b = same-back m a b d o (subst (λ v. Same m a v) (same-true c d e) p) q in
    subst (λ v. same a v ≡ true) k (same-alike a))

pub nil-related : (m : Map) (v w : Value) → Same m v w → is_nil v ≡ is_nil w
nil-related m _ _ nil = refl
nil-related m _ _ (truth k) = refl
nil-related m _ _ (number k) = refl
nil-related m _ _ (text k) = refl
nil-related m _ _ (builtin k) = refl
nil-related m _ _ (table a b e) = refl
nil-related m _ _ (closure a b e) = refl
nil-related m _ _ (markup a b e) = refl

module _ (m : Map) (o : OneToOne m) where
  pub get-related : (es fs : Entries) (k l : Value) → SameEntries m es fs → Same m k l → Same m (get es k) (get fs l)
  get-related es fs k l s r = value_at-related same same Nil Nil (Same m) (same-related m o) nil es fs k l s r

  pub has-related : (es fs : Entries) (k l : Value) → SameEntries m es fs → Same m k l → has es k ≡ has fs l
  has-related es fs k l s r = is_there-related same same Nil Nil (Same m) (same-related m o) nil es fs k l s r

  pub set-related : (es fs : Entries) (k l v w : Value) → SameEntries m es fs → Same m k l → Same m v w → SameEntries m (set es k v) (set fs l w)
  set-related es fs k l v w s r t = set_at-related same same Nil Nil (Same m) (same-related m o) nil es fs k l v w s r t

  pub first-related : (es fs : Entries) → SameEntries m es fs → SameStop same same Nil Nil (Same m) (first_entry es) (first_entry fs)
  first-related es fs s = first_live-related same same Nil Nil (Same m) (same-related m o) nil es fs s

  stops-related : (a b : Option Entries) → SameOption (SameEntries m) a b → SameOption (SameStop same same Nil Nil (Same m)) (option_map first_entry a) (option_map first_entry b)
  stops-related _ _ neither = neither
  stops-related _ _ (both x y r) = both _ _ (first-related x y r)

  pub next-related : (es fs : Entries) (k l : Value) → SameEntries m es fs → Same m k l → SameOption (SameStop same same Nil Nil (Same m)) (next es k) (next fs l)
  next-related es fs k l s r =
      choice (SameOption (SameStop same same Nil Nil (Same m))) (is_nil k) (is_nil l) _ _ _ _ (nil-related m k l r)
      (both _ _ (first-related es fs s))
      (stops-related _ _ (after_key-related same same Nil Nil (Same m) (same-related m o) nil es fs k l s r))

  border_from-related : (most n : ℕ) (es fs : Entries) → SameEntries m es fs → border_from most n es ≡ border_from most n fs
  border_from-related zero n es fs s = refl
  border_from-related (suc most) n es fs s =
      choice (λ (x y : ℕ). x ≡ y) (is_nil (get es (Number (pos (n + 1))))) (is_nil (get fs (Number (pos (n + 1))))) _ _ _ _
      (nil-related m _ _ (get-related es fs _ _ s (number (pos (n + 1))))) refl (border_from-related most (n + 1) es fs s)

  pub border-related : (es fs : Entries) → SameEntries m es fs → border es ≡ border fs
  border-related es fs s =
      border_from-related (min (length es) 9223372036854775807) 0 es fs s
      ∙ ap (λ (n : ℕ). border_from (min n 9223372036854775807) 0 fs) (each-length (SamePair (Same m)) es fs s)
