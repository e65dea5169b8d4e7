-- The functions of `table` (manual 5.5) do the same to two heaps, of which one stands in the other.
use Rattle.std.proofs.Common.{◌≡◌, ℕ, zero, suc, ◌+◌, ◌&&◌, ◌||◌, ℤ, pos, ◌+ℤ◌, Bool, true, false, if◌then◌else◌, List, [], ◌∷◌, ◌++◌, length, is_some, nat_le, nat_lt, ◌≤◌, arith, rules, refl, ◌∙◌, ap, subst}
use Rattle.std.specs.Prelude.{codes, int_lt}
use Rattle.std.specs.Int.{int_max}
use Rattle.std.specs.Ordering.{is_le}
use Rattle.lua_meaning.specs.LuaNumberWhole.{fits}
use Rattle.lua_heap.specs.Value.{Value, Nil, Number, Text, is_nil}
use Rattle.lua_heap.specs.Table.{Entries, get, has, border}
use Rattle.lua_heap.specs.Heap.{Heap, table_at, set_in}
use Rattle.lua_heap.specs.Related.{Map, Each, none, more, Same, nil, truth, number, text, table, closure, builtin, markup, SameEntries, Stands, Moved}
use Rattle.lua_heap.proofs.Entries.{nil-related, get-related, has-related, border-related}
use Rattle.lua_heap.proofs.Changes.{moved-set}
use Rattle.lua_heap.proofs.Steps.{moved-same, moved-then}
use Rattle.lua_meaning.specs.Charges.{entry_charge}
use Rattle.lua_meaning.specs.Scope.{Bytes}
use Rattle.lua_meaning.specs.Values.{rest}
use Rattle.lua_meaning.specs.Messages.{bad_argument, expected, read_only}
use Rattle.lua_meaning.specs.Arguments.{Plain, gives_text, fails, costs}
use Rattle.lua_meaning.specs.Basic.{set_charge, count_between, entries_from}
use Rattle.lua_library_agree.specs.Same.{both_give, SamePlain}
use Rattle.lua_library_agree.proofs.Values.{one-each, first-same, rest-same, second-same, third-same, each-length, each-append, text_in-same, kind-same, SameTab, a_table-same, a_number-same, number_or-same, text_or-same, number-same}
use Rattle.lua_library_agree.proofs.Heaps.{one-one, table-stood, entries-stood, giving, giving_text, failing, branch, with-argument, with-equal, charging, costing, stays-writable}
use Rattle.lua_meaning.specs.Checks.{a_nil}
use Rattle.lua_meaning.specs.TableLibrary.{put_from, put_charge, Walk, PassedAll, Refused, one_passed, walk, is_part, part, behind_parts, joined, concat_values, concat_between, concat, insert_values, insert_at, append, insert, number_key, greater_key, greatest_key, maxn, remove_values, remove_at, remove, is_number, is_string, goes_with, may_stand, wanted_kind, value_cmp, put_in_order, in_order, order_charge, sort_values, sort_walked, sort_table, sort}

-- FURTHER ARGUMENTS
a_nil-same : {m : Map} (n : ℕ) (name : Bytes) {vs ws : List Value} → Each (Same m) vs ws → a_nil n name vs ≡ a_nil n name ws
a_nil-same k name none = refl
a_nil-same k name (more _ _ _ _ nil e) = refl
a_nil-same k name (more _ _ _ _ (truth b) e) = refl
a_nil-same k name (more _ _ _ _ (number b) e) = refl
a_nil-same k name (more _ _ _ _ (text b) e) = refl
a_nil-same k name (more _ _ _ _ (table a b x) e) = refl
a_nil-same k name (more _ _ _ _ (closure a b x) e) = refl
a_nil-same k name (more _ _ _ _ (builtin b) e) = refl
a_nil-same k name (more _ _ _ _ (markup a b x) e) = refl

-- VALUES
part-same : {m : Map} {v w : Value} → Same m v w → part v ≡ part w
part-same nil = refl
part-same (truth b) = refl
part-same (number b) = refl
part-same (text b) = refl
part-same (table a b x) = refl
part-same (closure a b x) = refl
part-same (builtin b) = refl
part-same (markup a b x) = refl

is_part-same : {m : Map} {v w : Value} → Same m v w → is_part v ≡ is_part w
is_part-same e = ap is_some (text_in-same e)

is_number-same : {m : Map} {v w : Value} → Same m v w → is_number v ≡ is_number w
is_number-same nil = refl
is_number-same (truth b) = refl
is_number-same (number b) = refl
is_number-same (text b) = refl
is_number-same (table a b x) = refl
is_number-same (closure a b x) = refl
is_number-same (builtin b) = refl
is_number-same (markup a b x) = refl

is_string-same : {m : Map} {v w : Value} → Same m v w → is_string v ≡ is_string w
is_string-same nil = refl
is_string-same (truth b) = refl
is_string-same (number b) = refl
is_string-same (text b) = refl
is_string-same (table a b x) = refl
is_string-same (closure a b x) = refl
is_string-same (builtin b) = refl
is_string-same (markup a b x) = refl

goes_with-same : {m : Map} {u v w x : Value} → Same m u v → Same m w x → goes_with u w ≡ goes_with v x
goes_with-same nil f = refl
goes_with-same (truth b) f = refl
goes_with-same (number b) f = is_number-same f
goes_with-same (text b) f = is_string-same f
goes_with-same (table a b x) f = refl
goes_with-same (closure a b x) f = refl
goes_with-same (builtin b) f = refl
goes_with-same (markup a b x) f = refl

wanted-same : {m : Map} {v w : Value} → Same m v w → wanted_kind v ≡ wanted_kind w
wanted-same nil = refl
wanted-same (truth b) = refl
wanted-same (number b) = refl
wanted-same (text b) = refl
wanted-same (table a b x) = refl
wanted-same (closure a b x) = refl
wanted-same (builtin b) = refl
wanted-same (markup a b x) = refl

key-same : {m : Map} {v w : Value} → Same m v w → number_key v ≡ number_key w
key-same nil = refl
key-same (truth b) = refl
key-same (number b) = refl
key-same (text b) = refl
key-same (table a b x) = refl
key-same (closure a b x) = refl
key-same (builtin b) = refl
key-same (markup a b x) = refl

-- a number or a string has an order with one of its kind, any other value with none
cmp-number : {m : Map} (a : ℤ) {v w : Value} → Same m v w → value_cmp (Number a) v ≡ value_cmp (Number a) w
cmp-number a nil = refl
cmp-number a (truth b) = refl
cmp-number a (number b) = refl
cmp-number a (text b) = refl
cmp-number a (table _ b x) = refl
cmp-number a (closure _ b x) = refl
cmp-number a (builtin b) = refl
cmp-number a (markup _ b x) = refl

cmp-text : {m : Map} (a : Bytes) {v w : Value} → Same m v w → value_cmp (Text a) v ≡ value_cmp (Text a) w
cmp-text a nil = refl
cmp-text a (truth b) = refl
cmp-text a (number b) = refl
cmp-text a (text b) = refl
cmp-text a (table _ b x) = refl
cmp-text a (closure _ b x) = refl
cmp-text a (builtin b) = refl
cmp-text a (markup _ b x) = refl

cmp-same : {m : Map} {u v w x : Value} → Same m u v → Same m w x → value_cmp u w ≡ value_cmp v x
cmp-same nil f = refl
cmp-same (truth b) f = refl
cmp-same (number b) f = cmp-number b f
cmp-same (text b) f = cmp-text b f
cmp-same (table a b x) f = refl
cmp-same (closure a b x) f = refl
cmp-same (builtin b) f = refl
cmp-same (markup a b x) f = refl

-- LISTS
chosen-each : {m : Map} (b c : Bool) {us vs ws xs : List Value} → b ≡ c → Each (Same m) us vs → Each (Same m) ws xs → Each (Same m) (if b then us else ws) (if c then vs else xs)
chosen-each true true e p q = p
chosen-each false false e p q = q
chosen-each true false e p q = absurd cc
chosen-each false true e p q = absurd cc

put-same : {m : Map} {v w : Value} {vs ws : List Value} → Same m v w → Each (Same m) vs ws → Each (Same m) (put_in_order value_cmp v vs) (put_in_order value_cmp w ws)
put-same e none = one-each e
put-same {m} {v} {w} e (more x y xs ys r es) = chosen-each (is_le (value_cmp v x)) (is_le (value_cmp w y)) (ap is_le (cmp-same e r)) (more _ _ _ _ e (more x y xs ys r es)) (more _ _ _ _ r (put-same e es))

order-same : {m : Map} {vs ws : List Value} → Each (Same m) vs ws → Each (Same m) (in_order value_cmp vs) (in_order value_cmp ws)
order-same none = none
order-same (more x y xs ys r e) = put-same r (order-same e)

behind-same : {m : Map} (sep : Bytes) {vs ws : List Value} → Each (Same m) vs ws → behind_parts sep vs ≡ behind_parts sep ws
behind-same sep none = refl
behind-same sep (more x y xs ys r e) = ap (λ (t : Bytes). sep ++ t ++ behind_parts sep xs) (part-same r) ∙ ap (λ (t : Bytes). sep ++ part y ++ t) (behind-same sep e)

joined-same : {m : Map} (sep : Bytes) {vs ws : List Value} → Each (Same m) vs ws → joined sep vs ≡ joined sep ws
joined-same sep none = refl
joined-same sep (more x y xs ys r e) = ap (λ (t : Bytes). t ++ behind_parts sep xs) (part-same r) ∙ ap (λ (t : Bytes). part y ++ t) (behind-same sep e)

-- WALKS that pass the same
pub data SameWalk (m : Map) : Walk → Walk → Type 0 where
  both_pass : SameWalk m PassedAll PassedAll
  both_refuse : (k : ℕ) (v w : Value) → Same m v w → SameWalk m (Refused k v) (Refused k w)

one_passed-same : {m : Map} {a b : Walk} → SameWalk m a b → SameWalk m (one_passed a) (one_passed b)
one_passed-same both_pass = both_pass
one_passed-same (both_refuse k v w e) = both_refuse (suc k) v w e

chosen-walk : {m : Map} (b c : Bool) {p q r s : Walk} → b ≡ c → SameWalk m p q → SameWalk m r s → SameWalk m (if b then p else r) (if c then q else s)
chosen-walk true true e p q = p
chosen-walk false false e p q = q
chosen-walk true false e p q = absurd cc
chosen-walk false true e p q = absurd cc

walk-same : {m : Map} (test other : Value → Bool) → ((v w : Value) → Same m v w → test v ≡ other w) → {vs ws : List Value} → Each (Same m) vs ws → SameWalk m (walk test vs) (walk other ws)
walk-same test other agree none = both_pass
walk-same test other agree (more x y xs ys r e) = chosen-walk (test x) (other y) (agree x y r) (one_passed-same (walk-same test other agree e)) (both_refuse 0 x y r)

some_there : (n : ℕ) → nat_lt 0 (suc n) ≡ false → ⊥
some_there n h = let none : suc n ≤ 0 = grind (arith, rules, h) in omega (arith, none)

-- ENTRIES
abbrev charge_of : Bool → Bool → ℕ
charge_of a b = if a || b then 0 else entry_charge

greatest-same : {m : Map} (n : ℤ) {es fs : Entries} → SameEntries m es fs → greatest_key n es ≡ greatest_key n fs
greatest-same n none = refl
greatest-same {m} n (more x y xs ys r e) =
    ap (λ k. greatest_key k xs) (ap (λ (b : Bool). if b then n else int_max n (number_key x.0)) (nil-related m x.1 y.1 r.value) ∙ ap (λ k. if is_nil y.1 then n else int_max n k) (key-same r.key))
    ∙ greatest-same (greater_key n y) e

module _ {X Y : Type 0} (R : Map → X → Y → Type 0) (m : Map) where
  -- values are put into tables that can be written
  put_from-moved : (h : Heap X) (s : Heap Y) (st : Stands R m h s) (a b : ℕ) → SameTab m a b → (table_at s b).frozen ≡ false → (i : ℤ) {vs ws : List Value} → Each (Same m) vs ws
      → Moved R m m h (put_from i vs a h) s (put_from i ws b s)
  put_from-moved h s st a b e open_ i none = moved-same R m h s st
  put_from-moved h s st a b e open_ i (more v w vs ws r es) =
      let one = moved-set R m h s a b (Number i) (Number i) v w st e open_ (number i) r in
      let still = stays-writable R m m h (set_in h a (Number i) v) s (set_in s b (Number i) w) one a b e open_ in
      moved-then R m m m h (set_in h a (Number i) v) (put_from (i +ℤ pos 1) vs a (set_in h a (Number i) v)) s (set_in s b (Number i) w) (put_from (i +ℤ pos 1) ws b (set_in s b (Number i) w)) one
      (put_from-moved (set_in h a (Number i) v) (set_in s b (Number i) w) one.stands a b e still (i +ℤ pos 1) es)

  module _ (h : Heap X) (s : Heap Y) (st : Stands R m h s) where
    abbrev Alike : Plain X → Plain Y → Type 0
    Alike p q = SamePlain R m h s p q

    charge-same : (es fs : Entries) (i : ℤ) (v w : Value) → SameEntries m es fs → Same m v w → set_charge es (Number i) v ≡ set_charge fs (Number i) w
    charge-same es fs i v w e r =
        ap (λ (b : Bool). charge_of b (is_nil v)) (has-related m (one-one R m h s st) es fs (Number i) (Number i) e (number i)) ∙ ap (charge_of (has fs (Number i))) (nil-related m v w r)

    put_charge-same : (es fs : Entries) (i : ℤ) {vs ws : List Value} → SameEntries m es fs → Each (Same m) vs ws → put_charge i vs es ≡ put_charge i ws fs
    put_charge-same es fs i e none = refl
    put_charge-same es fs i e (more v w vs ws r more_) =
        ap (λ (k : ℕ). 1 + k + put_charge (i +ℤ pos 1) vs es) (charge-same es fs i v w e r) ∙ ap (λ (k : ℕ). 1 + set_charge fs (Number i) w + k) (put_charge-same es fs (i +ℤ pos 1) e more_)

    read-same : (n : ℕ) (i : ℤ) (es fs : Entries) → SameEntries m es fs → Each (Same m) (entries_from n i es) (entries_from n i fs)
    read-same zero i es fs e = none
    read-same (suc n) i es fs e = more _ _ _ _ (get-related m (one-one R m h s st) es fs _ _ e (number i)) (read-same n (i +ℤ pos 1) es fs e)

    border-same : (a b : ℕ) → SameTab m a b → border (table_at h a).entries ≡ border (table_at s b).entries
    border-same a b x = border-related m (one-one R m h s st) _ _ (entries-stood R m h s st a b x)

    putting : (c d : ℕ) → c ≡ d → (a b : ℕ) → SameTab m a b → (table_at s b).frozen ≡ false → (i : ℤ) {vs ws gs hs : List Value} → Each (Same m) vs ws → Each (Same m) gs hs
        → Alike (costs c (put_from i vs a h) gs) (costs d (put_from i ws b s) hs)
    putting c d k a b x open_ i e f = record { charge = k; names = m; moved = put_from-moved h s st a b x open_ i e; end = both_give _ _ f }

    -- CONCAT
    concat_values-same : (sep : Bytes) (i : ℤ) {vs ws : List Value} {p q : Walk} → Each (Same m) vs ws → SameWalk m p q → Alike (concat_values h sep i vs p) (concat_values s sep i ws q)
    concat_values-same sep i {vs} {ws} e both_pass =
        charging R m h s st _ _ (each-length e) _ _ (subst (λ t. Alike (gives_text h (joined sep vs)) (gives_text s t)) (joined-same sep e) (giving_text R m h s st _))
    concat_values-same sep i e (both_refuse k v w r) = charging R m h s st (suc k) (suc k) refl _ _ (failing R m h s st _)

    concat_between-same : (a b : ℕ) → SameTab m a b → (sep : Bytes) (i j : ℤ) → Alike (concat_between a sep i j h) (concat_between b sep i j s)
    concat_between-same a b x sep i j =
        let e = read-same (count_between i j) i _ _ (entries-stood R m h s st a b x) in
        concat_values-same sep i e (walk-same is_part is_part (λ v w r. is_part-same r) e)

    pub concat-same : (vs ws : List Value) → Each (Same m) vs ws → Alike (concat vs h) (concat ws s)
    concat-same vs ws e =
        with-argument R m h s st _ _ (a_table-same 1 (codes "concat") e) (λ a b x.
        with-equal R m h s st _ _ _ _ (text_or-same [] 2 (codes "concat") (rest-same e)) (λ sep.
        with-equal R m h s st _ _ _ _ (number_or-same (pos 1) (pos 1) refl 3 (codes "concat") (rest-same (rest-same e))) (λ i.
        with-equal R m h s st _ _ _ _ (number_or-same _ _ (ap pos (border-same a b x)) 4 (codes "concat") (rest-same (rest-same (rest-same e)))) (λ j.
        concat_between-same a b x sep i j))))

    -- INSERT
    insert_values-same : (a b : ℕ) → SameTab m a b → (table_at s b).frozen ≡ false → (place : ℤ) (moved : ℕ) (v w : Value) → Same m v w → Alike (insert_values a place moved v h) (insert_values b place moved w s)
    insert_values-same a b x open_ place moved v w r =
        let es = entries-stood R m h s st a b x in
        let vs = more _ _ _ _ r (read-same moved place _ _ es) in
        branch R m h s st (fits (place +ℤ pos moved)) (fits (place +ℤ pos moved)) refl
        (λ _. putting _ _ (ap (λ (k : ℕ). moved + k) (put_charge-same _ _ place es vs)) a b x open_ place vs none)
        (λ _. failing R m h s st _)

    insert_at-same : (a b : ℕ) → SameTab m a b → (place : ℤ) (v w : Value) → Same m v w → Alike (insert_at a place v h) (insert_at b place w s)
    insert_at-same a b x place v w r =
        branch R m h s st (int_lt place (pos 1)) (int_lt place (pos 1)) refl (λ _. failing R m h s st _) (λ _.
        branch R m h s st _ _ (table-stood R m h s st a b x).frozen (λ _. failing R m h s st read_only) (λ o.
        subst (λ k. Alike (insert_values a place (count_between place (pos (border (table_at h a).entries))) v h) (insert_values b place (count_between place (pos k)) w s)) (border-same a b x)
        (insert_values-same a b x o place _ v w r)))

    append-same : (a b : ℕ) → SameTab m a b → (v w : Value) → Same m v w → Alike (append a v h) (append b w s)
    append-same a b x v w r =
        branch R m h s st _ _ (table-stood R m h s st a b x).frozen (λ _. failing R m h s st read_only) (λ o.
        subst (λ (k : ℕ). Alike (insert_values a (pos (border (table_at h a).entries + 1)) 0 v h) (insert_values b (pos (k + 1)) 0 w s)) (border-same a b x)
        (insert_values-same a b x o (pos (border (table_at h a).entries + 1)) 0 v w r))

    pub insert-same : (vs ws : List Value) → Each (Same m) vs ws → Alike (insert vs h) (insert ws s)
    insert-same vs ws e =
        with-argument R m h s st _ _ (a_table-same 1 (codes "insert") e) (λ a b x.
        branch R m h s st (nat_lt 2 (length vs)) (nat_lt 2 (length ws)) (ap (nat_lt 2) (each-length e))
        (λ _. with-equal R m h s st _ _ _ _ (a_number-same 2 (codes "insert") (rest-same e)) (λ place. insert_at-same a b x place _ _ (third-same e)))
        (λ _. append-same a b x _ _ (second-same e)))

    -- MAXN
    pub maxn-same : (vs ws : List Value) → Each (Same m) vs ws → Alike (maxn vs h) (maxn ws s)
    maxn-same vs ws e =
        with-argument R m h s st _ _ (a_table-same 1 (codes "maxn") e) (λ a b x.
        let es = entries-stood R m h s st a b x in
        costing R m h s st _ _ (each-length es) (one-each (number-same (greatest-same (pos 0) es))))

    -- REMOVE
    remove_values-same : (a b : ℕ) → SameTab m a b → (table_at s b).frozen ≡ false → (place : ℤ) {vs ws : List Value} → Each (Same m) vs ws → Alike (remove_values a place vs h) (remove_values b place ws s)
    remove_values-same a b x open_ place {vs} {ws} e =
        let moved = each-append (rest-same e) (one-each nil) in
        let charge = put_charge-same _ _ place (entries-stood R m h s st a b x) moved in
        putting _ _ (ap (λ (k : ℕ). k + put_charge place (rest vs ++ Nil ∷ []) (table_at h a).entries) (each-length e) ∙ ap (λ (k : ℕ). length ws + k) charge) a b x open_ place moved (one-each (first-same e))

    remove_at-same : (a b : ℕ) → SameTab m a b → (place : ℤ) → Alike (remove_at a place h) (remove_at b place s)
    remove_at-same a b x place =
        let edge = border-same a b x in
        branch R m h s st (int_lt place (pos 1) || int_lt (pos (border (table_at h a).entries)) place) (int_lt place (pos 1) || int_lt (pos (border (table_at s b).entries)) place)
        (ap (λ (k : ℕ). int_lt place (pos 1) || int_lt (pos k) place) edge) (λ _. giving R m h s st none) (λ _.
        branch R m h s st _ _ (table-stood R m h s st a b x).frozen (λ _. failing R m h s st read_only) (λ o.
        subst (λ (k : ℕ). Alike (remove_values a place (entries_from (count_between place (pos (border (table_at h a).entries))) place (table_at h a).entries) h) (remove_values b place (entries_from (count_between place (pos k)) place (table_at s b).entries) s)) edge
        (remove_values-same a b x o place (read-same _ place _ _ (entries-stood R m h s st a b x)))))

    pub remove-same : (vs ws : List Value) → Each (Same m) vs ws → Alike (remove vs h) (remove ws s)
    remove-same vs ws e =
        with-argument R m h s st _ _ (a_table-same 1 (codes "remove") e) (λ a b x.
        with-equal R m h s st _ _ _ _ (number_or-same _ _ (ap pos (border-same a b x)) 2 (codes "remove") (rest-same e)) (λ place. remove_at-same a b x place))

    -- SORT
    -- a read-only table has no entries to put back
    put_back-same : (a b : ℕ) → SameTab m a b → {vs ws : List Value} → Each (Same m) vs ws → (f : Bool) → (table_at s b).frozen ≡ f → (f && nat_lt 0 (length ws)) ≡ false
        → Alike (costs (order_charge (length vs) + put_charge (pos 1) (in_order value_cmp vs) (table_at h a).entries) (put_from (pos 1) (in_order value_cmp vs) a h) [])
        (costs (order_charge (length ws) + put_charge (pos 1) (in_order value_cmp ws) (table_at s b).entries) (put_from (pos 1) (in_order value_cmp ws) b s) [])
    put_back-same a b x {vs} {ws} e false open_ o =
        let charge = put_charge-same _ _ (pos 1) (entries-stood R m h s st a b x) (order-same e) in
        putting _ _ (ap (λ (k : ℕ). order_charge k + put_charge (pos 1) (in_order value_cmp vs) (table_at h a).entries) (each-length e) ∙ ap (λ (k : ℕ). order_charge (length ws) + k) charge) a b x open_ (pos 1) (order-same e) none
    put_back-same a b x none true open_ o = costing R m h s st _ _ refl none
    put_back-same a b x (more v w vs ws r e) true open_ o = absurd (some_there (length ws) o)

    sort_values-same : (a b : ℕ) → SameTab m a b → {vs ws : List Value} → Each (Same m) vs ws → Alike (sort_values a vs h) (sort_values b ws s)
    sort_values-same a b x {vs} {ws} e =
        branch R m h s st _ _ (ap (λ (c : Bool). c && nat_lt 0 (length vs)) (table-stood R m h s st a b x).frozen ∙ ap (λ (k : ℕ). (table_at s b).frozen && nat_lt 0 k) (each-length e))
        (λ _. failing R m h s st read_only)
        (λ o. put_back-same a b x e (table_at s b).frozen refl o)

    sort_walked-same : (a b : ℕ) → SameTab m a b → (one other : Value) → Same m one other → {vs ws : List Value} {p q : Walk} → Each (Same m) vs ws → SameWalk m p q → Alike (sort_walked a one vs h p) (sort_walked b other ws s q)
    sort_walked-same a b x one other r e both_pass = charging R m h s st _ _ (each-length e) _ _ (sort_values-same a b x e)
    sort_walked-same a b x one other r e (both_refuse k v w f) =
        charging R m h s st (suc k) (suc k) refl _ _ (subst (λ t. Alike (fails h (bad_argument 1 (codes "sort") (expected (wanted_kind one) (v ∷ [])))) (fails s (bad_argument 1 (codes "sort") t))) (ap (λ (t : Bytes). expected t (v ∷ [])) (wanted-same r) ∙ ap (λ (t : Bytes). wanted_kind other ++ codes " expected, got " ++ t) (kind-same f)) (failing R m h s st _))

    sort_table-same : (a b : ℕ) → SameTab m a b → Alike (sort_table a h) (sort_table b s)
    sort_table-same a b x =
        let es = entries-stood R m h s st a b x in
        let one = get-related m (one-one R m h s st) _ _ _ _ es (number (pos 1)) in
        let vs = read-same (border (table_at h a).entries) (pos 1) _ _ es in
        subst (λ (k : ℕ). Alike (sort_table a h) (sort_walked b (get (table_at s b).entries (Number (pos 1))) (entries_from k (pos 1) (table_at s b).entries) s (walk (may_stand k (get (table_at s b).entries (Number (pos 1)))) (entries_from k (pos 1) (table_at s b).entries)))) (border-same a b x)
        (sort_walked-same a b x _ _ one vs (walk-same (may_stand (border (table_at h a).entries) (get (table_at h a).entries (Number (pos 1)))) (may_stand (border (table_at h a).entries) (get (table_at s b).entries (Number (pos 1)))) (λ v w r. ap (λ (c : Bool). nat_le (border (table_at h a).entries) 1 || c) (goes_with-same one r)) vs))

    pub sort-same : (vs ws : List Value) → Each (Same m) vs ws → Alike (sort vs h) (sort ws s)
    sort-same vs ws e =
        with-argument R m h s st _ _ (a_table-same 1 (codes "sort") e) (λ a b x.
        with-equal R m h s st _ _ _ _ (a_nil-same 2 (codes "sort") (rest-same e)) (λ none_. sort_table-same a b x))
