-- The basic functions that call back nobody (manual 5.1).
use Rattle.std.proofs.Common.{◌≡◌, ℕ, zero, suc, ◌-◌, ℤ, pos, negsuc, ◌+ℤ◌, Bool, ◌&&◌, ◌||◌, List, length, drop, Option, Some, None, refl, ◌∙◌, ap, subst, if◌then◌else◌, nat_le, nat_lt}
use Rattle.std.specs.Prelude.{codes}
use Rattle.std.specs.Ordering.{int_eq}
use Rattle.lua_heap.specs.Value.{Value, Nil, is_nil, same}
use Rattle.lua_heap.specs.Table.{Entries, has, behind_key}
use Rattle.lua_heap.specs.Heap.{Heap}
use Rattle.lua_heap.specs.Related.{Map, Each, none, more, SameOption, neither, both, Same, nil, truth, number, text, table, closure, builtin, markup, SameEntries, Stands}
use Rattle.lua_heap.proofs.Entries.{same-related, nil-related, get-related, has-related, border-related, after_key-related, first-related}
use Rattle.lua_heap.proofs.Changes.{moved-set, moved-set_meta}
use Rattle.lua_meaning.specs.Charges.{entry_charge}
use Rattle.lua_meaning.specs.Scope.{Bytes}
use Rattle.lua_meaning.specs.Values.{first, number_in}
use Rattle.lua_meaning.specs.Messages.{read_only, nil_key}
use Rattle.lua_meaning.specs.Arguments.{Plain}
use Rattle.lua_meaning.specs.Basic.{message_or, assert, error, shown_metatable, get_metatable, a_metatable, with_metatable, set_metatable, raw_equal, raw_get, set_charge, with_entry, raw_set, from_place, is_count, select, number_or_nil, digits_in, in_base, to_number, kind, count_between, entries_from, unpack, key_and_value, next_entry, behind, next}
use Rattle.lua_library_agree.specs.Same.{SameArgument, both_ok, both_err, both_give, SamePlain}
use Rattle.lua_library_agree.proofs.Values.{one-each, first-same, rest-same, second-same, third-same, drop-same, each-length, truth-same, number-same, text-same, kind-same, number_in-same, is_true-same, SameTab, a_table-same, a_number-same, number_or-same, a_text-same}
use Rattle.lua_library_agree.proofs.Heaps.{one-one, table-stood, entries-stood, item-same, field-same, metatable-same, costing, giving, failing_with, failing, branch, with-argument, with-equal}

message_or-same : {m : Map} {v w : Value} (t : Bytes) → Same m v w → Same m (message_or v t) (message_or w t)
message_or-same t nil = text t
message_or-same t (truth b) = truth b
message_or-same t (number n) = number n
message_or-same t (text u) = text u
message_or-same t (table a b e) = table a b e
message_or-same t (closure a b e) = closure a b e
message_or-same t (builtin b) = builtin b
message_or-same t (markup a b e) = markup a b e

shown-same : {m : Map} {p q v w : Value} → Same m p q → Same m v w → Same m (shown_metatable p v) (shown_metatable q w)
shown-same nil f = f
shown-same (truth b) f = truth b
shown-same (number n) f = number n
shown-same (text u) f = text u
shown-same (table a b e) f = table a b e
shown-same (closure a b e) f = closure a b e
shown-same (builtin b) f = builtin b
shown-same (markup a b e) f = markup a b e

a_metatable-same : {m : Map} {vs ws : List Value} → Each (Same m) vs ws → SameArgument (Same m) (a_metatable vs) (a_metatable ws)
a_metatable-same none = both_ok _ _ nil
a_metatable-same (more _ _ _ _ nil e) = both_ok _ _ nil
a_metatable-same (more _ _ _ _ (truth b) e) = both_err _
a_metatable-same (more _ _ _ _ (number b) e) = both_err _
a_metatable-same (more _ _ _ _ (text b) e) = both_err _
a_metatable-same (more _ _ _ _ (table a b x) e) = both_ok _ _ (table a b x)
a_metatable-same (more _ _ _ _ (closure a b x) e) = both_err _
a_metatable-same (more _ _ _ _ (builtin b) e) = both_err _
a_metatable-same (more _ _ _ _ (markup a b x) e) = both_err _

is_count-same : {m : Map} {v w : Value} → Same m v w → is_count v ≡ is_count w
is_count-same nil = refl
is_count-same (truth b) = refl
is_count-same (number n) = refl
is_count-same (text t) = refl
is_count-same (table a b e) = refl
is_count-same (closure a b e) = refl
is_count-same (builtin b) = refl
is_count-same (markup a b e) = refl

number_or_nil-same : {m : Map} (o : Option ℤ) → Same m (number_or_nil o) (number_or_nil o)
number_or_nil-same (Some n) = number n
number_or_nil-same None = nil

abbrev charge_of : Bool → Bool → ℕ
charge_of a b = if a || b then 0 else entry_charge

key_and_value-same : {m : Map} {k l v w : Value} → Same m k l → Same m v w → Each (Same m) (key_and_value k v) (key_and_value l w)
key_and_value-same nil f = one-each nil
key_and_value-same (truth b) f = more _ _ _ _ (truth b) (one-each f)
key_and_value-same (number n) f = more _ _ _ _ (number n) (one-each f)
key_and_value-same (text u) f = more _ _ _ _ (text u) (one-each f)
key_and_value-same (table a b e) f = more _ _ _ _ (table a b e) (one-each f)
key_and_value-same (closure a b e) f = more _ _ _ _ (closure a b e) (one-each f)
key_and_value-same (builtin b) f = more _ _ _ _ (builtin b) (one-each f)
key_and_value-same (markup a b e) f = more _ _ _ _ (markup a b e) (one-each f)

module _ {X Y : Type 0} (R : Map → X → Y → Type 0) (m : Map) (h : Heap X) (s : Heap Y) (st : Stands R m h s) where
  abbrev Alike : Plain X → Plain Y → Type 0
  Alike a b = SamePlain R m h s a b

  module _ (vs ws : List Value) (e : Each (Same m) vs ws) where
    pub assert-same : Alike (assert vs h) (assert ws s)
    assert-same = branch R m h s st _ _ (is_true-same (first-same e)) (λ t. giving R m h s st e) (λ t. failing_with R m h s st _ _ _ (message_or-same (codes "assertion failed!") (second-same e)))

    pub error-same : Alike (error vs h) (error ws s)
    error-same = with-equal R m h s st _ _ _ _ (number_or-same (pos 1) (pos 1) refl 2 (codes "error") (rest-same e)) (λ level. failing_with R m h s st _ _ level (first-same e))

    pub get_metatable-same : Alike (get_metatable vs h) (get_metatable ws s)
    get_metatable-same = let x = metatable-same R m h s st _ _ (first-same e) in giving R m h s st (one-each (shown-same (field-same R m h s st _ _ (codes "__metatable") x) x))

    pub raw_equal-same : Alike (raw_equal vs h) (raw_equal ws s)
    raw_equal-same = giving R m h s st (one-each (truth-same (same-related m (one-one R m h s st) _ _ _ _ (first-same e) (second-same e))))

    pub raw_get-same : Alike (raw_get vs h) (raw_get ws s)
    raw_get-same = with-argument R m h s st _ _ (a_table-same 1 (codes "rawget") e) (λ a b x. giving R m h s st (one-each (item-same R m h s st a b _ _ x (second-same e))))

    pub kind_is-same : Alike (kind vs h) (kind ws s)
    kind_is-same = giving R m h s st (one-each (text-same (kind-same (first-same e))))

  -- METATABLES
  with_metatable-same : (a b : ℕ) {v w : Value} → SameTab m a b → Same m v w → Alike (with_metatable a v h) (with_metatable b w s)
  with_metatable-same a b e f =
      let t = table-stood R m h s st a b e in
      branch R m h s st _ _ t.frozen (λ _. failing R m h s st read_only) (λ o.
      branch R m h s st _ _ (nil-related m _ _ (field-same R m h s st _ _ (codes "__metatable") t.meta))
      (λ _. record { charge = refl; names = m; moved = moved-set_meta R m h s a b _ _ st e o f; end = both_give _ _ (one-each (table a b e)) })
      (λ _. failing R m h s st (codes "cannot change a protected metatable")))

  pub set_metatable-same : (vs ws : List Value) → Each (Same m) vs ws → Alike (set_metatable vs h) (set_metatable ws s)
  set_metatable-same vs ws e =
      with-argument R m h s st _ _ (a_table-same 1 (codes "setmetatable") e) (λ a b x.
      with-argument R m h s st _ _ (a_metatable-same (rest-same e)) (λ v w f. with_metatable-same a b x f))

  -- ENTRIES
  set_charge-same : (es fs : Entries) (k l v w : Value) → SameEntries m es fs → Same m k l → Same m v w → set_charge es k v ≡ set_charge fs l w
  set_charge-same es fs k l v w e f g =
      ap (λ (b : Bool). charge_of b (is_nil v)) (has-related m (one-one R m h s st) es fs k l e f) ∙ ap (charge_of (has fs l)) (nil-related m v w g)

  with_entry-same : (a b : ℕ) (k l v w : Value) → SameTab m a b → Same m k l → Same m v w → Alike (with_entry a k v h) (with_entry b l w s)
  with_entry-same a b k l v w e f g =
      let t = table-stood R m h s st a b e in
      branch R m h s st _ _ t.frozen (λ _. failing R m h s st read_only) (λ o.
      branch R m h s st _ _ (nil-related m k l f) (λ _. failing R m h s st nil_key) (λ _.
      record {
        charge = set_charge-same _ _ k l v w t.entries f g;
        names = m;
        moved = moved-set R m h s a b k l v w st e o f g;
        end = both_give _ _ (one-each (table a b e));
      }))

  pub raw_set-same : (vs ws : List Value) → Each (Same m) vs ws → Alike (raw_set vs h) (raw_set ws s)
  raw_set-same vs ws e = with-argument R m h s st _ _ (a_table-same 1 (codes "rawset") e) (λ a b x. with_entry-same a b _ _ _ _ x (second-same e) (third-same e))

  -- PLACES
  from_place-same : (n : ℤ) {vs ws : List Value} → Each (Same m) vs ws → Alike (from_place n vs h) (from_place n ws s)
  from_place-same (pos zero) e = failing R m h s st _
  from_place-same (pos (suc n)) e = giving R m h s st (drop-same n e)
  from_place-same (negsuc n) {vs} {ws} e =
      branch R m h s st _ _ (ap (nat_lt n) (each-length e))
      (λ _. giving R m h s st (subst (λ (k : ℕ). Each (Same m) (drop (length vs - suc n) vs) (drop (k - suc n) ws)) (each-length e) (drop-same (length vs - suc n) e)))
      (λ _. failing R m h s st _)

  pub select-same : (vs ws : List Value) → Each (Same m) vs ws → Alike (select vs h) (select ws s)
  select-same vs ws e =
      branch R m h s st _ _ (is_count-same (first-same e))
      (λ _. giving R m h s st (one-each (number-same (ap pos (each-length (rest-same e))))))
      (λ _. with-equal R m h s st _ _ _ _ (a_number-same 1 (codes "select") e) (λ n. from_place-same n (rest-same e)))

  -- NUMBERS
  digits_in-same : (t : Bytes) (base : ℤ) → Alike (digits_in t base h) (digits_in t base s)
  digits_in-same t (pos base) = branch R m h s st (nat_le 2 base && nat_le base 36) (nat_le 2 base && nat_le base 36) refl (λ _. giving R m h s st (one-each (number_or_nil-same _))) (λ _. failing R m h s st _)
  digits_in-same t (negsuc n) = failing R m h s st _

  in_base-same : (vs ws : List Value) → Each (Same m) vs ws → (base : ℤ) → Alike (in_base vs base h) (in_base ws base s)
  in_base-same vs ws e base =
      branch R m h s st (int_eq base (pos 10)) (int_eq base (pos 10)) refl
      (λ _. giving R m h s st (one-each (subst (λ o. Same m (number_or_nil (number_in (first vs))) (number_or_nil o)) (number_in-same (first-same e)) (number_or_nil-same (number_in (first vs))))))
      (λ _. with-equal R m h s st _ _ _ _ (a_text-same 1 (codes "tonumber") e) (λ t. digits_in-same t base))

  pub to_number-same : (vs ws : List Value) → Each (Same m) vs ws → Alike (to_number vs h) (to_number ws s)
  to_number-same vs ws e = with-equal R m h s st _ _ _ _ (number_or-same (pos 10) (pos 10) refl 2 (codes "tonumber") (rest-same e)) (λ base. in_base-same vs ws e base)

  -- WALKS
  pub entries_from-same : (n : ℕ) (i : ℤ) (es fs : Entries) → SameEntries m es fs → Each (Same m) (entries_from n i es) (entries_from n i fs)
  entries_from-same zero i es fs e = none
  entries_from-same (suc n) i es fs e = more _ _ _ _ (get-related m (one-one R m h s st) es fs _ _ e (number i)) (entries_from-same n (i +ℤ pos 1) es fs e)

  pub unpack-same : (vs ws : List Value) → Each (Same m) vs ws → Alike (unpack vs h) (unpack ws s)
  unpack-same vs ws e =
      with-argument R m h s st _ _ (a_table-same 1 (codes "unpack") e) (λ a b x.
      with-equal R m h s st _ _ _ _ (number_or-same (pos 1) (pos 1) refl 2 (codes "unpack") (rest-same e)) (λ i.
      with-equal R m h s st _ _ _ _ (number_or-same _ _ (ap pos (border-related m (one-one R m h s st) _ _ (entries-stood R m h s st a b x))) 3 (codes "unpack") (rest-same (rest-same e))) (λ j.
      costing R m h s st _ _ refl (entries_from-same (count_between i j) i _ _ (entries-stood R m h s st a b x)))))

  behind_key-same : (k l : Value) (es fs : Entries) → Same m k l → SameEntries m es fs → SameOption (SameEntries m) (behind_key es k) (behind_key fs l)
  behind_key-same k l es fs f e = after_key-related same same Nil Nil (Same m) (same-related m (one-one R m h s st)) nil es fs k l e f

  behind-same : (k l : Value) (es fs : Entries) → Same m k l → SameEntries m es fs → SameOption (SameEntries m) (behind k es) (behind l fs)
  behind-same _ _ es fs nil e = both es fs e
  behind-same _ _ es fs (truth b) e = behind_key-same _ _ es fs (truth b) e
  behind-same _ _ es fs (number b) e = behind_key-same _ _ es fs (number b) e
  behind-same _ _ es fs (text b) e = behind_key-same _ _ es fs (text b) e
  behind-same _ _ es fs (table a b x) e = behind_key-same _ _ es fs (table a b x) e
  behind-same _ _ es fs (closure a b x) e = behind_key-same _ _ es fs (closure a b x) e
  behind-same _ _ es fs (builtin b) e = behind_key-same _ _ es fs (builtin b) e
  behind-same _ _ es fs (markup a b x) e = behind_key-same _ _ es fs (markup a b x) e

  next_entry-same : (o p : Option Entries) → SameOption (SameEntries m) o p → Alike (next_entry h o) (next_entry s p)
  next_entry-same _ _ neither = failing R m h s st _
  next_entry-same _ _ (both es fs e) =
      let stop = first-related m (one-one R m h s st) es fs e in
      costing R m h s st _ _ stop.passed (key_and_value-same stop.key stop.value)

  pub next-same : (vs ws : List Value) → Each (Same m) vs ws → Alike (next vs h) (next ws s)
  next-same vs ws e =
      with-argument R m h s st _ _ (a_table-same 1 (codes "next") e) (λ a b x.
      next_entry-same _ _ (behind-same _ _ _ _ (second-same e) (entries-stood R m h s st a b x)))
