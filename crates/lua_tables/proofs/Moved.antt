-- What an insertion, a removal and a sort put, and what they cost.
use Rattle.std.proofs.Common.{◌≡◌, ◌∙◌, ap, sym, refl, rules, arith, ℕ, zero, suc, ◌+◌, ◌*◌, ◌<◌, ◌≤◌, Bool, true, false, if◌then◌else◌, ◌&&◌, ℤ, pos, ◌+ℤ◌, List, [], ◌∷◌, ◌++◌, length}
use Rattle.std.specs.Prelude.{◌≤ℤ◌, codes, nat_lt}
use Rattle.std.proofs.lemmas.Int.{ints}
use Rattle.std.proofs.lemmas.List.{length-append, length-map}
use Rattle.lua_number.specs.Whole.{fits}
use Rattle.lua_number.specs.declared.arithmetic.NumberFault.TheVariants.{OutOfRange}
use Rattle.lua_basic.specs.LuaHeapProc.{Proc}
use Rattle.lua_basic.specs.LuaHeapValue as kind
use Rattle.lua_basic.specs.LuaHeapValue.{Nil, Number}
use Rattle.lua_basic.specs.LuaHeapTable.{Entries, get, has, border}
use Rattle.lua_basic.specs.LuaHeapHeap.{Heap, table_at}
use Rattle.lua_basic.specs.LuaMeaningValues.{first, rest, second, third}
use Rattle.lua_basic.specs.LuaMeaningMessages.{bad_argument, expected, number_fault, read_only}
use Rattle.lua_basic.specs.LuaMeaningArguments.{Plain, Gives, costs, gives, fails, with_charge, with_argument, a_number}
use Rattle.lua_basic.specs.LuaMeaningBasic.{set_charge, count_between, entries_from}
use Rattle.lua_basic.specs.LuaStoreDeclaredValueValue.{Value}
use Rattle.lua_basic.specs.LuaStoreDeclaredValueValueTheVariants as own
use Rattle.lua_basic.specs.LuaStoreSeen.{StoreView, seen}
use Rattle.lua_basic.specs.Seen.{values_seen, ends}
use Rattle.lua_basic.proofs.Lists.{seen-with}
use Rattle.lua_tables.specs.Walked.{walk_charge}
use Rattle.lua_basic.specs.LuaMeaningTableLibrary.{Walk, PassedAll, Refused, walk, may_stand, wanted_kind, put_from, put_charge, insert_fitting, insert_values, insert_at, append, value_cmp, in_order, binary_digits, order_charge, sort_values, sort_walked, sort_table}
use Rattle.lua_tables.specs.Moves.{last_put}
use Rattle.lua_tables.proofs.Put.{in_count, count_in, count_from_one, length-entries, there, put_there, put_inserted}
use Rattle.lua_tables.proofs.Orders.{length-in_order}

-- values that are given behind a change of the heap
pub put-gives : (n m : ℕ) (h : Heap Proc) (t : StoreView) (vs : List kind.Value) (ws : List Value) → n ≡ m → t.heap ≡ h → values_seen t.texts ws ≡ vs → costs n h vs ≡ ends m t (Gives (values_seen t.texts ws))
put-gives n m h t vs ws charge heap values =
    ap (λ k. costs k h vs) charge ∙ ap (λ i. costs m i vs) (sym heap) ∙ ap (λ xs. costs m t.heap xs) (sym values)

-- how many values were read
pub length-read : (texts : List (List ℕ)) (before after : List Value) (n : ℕ) (i : ℤ) (es : Entries) → values_seen texts after ≡ values_seen texts before ++ entries_from n i es → length after ≡ length before + n
length-read texts before after n i es e =
    let a = length-map after (seen texts) in
    let b = length-map before (seen texts) in
    let c = ap length e ∙ length-append (values_seen texts before) (entries_from n i es) in
    let d = length-entries n i es in
    omega (arith, a, b, c, d)

-- INSERT: the places that move have entries
inserted-there : (es : Entries) (place : ℤ) (moved : ℕ) → pos 1 ≤ℤ place → moved ≡ count_between place (pos (border es)) → (k : ℕ) → k < moved → has es (Number (place +ℤ pos k)) ≡ true
inserted-there es place moved low is k lt =
    let inside : k < count_between place (pos (border es)) = omega (arith, lt, is) in
    there es (place +ℤ pos k) (omega (arith, ints, low)) (in_count place (pos (border es)) k inside)

pub insert-charge : (es : Entries) (place top : ℤ) (moved charge : ℕ) (v last : kind.Value) → pos 1 ≤ℤ place → moved ≡ count_between place (pos (border es)) → top ≡ place +ℤ pos moved → last ≡ last_put moved place v es
    → charge ≡ set_charge es (Number top) last → moved + put_charge place (v ∷ entries_from moved place es) es ≡ moved + ((moved + 1) + charge)
insert-charge es place top moved charge v last low is at_ is_last costs_ =
    let all = put_inserted moved place v es (inserted-there es place moved low is) in
    let one : charge ≡ set_charge es (Number (place +ℤ pos moved)) (last_put moved place v es) = costs_ ∙ ap (λ z. set_charge es (Number z) last) at_ ∙ ap (set_charge es (Number (place +ℤ pos moved))) is_last in
    omega (arith, all, one)

pub insert-fits : (t : ℕ) (place : ℤ) (moved : ℕ) (v : kind.Value) (h : Heap Proc) → fits (place +ℤ pos moved) ≡ true → insert_values t place moved v h ≡ insert_fitting t place moved v h
insert-fits t place moved v h e = ap (λ (b : Bool). if b then insert_fitting t place moved v h else fails h (number_fault OutOfRange)) e

pub insert-far : (t : ℕ) (place : ℤ) (moved : ℕ) (v : kind.Value) (h : Heap Proc) → fits (place +ℤ pos moved) ≡ false → insert_values t place moved v h ≡ fails h (number_fault OutOfRange)
insert-far t place moved v h e = ap (λ (b : Bool). if b then insert_fitting t place moved v h else fails h (number_fault OutOfRange)) e

-- the two forms of `insert`, by the number of arguments
abbrev pub insert_form : ℕ → List kind.Value → Heap Proc → Plain Proc
insert_form t args h =
    if nat_lt 2 (length args) then with_argument h (a_number 2 (codes "insert") (rest args)) (λ place. insert_at t place (third args) h)
    else append t (second args) h

pub two-arguments : (t : ℕ) (args : List kind.Value) (h : Heap Proc) → length args ≤ 2 → insert_form t args h ≡ append t (second args) h
two-arguments t args h le =
    let no : nat_lt 2 (length args) ≡ false = grind (arith, rules, le) in
    ap (λ (b : Bool). if b then with_argument h (a_number 2 (codes "insert") (rest args)) (λ place. insert_at t place (third args) h) else append t (second args) h) no

pub three-arguments : (t : ℕ) (args : List kind.Value) (h : Heap Proc) → 2 < length args → insert_form t args h ≡ with_argument h (a_number 2 (codes "insert") (rest args)) (λ place. insert_at t place (third args) h)
three-arguments t args h lt =
    let yes_ : nat_lt 2 (length args) ≡ true = grind (arith, rules, lt) in
    ap (λ (b : Bool). if b then with_argument h (a_number 2 (codes "insert") (rest args)) (λ place. insert_at t place (third args) h) else append t (second args) h) yes_

-- REMOVE: what is put back is all but the first value, and nil
some_there : (es : Entries) (place : ℤ) (count : ℕ) → place ≤ℤ pos (border es) → count ≡ count_between place (pos (border es)) → 0 < count
some_there es place count high is =
    let none : (place +ℤ pos 0) ≤ℤ pos (border es) = omega (arith, ints, high) in
    let one = count_in place (pos (border es)) 0 none in
    omega (arith, one, is)

length-moved : (es : Entries) (place : ℤ) (count : ℕ) → 0 < count → length (rest (entries_from count place es) ++ Nil ∷ []) ≡ count
length-moved es place zero lt = absurd (omega (arith, lt))
length-moved es place (suc n) lt =
    let a = length-append (entries_from n (place +ℤ pos 1) es) (Nil ∷ []) in
    let b = length-entries n (place +ℤ pos 1) es in
    omega (arith, a, b)

pub remove-charge : (es : Entries) (place : ℤ) (count : ℕ) → pos 1 ≤ℤ place → place ≤ℤ pos (border es) → count ≡ count_between place (pos (border es))
    → length (entries_from count place es) + put_charge place (rest (entries_from count place es) ++ Nil ∷ []) es ≡ count + count
remove-charge es place count low high is =
    let size = length-moved es place count (some_there es place count high is) in
    let all = put_there place (rest (entries_from count place es) ++ Nil ∷ []) es (λ k lt. inserted-there es place count low is k (omega (arith, lt, size))) in
    let read = length-entries count place es in
    omega (arith, size, all, read)

rest-with : (vs : List kind.Value) (w : kind.Value) → 0 < length vs → rest (vs ++ w ∷ []) ≡ rest vs ++ w ∷ []
rest-with [] w lt = absurd (omega (arith, lt))
rest-with (v ∷ vs) w lt = refl

pub moved-seen : (texts : List (List ℕ)) (es : Entries) (place : ℤ) (count : ℕ) (read slice moved : List Value) → place ≤ℤ pos (border es) → count ≡ count_between place (pos (border es))
    → values_seen texts read ≡ entries_from count place es → slice ≡ read ++ own.Nil ∷ [] → values_seen texts moved ≡ rest (values_seen texts slice) → values_seen texts moved ≡ rest (entries_from count place es) ++ Nil ∷ []
moved-seen texts es place count read slice moved high is e pushed cut =
    let size = length-entries count place es in
    let some = some_there es place count high is in
    cut ∙ ap (λ xs. rest (values_seen texts xs)) pushed ∙ ap rest (seen-with texts read own.Nil) ∙ ap (λ xs. rest (xs ++ Nil ∷ [])) e ∙ rest-with (entries_from count place es) Nil (omega (arith, size, some))

pub moved-length : (texts : List (List ℕ)) (es : Entries) (place : ℤ) (count : ℕ) (moved : List Value) → place ≤ℤ pos (border es) → count ≡ count_between place (pos (border es))
    → values_seen texts moved ≡ rest (entries_from count place es) ++ Nil ∷ [] → length moved ≡ count
moved-length texts es place count moved high is e =
    sym (length-map moved (seen texts)) ∙ ap length e ∙ length-moved es place count (some_there es place count high is)

pub first-read : (es : Entries) (place : ℤ) (count : ℕ) (v : kind.Value) → place ≤ℤ pos (border es) → count ≡ count_between place (pos (border es)) → v ≡ get es (Number (place +ℤ pos 0)) → v ≡ first (entries_from count place es)
first-read es place count v high is e = e ∙ ap (λ z. get es (Number z)) (let here : place +ℤ pos 0 ≡ place = omega (arith, ints) in here) ∙ go count (some_there es place count high is)
  where
    go : (count : ℕ) → 0 < count → get es (Number place) ≡ first (entries_from count place es)
    go zero lt = absurd (omega (arith, lt))
    go (suc n) lt = refl

-- SORT
pub sort-charge : (es : Entries) (vs : List kind.Value) → vs ≡ entries_from (border es) (pos 1) es → put_charge (pos 1) (in_order value_cmp vs) es ≡ length vs
sort-charge es vs is =
    let size : length vs ≡ border es = ap length is ∙ length-entries (border es) (pos 1) es in
    let same = length-in_order value_cmp vs in
    let whole = count_from_one (border es) in
    put_there (pos 1) (in_order value_cmp vs) es (λ k lt. inserted-there es (pos 1) (border es) (omega (arith, ints)) (sym whole) k (omega (arith, lt, size, same))) ∙ same

pub sort-writable : (t : ℕ) (vs : List kind.Value) (h : Heap Proc) → (table_at h t).frozen ≡ false
    → sort_values t vs h ≡ costs (order_charge (length vs) + put_charge (pos 1) (in_order value_cmp vs) (table_at h t).entries) (put_from (pos 1) (in_order value_cmp vs) t h) []
sort-writable t vs h e =
    ap (λ (b : Bool). if b && nat_lt 0 (length vs) then fails h read_only else costs (order_charge (length vs) + put_charge (pos 1) (in_order value_cmp vs) (table_at h t).entries) (put_from (pos 1) (in_order value_cmp vs) t h) []) e

pub sort-frozen : (t : ℕ) (vs : List kind.Value) (h : Heap Proc) → (table_at h t).frozen ≡ true → 0 < length vs → sort_values t vs h ≡ fails h read_only
sort-frozen t vs h e some =
    let yes_ : nat_lt 0 (length vs) ≡ true = grind (arith, rules, some) in
    ap (λ (b : Bool). if b && nat_lt 0 (length vs) then fails h read_only else costs (order_charge (length vs) + put_charge (pos 1) (in_order value_cmp vs) (table_at h t).entries) (put_from (pos 1) (in_order value_cmp vs) t h) []) e
    ∙ ap (λ (b : Bool). if b then fails h read_only else costs (order_charge (length vs) + put_charge (pos 1) (in_order value_cmp vs) (table_at h t).entries) (put_from (pos 1) (in_order value_cmp vs) t h) []) yes_

pub sort-none : (t : ℕ) (vs : List kind.Value) (h : Heap Proc) → vs ≡ [] → sort_values t vs h ≡ gives h []
sort-none t vs h is = ap (λ xs. sort_values t xs h) is ∙ go (table_at h t).frozen
  where
    nothing : (n : ℕ) → 0 * n + 0 ≡ 0
    nothing n = omega arith

    go : (b : Bool) → (if b && nat_lt 0 0 then fails h read_only else costs (order_charge 0 + 0) h []) ≡ gives h []
    go true = ap (λ n. costs n h []) (nothing (binary_digits 0))
    go false = ap (λ n. costs n h []) (nothing (binary_digits 0))

-- the sort costs at least what is read
pub sort-dear : (t : ℕ) (one : kind.Value) (vs : List kind.Value) (h : Heap Proc) (w : Walk) → walk_charge vs w ≤ (sort_walked t one vs h w).charge
sort-dear t one vs h PassedAll = omega arith
sort-dear t one vs h (Refused k v) = omega arith

-- the values that were read pass as a list by themselves
pub sort-kinds : (es : Entries) (vs : List kind.Value) (size : ℕ) → vs ≡ entries_from (border es) (pos 1) es → size ≡ length vs
    → walk (may_stand (border es) (get es (Number (pos 1)))) (entries_from (border es) (pos 1) es) ≡ PassedAll → walk (may_stand size (first vs)) vs ≡ PassedAll
sort-kinds es vs size is len h = go (border es) is (len ∙ ap length is ∙ length-entries (border es) (pos 1) es) h
  where
    go : (n : ℕ) → vs ≡ entries_from n (pos 1) es → size ≡ n → walk (may_stand n (get es (Number (pos 1)))) (entries_from n (pos 1) es) ≡ PassedAll → walk (may_stand size (first vs)) vs ≡ PassedAll
    go zero is len h = ap (λ xs. walk (may_stand size (first xs)) xs) is
    go (suc n) is len h = ap (λ xs. walk (may_stand size (first xs)) xs) is ∙ ap (λ k. walk (may_stand k (get es (Number (pos 1)))) (entries_from (suc n) (pos 1) es)) len ∙ h

-- what a sort comes to
pub sort-passed : (t : ℕ) (h : Heap Proc) (vs : List kind.Value) → vs ≡ entries_from (border (table_at h t).entries) (pos 1) (table_at h t).entries
    → walk (may_stand (border (table_at h t).entries) (get (table_at h t).entries (Number (pos 1)))) (entries_from (border (table_at h t).entries) (pos 1) (table_at h t).entries) ≡ PassedAll
    → sort_table t h ≡ with_charge (length vs) (sort_values t vs h)
sort-passed t h vs is e =
    let one = get (table_at h t).entries (Number (pos 1)) in
    let all = entries_from (border (table_at h t).entries) (pos 1) (table_at h t).entries in
    ap (sort_walked t one all h) e ∙ ap (λ xs. with_charge (length xs) (sort_values t xs h)) (sym is)

pub sort-refused : (t : ℕ) (h : Heap Proc) (k : ℕ) (v : kind.Value)
    → walk (may_stand (border (table_at h t).entries) (get (table_at h t).entries (Number (pos 1)))) (entries_from (border (table_at h t).entries) (pos 1) (table_at h t).entries) ≡ Refused k v
    → sort_table t h ≡ with_charge (suc k) (fails h (bad_argument 1 (codes "sort") (expected (wanted_kind (get (table_at h t).entries (Number (pos 1)))) (v ∷ []))))
sort-refused t h k v e = ap (sort_walked t (get (table_at h t).entries (Number (pos 1))) (entries_from (border (table_at h t).entries) (pos 1) (table_at h t).entries) h) e

-- what a walk reads that goes from 1 to the border, with the test that its first value makes
module _ (t : ℕ) (h : Heap Proc) (count : ℕ) (last : ℤ) (one : kind.Value) (size : count ≡ border (table_at h t).entries) (end : last ≡ pos (border (table_at h t).entries)) (head : one ≡ get (table_at h t).entries (Number (pos 1))) where
  abbrev es : Entries
  es = (table_at h t).entries

  abbrev whole : List kind.Value
  whole = entries_from (border es) (pos 1) es

  abbrev part_read : List kind.Value
  part_read = entries_from (count_between (pos 1) last) (pos 1) es

  pub all-read : part_read ≡ whole
  all-read = ap (λ z. entries_from (count_between (pos 1) z) (pos 1) es) end ∙ ap (λ k. entries_from k (pos 1) es) (count_from_one (border es))

  pub all-walked : walk (may_stand count one) part_read ≡ walk (may_stand (border es) (get es (Number (pos 1)))) whole
  all-walked =
      ap (λ k. walk (may_stand k one) part_read) size ∙ ap (λ v. walk (may_stand (border es) v) part_read) head
      ∙ ap (walk (may_stand (border es) (get es (Number (pos 1))))) all-read

  pub read-dear : walk_charge part_read (walk (may_stand count one) part_read) ≤ (sort_table t h).charge
  read-dear =
      let same : walk_charge part_read (walk (may_stand count one) part_read) ≡ walk_charge whole (walk (may_stand (border es) (get es (Number (pos 1)))) whole) =
      ap (λ vs. walk_charge vs (walk (may_stand count one) part_read)) all-read ∙ ap (walk_charge whole) all-walked in
      let dear = sort-dear t (get es (Number (pos 1))) whole h (walk (may_stand (border es) (get es (Number (pos 1)))) whole) in
      omega (arith, same, dear)
