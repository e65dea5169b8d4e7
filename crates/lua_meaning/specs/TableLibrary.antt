-- FUNCTIONS OF `table` (manual 5.5). They ask no metamethod. n is the border of a table, which is what `#` gives. Each entry that is
-- read or written costs a step, and a new one 4 more.
use Rattle.std.specs.Prelude.{ℕ, suc, ◌+◌, ◌-◌, ◌*◌, ℤ, pos, ◌+ℤ◌, Bool, true, false, ◌&&◌, ◌||◌, List, [], ◌∷◌, ◌++◌, length, Option, Some, None, is_some, if◌then◌else◌, nat_le, nat_lt, int_lt, codes}
use Rattle.std.specs.Fmt.{signed_decimal}
use Rattle.std.specs.Int.{w64, leading_zeros, int_max}
use Rattle.std.specs.Ordering.{nat_cmp, int_cmp, is_le}
use Rattle.std.specs.Cmp.Lexicographic.{slice_cmp}
use Rattle.std.specs.declared.cmp.Ordering.{Ordering}
use Rattle.std.specs.declared.cmp.Ordering.TheVariants.{Equal}
use Rattle.lua_format.specs.LuaNumberDeclaredArithmeticNumberFaultTheVariants.{OutOfRange}
use Rattle.lua_format.specs.LuaNumberWhole.{fits}
use Rattle.lua_walk.specs.LuaHeapValue.{Value, Nil, Number, Text, is_nil}
use Rattle.mw_html.specs.LuaHeapTable.{Entries, get, border}
use Rattle.lua_walk.specs.LuaHeapHeap.{Heap, table_at, set_in}
use Rattle.lua_meaning.specs.Scope.{Bytes}
use Rattle.lua_meaning.specs.Values.{first, rest, second, third, text_in}
use Rattle.lua_meaning.specs.Messages.{bad_argument, expected, number_fault, read_only}
use Rattle.lua_meaning.specs.Arguments.{Plain, gives, costs, gives_text, fails, with_charge, with_argument, a_table, a_number, number_or}
use Rattle.lua_meaning.specs.Basic.{set_charge, count_between, entries_from}
use Rattle.lua_meaning.specs.Checks.{text_or, a_nil}

-- VALUES ARE PUT at the places from i on
abbrev pub put_from : {X : Type 0} → ℤ → List Value → ℕ → Heap X → Heap X
put_from i [] t h = h
put_from i (v ∷ vs) t h = put_from (i +ℤ pos 1) vs t (set_in h t (Number i) v)

abbrev pub put_charge : ℤ → List Value → Entries → ℕ
put_charge i [] es = 0
put_charge i (v ∷ vs) es = 1 + set_charge es (Number i) v + put_charge (i +ℤ pos 1) vs es

-- VALUES ARE READ up to the first one that a test refuses: all of them, or so many and then this one
pub data Walk : Type 0 where
  PassedAll : Walk
  Refused : (passed : ℕ) (value : Value) → Walk

abbrev pub one_passed : Walk → Walk
one_passed PassedAll = PassedAll
one_passed (Refused k v) = Refused (suc k) v

abbrev pub walk : (Value → Bool) → List Value → Walk
walk test [] = PassedAll
walk test (v ∷ vs) = if test v then one_passed (walk test vs) else Refused 0 v

-- `concat(t, sep, i, j)` joins the strings and numbers from i to j, with sep between each two
abbrev pub is_part : Value → Bool
is_part v = is_some (text_in v)

abbrev pub text_or_none : Option Bytes → Bytes
text_or_none (Some t) = t
text_or_none None = []

abbrev pub part : Value → Bytes
part v = text_or_none (text_in v)

abbrev pub behind_parts : Bytes → List Value → Bytes
behind_parts sep [] = []
behind_parts sep (v ∷ vs) = sep ++ part v ++ behind_parts sep vs

abbrev pub joined : Bytes → List Value → Bytes
joined sep [] = []
joined sep (v ∷ vs) = part v ++ behind_parts sep vs

abbrev pub invalid_item : ℤ → Bytes
invalid_item place = codes "invalid value (at index " ++ signed_decimal place ++ codes ") in table for 'concat'"

abbrev pub concat_values : {X : Type 0} → Heap X → Bytes → ℤ → List Value → Walk → Plain X
concat_values h sep i vs PassedAll = with_charge (length vs) (gives_text h (joined sep vs))
concat_values h sep i vs (Refused k v) = with_charge (suc k) (fails h (invalid_item (i +ℤ pos k)))

abbrev pub concat_between : {X : Type 0} → ℕ → Bytes → ℤ → ℤ → Heap X → Plain X
concat_between t sep i j h =
    let vs = entries_from (count_between i j) i (table_at h t).entries in
    concat_values h sep i vs (walk is_part vs)

abbrev pub concat : {X : Type 0} → List Value → Heap X → Plain X
concat args h =
    with_argument h (a_table 1 (codes "concat") args) (λ t.
    with_argument h (text_or [] 2 (codes "concat") (rest args)) (λ sep.
    with_argument h (number_or (pos 1) 3 (codes "concat") (rest (rest args))) (λ i.
    with_argument h (number_or (pos (border (table_at h t).entries)) 4 (codes "concat") (rest (rest (rest args)))) (λ j.
    concat_between t sep i j h))))

-- `insert(t, v)` puts v at n + 1. `insert(t, place, v)` puts v at a place, and what stood from there to n one place further on; a third
-- argument, nil too, makes this form. A read-only table is refused before anything is read.
abbrev pub insert_fitting : {X : Type 0} → ℕ → ℤ → ℕ → Value → Heap X → Plain X
insert_fitting t place moved v h =
    let es = (table_at h t).entries in
    let vs = v ∷ entries_from moved place es in
    costs (moved + put_charge place vs es) (put_from place vs t h) []

abbrev pub insert_values : {X : Type 0} → ℕ → ℤ → ℕ → Value → Heap X → Plain X
insert_values t place moved v h =
    if fits (place +ℤ pos moved) then insert_fitting t place moved v h
    else fails h (number_fault OutOfRange)

abbrev pub insert_at : {X : Type 0} → ℕ → ℤ → Value → Heap X → Plain X
insert_at t place v h =
    if int_lt place (pos 1) then fails h (bad_argument 2 (codes "insert") (codes "out of range"))
    else if (table_at h t).frozen then fails h read_only
    else insert_values t place (count_between place (pos (border (table_at h t).entries))) v h

abbrev pub append : {X : Type 0} → ℕ → Value → Heap X → Plain X
append t v h =
    if (table_at h t).frozen then fails h read_only
    else insert_values t (pos (border (table_at h t).entries + 1)) 0 v h

abbrev pub insert : {X : Type 0} → List Value → Heap X → Plain X
insert args h =
    with_argument h (a_table 1 (codes "insert") args) (λ t.
    if nat_lt 2 (length args) then with_argument h (a_number 2 (codes "insert") (rest args)) (λ place. insert_at t place (third args) h)
    else append t (second args) h)

-- `maxn(t)`: the greatest number that is a key with a value, or 0. It looks at each entry, cleared or not.
abbrev pub number_key : Value → ℤ
number_key (Number k) = k
number_key key = pos 0

abbrev pub greater_key : ℤ → Value × Value → ℤ
greater_key n e = if is_nil e.1 then n else int_max n (number_key e.0)

abbrev pub greatest_key : ℤ → Entries → ℤ
greatest_key n [] = n
greatest_key n (e ∷ es) = greatest_key (greater_key n e) es

abbrev pub maxn : {X : Type 0} → List Value → Heap X → Plain X
maxn args h =
    with_argument h (a_table 1 (codes "maxn") args) (λ t.
    costs (length (table_at h t).entries) h (Number (greatest_key (pos 0) (table_at h t).entries) ∷ []))

-- `remove(t, place)` gives what stands at a place from 1 to n, and puts what stands behind it one place nearer; n is cleared. Any other
-- place gives nothing. A read-only table is refused before anything is read.
abbrev pub remove_values : {X : Type 0} → ℕ → ℤ → List Value → Heap X → Plain X
remove_values t place vs h =
    let moved = rest vs ++ Nil ∷ [] in
    costs (length vs + put_charge place moved (table_at h t).entries) (put_from place moved t h) (first vs ∷ [])

abbrev pub remove_at : {X : Type 0} → ℕ → ℤ → Heap X → Plain X
remove_at t place h =
    let es = (table_at h t).entries in
    if int_lt place (pos 1) || int_lt (pos (border es)) place then gives h []
    else if (table_at h t).frozen then fails h read_only
    else remove_values t place (entries_from (count_between place (pos (border es))) place es) h

abbrev pub remove : {X : Type 0} → List Value → Heap X → Plain X
remove args h =
    with_argument h (a_table 1 (codes "remove") args) (λ t.
    with_argument h (number_or (pos (border (table_at h t).entries)) 2 (codes "remove") (rest args)) (λ place. remove_at t place h))

-- `sort(t)` puts the entries 1 to n in order: numbers, or strings by their bytes. Two entries or more must be numbers alone or strings
-- alone; the first one that is not ends it. A comparing function is refused.
abbrev pub is_number : Value → Bool
is_number (Number n) = true
is_number v = false

abbrev pub is_string : Value → Bool
is_string (Text t) = true
is_string v = false

-- whether a value is of the kind of another one, which is a number or a string
abbrev pub goes_with : Value → Value → Bool
goes_with (Number n) v = is_number v
goes_with (Text t) v = is_string v
goes_with one v = false

-- whether a value may stand in a list of n that begins with `one`
abbrev pub may_stand : ℕ → Value → Value → Bool
may_stand n one v = nat_le n 1 || goes_with one v

-- the kind that was wanted, where the list begins with this value
abbrev pub wanted_kind : Value → Bytes
wanted_kind (Number n) = codes "number"
wanted_kind v = codes "string"

abbrev pub value_cmp : Value → Value → Ordering
value_cmp (Number a) (Number b) = int_cmp a b
value_cmp (Text a) (Text b) = slice_cmp nat_cmp a b
value_cmp a b = Equal

abbrev pub put_in_order : {A : Type 0} → (A → A → Ordering) → A → List A → List A
put_in_order cmp x [] = x ∷ []
put_in_order cmp x (y ∷ ys) = if is_le (cmp x y) then x ∷ y ∷ ys else y ∷ put_in_order cmp x ys

abbrev pub in_order : {A : Type 0} → (A → A → Ordering) → List A → List A
in_order cmp [] = []
in_order cmp (x ∷ xs) = put_in_order cmp x (in_order cmp xs)

-- the binary digits of a number of 64 bits; 0 has none
abbrev pub binary_digits : ℕ → ℕ
binary_digits n = 64 - leading_zeros w64 n

abbrev pub order_charge : ℕ → ℕ
order_charge n = n * binary_digits n

-- the values are put back in order
abbrev pub sort_values : {X : Type 0} → ℕ → List Value → Heap X → Plain X
sort_values t vs h =
    let sorted = in_order value_cmp vs in
    if (table_at h t).frozen && nat_lt 0 (length vs) then fails h read_only
    else costs (order_charge (length vs) + put_charge (pos 1) sorted (table_at h t).entries) (put_from (pos 1) sorted t h) []

abbrev pub sort_walked : {X : Type 0} → ℕ → Value → List Value → Heap X → Walk → Plain X
sort_walked t one vs h PassedAll = with_charge (length vs) (sort_values t vs h)
sort_walked t one vs h (Refused k v) = with_charge (suc k) (fails h (bad_argument 1 (codes "sort") (expected (wanted_kind one) (v ∷ []))))

abbrev pub sort_table : {X : Type 0} → ℕ → Heap X → Plain X
sort_table t h =
    let es = (table_at h t).entries in
    let one = get es (Number (pos 1)) in
    let vs = entries_from (border es) (pos 1) es in
    sort_walked t one vs h (walk (may_stand (border es) one) vs)

abbrev pub sort : {X : Type 0} → List Value → Heap X → Plain X
sort args h =
    with_argument h (a_table 1 (codes "sort") args) (λ t.
    with_argument h (a_nil 2 (codes "sort") (rest args)) (λ none. sort_table t h))
