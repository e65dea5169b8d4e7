-- BASIC FUNCTIONS that call back nobody (manual 5.1).
use Rattle.std.specs.Prelude.{ℕ, zero, suc, ◌-◌, ℤ, pos, negsuc, ◌+ℤ◌, ◌-ℤ◌, Bool, false, ◌&&◌, ◌||◌, List, [], ◌∷◌, length, drop, Option, Some, None, Ok, Err, if◌then◌else◌, nat_le, nat_lt, bytes_eq, codes}
use Rattle.std.specs.Ordering.{int_eq}
use Rattle.lua_format.specs.LuaNumberNumerals.{read_in_base_of}
use Rattle.lua_walk.specs.LuaHeapValue.{Value, Nil, Truth, Number, Text, Table, same, is_true, is_nil}
use Rattle.mw_html.specs.LuaHeapTable.{Entries, get, has, behind_key, first_entry, border}
use Rattle.lua_walk.specs.LuaHeapHeap.{Heap, table_at, set_in, set_meta_in}
use Rattle.lua_meaning.specs.Charges.{entry_charge}
use Rattle.lua_meaning.specs.Scope.{Bytes}
use Rattle.lua_meaning.specs.Values.{kind_of, first, rest, second, third, number_in}
use Rattle.lua_meaning.specs.Messages.{bad_argument, expected, nil_key, read_only}
use Rattle.lua_meaning.specs.Metatables.{metatable, field, handler}
use Rattle.lua_meaning.specs.Arguments.{Plain, Fails, gives, costs, fails, Argument, with_argument, a_table, a_number, number_or, a_text}

-- `assert(v, m)` gives all its arguments, or raises m, without a place
abbrev pub message_or : Value → Bytes → Value
message_or Nil text = Text text
message_or v text = v

abbrev pub assert : {X : Type 0} → List Value → Heap X → Plain X
assert args h =
    if is_true (first args) then gives h args
    else record { charge = 0; heap = h; end = Fails (message_or (second args) (codes "assertion failed!")) (pos 0) }

-- `error(m, level)`
abbrev pub error : {X : Type 0} → List Value → Heap X → Plain X
error args h = with_argument h (number_or (pos 1) 2 (codes "error") (rest args)) (λ level. record { charge = 0; heap = h; end = Fails (first args) level })

-- `getmetatable(v)` gives the field `__metatable` of the metatable, if that is there
abbrev pub shown_metatable : Value → Value → Value
shown_metatable Nil m = m
shown_metatable protected m = protected

abbrev pub get_metatable : {X : Type 0} → List Value → Heap X → Plain X
get_metatable args h =
    let m = metatable h (first args) in
    gives h (shown_metatable (field h m (codes "__metatable")) m ∷ [])

-- `setmetatable(t, m)`
abbrev pub a_metatable : List Value → Argument Value
a_metatable [] = Ok Nil
a_metatable (Nil ∷ vs) = Ok Nil
a_metatable (Table m ∷ vs) = Ok (Table m)
a_metatable given = Err (bad_argument 2 (codes "setmetatable") (expected (codes "table") given))

abbrev pub with_metatable : {X : Type 0} → ℕ → Value → Heap X → Plain X
with_metatable t m h =
    if (table_at h t).frozen then fails h read_only
    else if is_nil (handler h (Table t) (codes "__metatable")) then gives (set_meta_in h t m) (Table t ∷ [])
    else fails h (codes "cannot change a protected metatable")

abbrev pub set_metatable : {X : Type 0} → List Value → Heap X → Plain X
set_metatable args h =
    with_argument h (a_table 1 (codes "setmetatable") args) (λ t.
    with_argument h (a_metatable (rest args)) (λ m. with_metatable t m h))

abbrev pub raw_equal : {X : Type 0} → List Value → Heap X → Plain X
raw_equal args h = gives h (Truth (same (first args) (second args)) ∷ [])

abbrev pub raw_get : {X : Type 0} → List Value → Heap X → Plain X
raw_get args h = with_argument h (a_table 1 (codes "rawget") args) (λ t. gives h (get (table_at h t).entries (second args) ∷ []))

-- `rawset(t, k, v)`, where a new entry has its charge
abbrev pub set_charge : Entries → Value → Value → ℕ
set_charge es key value = if has es key || is_nil value then 0 else entry_charge

abbrev pub with_entry : {X : Type 0} → ℕ → Value → Value → Heap X → Plain X
with_entry t key value h =
    if (table_at h t).frozen then fails h read_only
    else if is_nil key then fails h nil_key
    else costs (set_charge (table_at h t).entries key value) (set_in h t key value) (Table t ∷ [])

abbrev pub raw_set : {X : Type 0} → List Value → Heap X → Plain X
raw_set args h = with_argument h (a_table 1 (codes "rawset") args) (λ t. with_entry t (second args) (third args) h)

-- `select(n, ...)`: '#' asks how many there are; a place counts from the front, a negative one from the end
abbrev pub no_such_place : {X : Type 0} → Heap X → Plain X
no_such_place h = fails h (bad_argument 1 (codes "select") (codes "out of range"))

abbrev pub from_place : {X : Type 0} → ℤ → List Value → Heap X → Plain X
from_place (pos zero) vs h = no_such_place h
from_place (pos (suc n)) vs h = gives h (drop n vs)
from_place (negsuc n) vs h = if nat_lt n (length vs) then gives h (drop (length vs - suc n) vs) else no_such_place h

abbrev pub is_count : Value → Bool
is_count (Text t) = bytes_eq t (codes "#")
is_count v = false

abbrev pub select : {X : Type 0} → List Value → Heap X → Plain X
select args h =
    if is_count (first args) then gives h (Number (pos (length (rest args))) ∷ [])
    else with_argument h (a_number 1 (codes "select") args) (λ n. from_place n (rest args) h)

-- `tonumber(v, base)`: without a base, or in base 10, any value may be asked; in another base a text
abbrev pub number_or_nil : Option ℤ → Value
number_or_nil (Some n) = Number n
number_or_nil None = Nil

abbrev pub no_such_base : {X : Type 0} → Heap X → Plain X
no_such_base h = fails h (bad_argument 2 (codes "tonumber") (codes "out of range"))

abbrev pub digits_in : {X : Type 0} → Bytes → ℤ → Heap X → Plain X
digits_in text (pos base) h = if nat_le 2 base && nat_le base 36 then gives h (number_or_nil (read_in_base_of text base) ∷ []) else no_such_base h
digits_in text (negsuc n) h = no_such_base h

abbrev pub in_base : {X : Type 0} → List Value → ℤ → Heap X → Plain X
in_base args base h =
    if int_eq base (pos 10) then gives h (number_or_nil (number_in (first args)) ∷ [])
    else with_argument h (a_text 1 (codes "tonumber") args) (λ text. digits_in text base h)

abbrev pub to_number : {X : Type 0} → List Value → Heap X → Plain X
to_number args h = with_argument h (number_or (pos 10) 2 (codes "tonumber") (rest args)) (λ base. in_base args base h)

-- `type(v)`
abbrev pub kind : {X : Type 0} → List Value → Heap X → Plain X
kind args h = gives h (Text (kind_of (first args)) ∷ [])

-- `unpack(t, i, j)`: each entry that is read costs a step
abbrev pub how_many : ℤ → ℕ
how_many (pos n) = suc n
how_many (negsuc n) = 0

abbrev pub count_between : ℤ → ℤ → ℕ
count_between i j = how_many (j -ℤ i)

abbrev pub entries_from : ℕ → ℤ → Entries → List Value
entries_from zero i es = []
entries_from (suc n) i es = get es (Number i) ∷ entries_from n (i +ℤ pos 1) es

abbrev pub unpack : {X : Type 0} → List Value → Heap X → Plain X
unpack args h =
    with_argument h (a_table 1 (codes "unpack") args) (λ t.
    with_argument h (number_or (pos 1) 2 (codes "unpack") (rest args)) (λ i.
    with_argument h (number_or (pos (border (table_at h t).entries)) 3 (codes "unpack") (rest (rest args))) (λ j.
    costs (count_between i j) h (entries_from (count_between i j) i (table_at h t).entries))))

-- `next(t, k)`: the first entry behind k that is not cleared; each cleared one that it passes costs a step
abbrev pub key_and_value : Value → Value → List Value
key_and_value Nil value = Nil ∷ []
key_and_value key value = key ∷ value ∷ []

abbrev pub next_entry : {X : Type 0} → Heap X → Option Entries → Plain X
next_entry h None = fails h (codes "invalid key to 'next'")
next_entry h (Some es) = let stop = first_entry es in costs stop.passed h (key_and_value stop.key stop.value)

abbrev pub behind : Value → Entries → Option Entries
behind Nil es = Some es
behind key es = behind_key es key

abbrev pub next : {X : Type 0} → List Value → Heap X → Plain X
next args h = with_argument h (a_table 1 (codes "next") args) (λ t. next_entry h (behind (second args) (table_at h t).entries))
