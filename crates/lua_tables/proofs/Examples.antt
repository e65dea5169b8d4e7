-- EXAMPLES of the functions of `table`, in a heap with one table. They compute. The results are those of Lua 5.1, the charges are counted
-- by hand.
use Rattle.std.proofs.Common.{◌≡◌, refl, ℕ, true, false, pos, negsuc, List, [], ◌∷◌}
use Rattle.std.specs.Prelude.{codes}
use Rattle.std.specs.Fmt.{digits}
use lib.Count.{count_leading_zeros}
use Rattle.lua_table.specs.Front.{numbered}
use Rattle.lua_basic.specs.LuaHeapValue.{Value, Nil, Truth, Number, Text, Table}
use Rattle.lua_basic.specs.LuaHeapTable.{Entries}
use Rattle.lua_basic.specs.LuaHeapHeap.{Heap}
use Rattle.lua_basic.specs.LuaMeaningScope.{Bytes}
use Rattle.lua_basic.specs.LuaMeaningArguments.{Plain, Gives, Fails}
use Rattle.lua_basic.specs.LuaMeaningTableLibrary.{concat, insert, maxn, remove, sort, binary_digits}

-- a heap with one table, which can be written or not
abbrev heap : Entries → Heap ℕ
heap es = record { tables = record { entries = es; meta = Nil; frozen = false } ∷ []; cells = []; closures = []; markup = [] }

abbrev locked : Entries → Heap ℕ
locked es = record { tables = record { entries = es; meta = Nil; frozen = true } ∷ []; cells = []; closures = []; markup = [] }

-- the entries of a list
abbrev list : List Value → Entries
list vs = numbered Number 0 vs

abbrev n : ℕ → Value
n k = Number (pos k)

abbrev t : Value
t = Table 0

abbrev gave : ℕ → Heap ℕ → List Value → Plain ℕ
gave charge h vs = record { charge = charge; heap = h; end = Gives vs }

abbrev failed : ℕ → Heap ℕ → Bytes → Plain ℕ
failed charge h message = record { charge = charge; heap = h; end = Fails (Text message) (pos 1) }

-- {'a', 2, 'c'}
abbrev three : Entries
three = list (Text (codes "a") ∷ n 2 ∷ Text (codes "c") ∷ [])

-- CONCAT: 3 entries are read, and 'a2c' has 3 bytes
all_are_joined : concat (t ∷ []) (heap three) ≡ gave 6 (heap three) (Text (codes "a2c") ∷ [])
unfolding digits
all_are_joined = refl

-- concat({'a', 2, 'c'}, ', ', 2, 3)
some_are_joined : concat (t ∷ Text (codes ", ") ∷ n 2 ∷ n 3 ∷ []) (heap three) ≡ gave 6 (heap three) (Text (codes "2, c") ∷ [])
unfolding digits
some_are_joined = refl

-- concat({'a', 2, 'c'}, nil, 3, 2)
none_are_joined : concat (t ∷ Nil ∷ n 3 ∷ n 2 ∷ []) (heap three) ≡ gave 0 (heap three) (Text [] ∷ [])
none_are_joined = refl

-- concat({'a', 2, 'c'}, '', 2, 9): the fourth entry is nil, the third that is read
a_hole_is_refused : concat (t ∷ Text [] ∷ n 2 ∷ n 9 ∷ []) (heap three) ≡ failed 3 (heap three) (codes "invalid value (at index 4) in table for 'concat'")
unfolding digits
a_hole_is_refused = refl

no_table : concat [] (heap three) ≡ failed 0 (heap three) (codes "bad argument #1 to 'concat' (table expected, got no value)")
unfolding digits
no_table = refl

-- INSERT: at the end one entry is set, and it is new
at_the_end : insert (t ∷ Truth true ∷ []) (heap three) ≡ gave 5 (heap (list (Text (codes "a") ∷ n 2 ∷ Text (codes "c") ∷ Truth true ∷ []))) []
at_the_end = refl

-- insert({'a', 2, 'c'}, 2, true): two entries move, one is set, one is new
in_between : insert (t ∷ n 2 ∷ Truth true ∷ []) (heap three) ≡ gave 9 (heap (list (Text (codes "a") ∷ Truth true ∷ n 2 ∷ Text (codes "c") ∷ []))) []
in_between = refl

-- insert({'a', 2, 'c'}, 9, true) sets a place beyond
beyond : insert (t ∷ n 9 ∷ Truth true ∷ []) (heap (list (Text (codes "a") ∷ []))) ≡ gave 5 (heap ((n 1, Text (codes "a")) ∷ (n 9, Truth true) ∷ [])) []
beyond = refl

-- insert(t) inserts nil, which is a step and no entry
nothing_is_inserted : insert (t ∷ []) (heap three) ≡ gave 1 (heap three) []
nothing_is_inserted = refl

before_the_first : insert (t ∷ n 0 ∷ Truth true ∷ []) (heap three) ≡ failed 0 (heap three) (codes "bad argument #2 to 'insert' (out of range)")
unfolding digits
before_the_first = refl

not_into_data : insert (t ∷ Truth true ∷ []) (locked three) ≡ failed 0 (locked three) (codes "table from mw.loadData is read-only")
not_into_data = refl

-- MAXN: a cleared entry is looked at and does not count, nor does a key below 1
the_greatest : maxn (t ∷ []) (heap ((n 7, n 1) ∷ (n 9, Nil) ∷ (Number (negsuc 4), n 1) ∷ (Text (codes "x"), n 1) ∷ [])) ≡ gave 4 (heap ((n 7, n 1) ∷ (n 9, Nil) ∷ (Number (negsuc 4), n 1) ∷ (Text (codes "x"), n 1) ∷ [])) (n 7 ∷ [])
the_greatest = refl

-- REMOVE: the last one is read and cleared
the_last : remove (t ∷ []) (heap three) ≡ gave 2 (heap ((n 1, Text (codes "a")) ∷ (n 2, n 2) ∷ (n 3, Nil) ∷ [])) (Text (codes "c") ∷ [])
the_last = refl

-- remove({'a', 2, 'c'}, 1): one is read, two move, one is cleared
the_first : remove (t ∷ n 1 ∷ []) (heap three) ≡ gave 6 (heap ((n 1, n 2) ∷ (n 2, Text (codes "c")) ∷ (n 3, Nil) ∷ [])) (Text (codes "a") ∷ [])
the_first = refl

none_is_there : remove (t ∷ n 4 ∷ []) (locked three) ≡ gave 0 (locked three) []
none_is_there = refl

-- SORT: 3 entries are read, put in order for 3 times 2 binary digits, and written
numbers_in_order : sort (t ∷ []) (heap (list (n 3 ∷ n 1 ∷ n 2 ∷ []))) ≡ gave 12 (heap (list (n 1 ∷ n 2 ∷ n 3 ∷ []))) []
unfolding count_leading_zeros
numbers_in_order = refl

strings_in_order : sort (t ∷ []) (heap (list (Text (codes "b") ∷ Text (codes "ab") ∷ Text (codes "B") ∷ []))) ≡ gave 12 (heap (list (Text (codes "B") ∷ Text (codes "ab") ∷ Text (codes "b") ∷ []))) []
unfolding count_leading_zeros
strings_in_order = refl

-- a single entry may be anything
one_in_order : sort (t ∷ []) (heap (list (Truth true ∷ []))) ≡ gave 3 (heap (list (Truth true ∷ []))) []
unfolding count_leading_zeros
one_in_order = refl

-- the second entry is read, and is not of the kind of the first
two_kinds : sort (t ∷ []) (heap (list (n 1 ∷ Text (codes "a") ∷ []))) ≡ failed 2 (heap (list (n 1 ∷ Text (codes "a") ∷ []))) (codes "bad argument #1 to 'sort' (number expected, got string)")
unfolding digits
two_kinds = refl

no_order : sort (t ∷ []) (heap (list (Truth true ∷ n 1 ∷ []))) ≡ failed 1 (heap (list (Truth true ∷ n 1 ∷ []))) (codes "bad argument #1 to 'sort' (string expected, got boolean)")
unfolding digits
no_order = refl

no_comparing_function : sort (t ∷ t ∷ []) (heap []) ≡ failed 0 (heap []) (codes "bad argument #2 to 'sort' (nil expected, got table)")
unfolding digits
no_comparing_function = refl

not_in_data : sort (t ∷ []) (locked (list (n 2 ∷ n 1 ∷ []))) ≡ failed 2 (locked (list (n 2 ∷ n 1 ∷ []))) (codes "table from mw.loadData is read-only")
not_in_data = refl

sizes : binary_digits 1023 ≡ 10
unfolding count_leading_zeros
sizes = refl
