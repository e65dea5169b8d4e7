-- Values at places of a table: how many there are, what is put, and what that costs.
use Rattle.std.proofs.Common.{◌≡◌, ◌≢◌, ◌∙◌, ap, sym, subst, refl, arith, ℕ, zero, suc, ◌+◌, ◌<◌, ◌≤◌, true, false, ℤ, pos, negsuc, ◌+ℤ◌, ◌-ℤ◌, List, [], ◌∷◌, length, Option, Some, None, is_some, unwrap_or, get_or-set_same}
use Rattle.std.specs.Prelude.{◌≤ℤ◌, ◌<ℤ◌}
use Rattle.std.specs.Map.{lookup}
use Rattle.std.proofs.lemmas.Int.{ints}
use Rattle.lua_table.specs.Entries.{Contents}
use Rattle.lua_basic.specs.LuaHeapValue.{Value, Nil, Number, same}
use Rattle.lua_basic.specs.LuaHeapTable.{Entries, get, has, border, empty_table}
use Rattle.lua_basic.specs.LuaHeapHeap.{Heap, table_at, set_in, with_entry}
use Rattle.lua_basic.proofs.LuaHeapBorders.{border_is_least}
use Rattle.lua_basic.specs.LuaMeaningBasic.{set_charge, how_many, count_between, entries_from}
use Rattle.lua_basic.specs.LuaStoreDeclaredValueValue.{Value as Stored}
use Rattle.lua_basic.specs.LuaStoreSeen.{StoreView, seen}
use Rattle.lua_basic.specs.LuaStoreParts.{IsOf, IsLater}
use Rattle.lua_basic.proofs.LuaStoreLists.{all-to}
use Rattle.lua_basic.proofs.LuaStoreLater.{of-later, seen-later, later-itself, later-then}
use Rattle.lua_basic.specs.Seen.{values_seen, AllOf}
use Rattle.lua_basic.specs.LuaMeaningTableLibrary.{put_from, put_charge}
use Rattle.lua_tables.specs.Moves.{last_put}

-- WHAT A SET LEAVES
pub table-set : {X : Type 0} (h : Heap X) (t : ℕ) (k v : Value) → t < length h.tables → table_at (set_in h t k v) t ≡ with_entry (table_at h t) k v
table-set h t k v lt = get_or-set_same h.tables t (with_entry (table_at h t) k v) empty_table lt

pub still_writable : {X : Type 0} (h i : Heap X) (t : ℕ) (k v : Value) → t < length h.tables → (table_at h t).frozen ≡ false → i ≡ set_in h t k v → (table_at i t).frozen ≡ false
still_writable h i t k v lt open_ e = ap (λ j. (table_at j t).frozen) e ∙ ap (λ (c : Contents Value). c.frozen) (table-set h t k v lt) ∙ open_

-- one more value is put
pub put-on : {X : Type 0} (first : ℤ) (offset t : ℕ) (v : Value) (us vs : List Value) (h i whole : Heap X) → us ≡ v ∷ vs → i ≡ set_in h t (Number (first +ℤ pos offset)) v
    → put_from (first +ℤ pos offset) us t h ≡ whole → put_from (first +ℤ pos (offset + 1)) vs t i ≡ whole
put-on first offset t v us vs h i whole is made e =
    let next : first +ℤ pos (offset + 1) ≡ (first +ℤ pos offset) +ℤ pos 1 = omega (arith, ints) in
    ap (λ z. put_from z vs t i) next ∙ ap (put_from ((first +ℤ pos offset) +ℤ pos 1) vs t) made ∙ sym (ap (λ xs. put_from (first +ℤ pos offset) xs t h) is) ∙ e

-- what is of a store is of each later one
pub all-later : (s t : StoreView) (vs : List Stored) → IsLater s t → AllOf s vs → AllOf t vs
all-later s t vs l all = all-to (IsOf s) (IsOf t) (of-later s t l) vs all

pub values-later : (s t : StoreView) (vs : List Stored) → IsLater s t → AllOf s vs → values_seen t.texts vs ≡ values_seen s.texts vs
values-later s t [] l all = refl
values-later s t (v ∷ vs) l all = ap (λ x. x ∷ values_seen t.texts vs) (seen-later s t l v all.0) ∙ ap (λ xs. seen s.texts v ∷ xs) (values-later s t vs l all.1)

-- values are put one after another: the store has come so far
pub record Putting (s0 : StoreView) (t : ℕ) (first : ℤ) (values : List Stored) (offset : ℕ) (rest : List Stored) (s : StoreView) : Type 0 where
  pub put : s ≡ record s0 { heap = s.heap }
  pub more : put_from (first +ℤ pos offset) (values_seen s0.texts rest) t s.heap ≡ put_from first (values_seen s0.texts values) t s0.heap
  pub of : AllOf s rest
  pub later : IsLater s0 s
  pub writable : (table_at s.heap t).frozen ≡ false
  pub sum : offset + length rest ≡ length values

pub putting-start : (s : StoreView) (t : ℕ) (first : ℤ) (values : List Stored) → AllOf s values → (table_at s.heap t).frozen ≡ false → Putting s t first values 0 values s
putting-start s t first values all open_ =
    let here : first +ℤ pos 0 ≡ first = omega (arith, ints) in
    record {
      put = refl;
      more = ap (λ z. put_from z (values_seen s.texts values) t s.heap) here;
      of = all;
      later = later-itself s;
      writable = open_;
      sum = omega arith;
    }

pub putting-on : (s0 s u : StoreView) (t : ℕ) (first place : ℤ) (values rest more : List Stored) (v : Stored) (offset : ℕ) → t < length s0.heap.tables → rest ≡ v ∷ more → place ≡ first +ℤ pos offset
    → u ≡ record s { heap = set_in s.heap t (Number place) (seen s.texts v) } → IsLater s u → Putting s0 t first values offset rest s → Putting s0 t first values (offset + 1) more u
putting-on s0 s u t first place values rest more v offset lt is at made later p =
    let texts : s.texts ≡ s0.texts = ap (λ (x : StoreView). x.texts) p.put in
    let heap : u.heap ≡ set_in s.heap t (Number (first +ℤ pos offset)) (seen s0.texts v) =
    ap (λ (x : StoreView). x.heap) made ∙ ap (λ ts. set_in s.heap t (Number place) (seen ts v)) texts ∙ ap (λ z. set_in s.heap t (Number z) (seen s0.texts v)) at in
    let there_ = p.later.tables in
    let size : length rest ≡ suc (length more) = ap length is in
    let sum = p.sum in
    record {
      put = made ∙ ap (λ (x : StoreView). let y : StoreView = record x { heap = set_in s.heap t (Number place) (seen s.texts v) } in y) p.put ∙ ap (λ h. let y : StoreView = record s0 { heap = h } in y) (sym (ap (λ (x : StoreView). x.heap) made));
      more = put-on first offset t (seen s0.texts v) (values_seen s0.texts rest) (values_seen s0.texts more) s.heap u.heap (put_from first (values_seen s0.texts values) t s0.heap) (ap (values_seen s0.texts) is) heap p.more;
      of = all-later s u more later (subst (AllOf s) is p.of).1;
      later = later-then s0 s u p.later later;
      writable = still_writable s.heap u.heap t (Number (first +ℤ pos offset)) (seen s0.texts v) (omega (arith, lt, there_)) p.writable heap;
      sum = omega (arith, sum, size);
    }

pub putting-end : (s0 s : StoreView) (t : ℕ) (first : ℤ) (values rest : List Stored) (offset : ℕ) → rest ≡ [] → Putting s0 t first values offset rest s
    → s ≡ record s0 { heap = put_from first (values_seen s0.texts values) t s0.heap }
putting-end s0 s t first values rest offset is p =
    p.put ∙ ap (λ h. let y : StoreView = record s0 { heap = h } in y) (sym (ap (λ vs. put_from (first +ℤ pos offset) (values_seen s0.texts vs) t s.heap) is) ∙ p.more)

-- HOW MANY PLACES there are from one to another
in_many : (i j d : ℤ) (k : ℕ) → j -ℤ i ≡ d → k < how_many d → (i +ℤ pos k) ≤ℤ j
in_many i j (pos n) k e lt = let within : k < suc n = lt in omega (arith, ints, e, within)
in_many i j (negsuc n) k e lt = let within : k < 0 = lt in absurd (omega (arith, within))

pub in_count : (i j : ℤ) (k : ℕ) → k < count_between i j → (i +ℤ pos k) ≤ℤ j
in_count i j k lt = in_many i j (j -ℤ i) k refl lt

many_in : (i j d : ℤ) (k : ℕ) → j -ℤ i ≡ d → (i +ℤ pos k) ≤ℤ j → k < how_many d
many_in i j (pos n) k e le = let within : k < suc n = omega (arith, ints, e, le) in within
many_in i j (negsuc n) k e le = absurd (omega (arith, ints, e, le))

pub count_in : (i j : ℤ) (k : ℕ) → (i +ℤ pos k) ≤ℤ j → k < count_between i j
count_in i j k le = many_in i j (j -ℤ i) k refl le

many_out : (i j d : ℤ) (k : ℕ) → j -ℤ i ≡ d → j <ℤ (i +ℤ pos k) → how_many d ≤ k
many_out i j (pos n) k e lt = let within : suc n ≤ k = omega (arith, ints, e, lt) in within
many_out i j (negsuc n) k e lt = let within : 0 ≤ k = omega arith in within

pub count_out : (i j : ℤ) (k : ℕ) → j <ℤ (i +ℤ pos k) → count_between i j ≤ k
count_out i j k lt = many_out i j (j -ℤ i) k refl lt

pub count_from_one : (n : ℕ) → count_between (pos 1) (pos n) ≡ n
count_from_one n =
    let low : count_between (pos 1) (pos n) ≤ n = count_out (pos 1) (pos n) n (omega (arith, ints)) in
    let high : n ≤ count_between (pos 1) (pos n) = go n in
    omega (arith, low, high)
  where
    go : (n : ℕ) → n ≤ count_between (pos 1) (pos n)
    go zero = omega arith
    go (suc m) = let lt : m < count_between (pos 1) (pos (suc m)) = count_in (pos 1) (pos (suc m)) m (omega (arith, ints)) in omega (arith, lt)

pub length-entries : (n : ℕ) (i : ℤ) (es : Entries) → length (entries_from n i es) ≡ n
length-entries zero i es = refl
length-entries (suc n) i es = ap suc (length-entries n (i +ℤ pos 1) es)

-- PLACES UP TO THE BORDER have entries
has-value : (es : Entries) (k : Value) → get es k ≢ Nil → has es k ≡ true
has-value es k d = go (lookup (same k) es) d
  where
    go : (o : Option Value) → unwrap_or o Nil ≢ Nil → is_some o ≡ true
    go None d = absurd (d refl)
    go (Some v) d = refl

pub there : (es : Entries) (z : ℤ) → pos 1 ≤ℤ z → z ≤ℤ pos (border es) → has es (Number z) ≡ true
there es (pos n) low high = has-value es (Number (pos n)) ((border_is_least es).1.below n (omega (arith, ints, low)) (omega (arith, ints, high)))
there es (negsuc n) low high = absurd (omega (arith, ints, low))

-- WHAT PUTTING COSTS
no_more : (es : Entries) (k v : Value) → has es k ≡ true → set_charge es k v ≡ 0
no_more es k v h = rw h refl

shifted : (es : Entries) (i : ℤ) (n : ℕ) → ((k : ℕ) → k < suc n → has es (Number (i +ℤ pos k)) ≡ true) → (k : ℕ) → k < n → has es (Number ((i +ℤ pos 1) +ℤ pos k)) ≡ true
shifted es i n all k lt =
    let same_ : (i +ℤ pos 1) +ℤ pos k ≡ i +ℤ pos (suc k) = omega (arith, ints) in
    subst (λ z. has es (Number z) ≡ true) (sym same_) (all (suc k) (omega (arith, lt)))

first_there : (es : Entries) (i : ℤ) (n : ℕ) → ((k : ℕ) → k < suc n → has es (Number (i +ℤ pos k)) ≡ true) → has es (Number i) ≡ true
first_there es i n all = let same_ : i +ℤ pos 0 ≡ i = omega (arith, ints) in subst (λ z. has es (Number z) ≡ true) same_ (all 0 (omega arith))

-- where each place has an entry, putting costs a step for each value
pub put_there : (i : ℤ) (vs : List Value) (es : Entries) → ((k : ℕ) → k < length vs → has es (Number (i +ℤ pos k)) ≡ true) → put_charge i vs es ≡ length vs
put_there i [] es all = refl
put_there i (v ∷ vs) es all =
    let here = no_more es (Number i) v (first_there es i (length vs) all) in
    let more = put_there (i +ℤ pos 1) vs es (shifted es i (length vs) all) in
    omega (arith, here, more)

-- an insertion costs a step for each value, and what the last one costs
pub put_inserted : (n : ℕ) (i : ℤ) (v : Value) (es : Entries) → ((k : ℕ) → k < n → has es (Number (i +ℤ pos k)) ≡ true)
    → put_charge i (v ∷ entries_from n i es) es ≡ (n + 1) + set_charge es (Number (i +ℤ pos n)) (last_put n i v es)
put_inserted zero i v es all =
    let same_ : i ≡ i +ℤ pos 0 = omega (arith, ints) in
    let here : set_charge es (Number i) v ≡ set_charge es (Number (i +ℤ pos 0)) v = ap (λ z. set_charge es (Number z) v) same_ in
    omega (arith, here)
put_inserted (suc n) i v es all =
    let here = no_more es (Number i) v (first_there es i n all) in
    let w = get es (Number i) in
    let more = put_inserted n (i +ℤ pos 1) w es (shifted es i n all) in
    let place : (i +ℤ pos 1) +ℤ pos n ≡ i +ℤ pos (suc n) = omega (arith, ints) in
    let charge : set_charge es (Number ((i +ℤ pos 1) +ℤ pos n)) (last_put n (i +ℤ pos 1) w es) ≡ set_charge es (Number (i +ℤ pos (suc n))) (last_put (suc n) i v es) =
    ap (λ z. set_charge es (Number z) (last_put n (i +ℤ pos 1) w es)) place ∙ ap (set_charge es (Number (i +ℤ pos (suc n)))) (last_of n i es) in
    omega (arith, here, more, charge)
  where
    last_of : (n : ℕ) (i : ℤ) (es : Entries) → last_put n (i +ℤ pos 1) (get es (Number i)) es ≡ get es (Number (i +ℤ pos n))
    last_of zero i es = let same_ : i ≡ i +ℤ pos 0 = omega (arith, ints) in ap (λ z. get es (Number z)) same_
    last_of (suc m) i es = let same_ : (i +ℤ pos 1) +ℤ pos m ≡ i +ℤ pos (suc m) = omega (arith, ints) in ap (λ z. get es (Number z)) same_
