-- A copy is made entry by entry, and table by table.
use Rattle.std.proofs.Common.{◌≡◌, ℕ, zero, suc, ◌+◌, ◌-◌, ◌≤◌, ◌<◌, Bool, true, false, List, [], ◌∷◌, ◌++◌, length, map, take, drop, replicate, slice_get, slice_set, slice_index_or, refl, sym, ap, ◌∙◌, subst, arith, append_assoc, append-nil, length-append, get_or-set_same, Some, None}
use Rattle.std.specs.Prelude.{if◌then◌else◌}
use Rattle.std.specs.List.{AllByRecursion, Contains, IsDistinct, flat_map}
use Rattle.std.specs.Map.{keys_of}
use Rattle.std.specs.Option.{option_map}
use Rattle.std.proofs.Math.ListN.{get_or-append}
use Rattle.std.proofs.lemmas.List.{length-map, length-take, take_all, take_more}
use Rattle.std.proofs.lemmas.Option.{none-some, slice_get_within, get_or_from_slice_get}
use Rattle.lua_walk.specs.LuaTableEntries.{Contents}
use Rattle.lua_walk.specs.LuaHeapValue.{Value, Nil, Truth, Number, Text, Table, Closure, Builtin, Markup, same, is_nil}
use Rattle.lua_store.specs.LuaHeapTable.{Entries, HasValueKeys, empty_table}
use Rattle.lua_walk.specs.LuaHeapHeap.{Heap, tab, TableObj, table_at, put, with_entry, set_meta_in}
use Rattle.lua_walk.proofs.LuaHeapNames.{all-split}
use Rattle.lua_store.proofs.LuaHeapPlaces.{some_back, get-map}
use Rattle.lua_walk.specs.Order.{place_of, live}
use Rattle.lua_walk.specs.Laws.{table_in, links}
use Rattle.lua_walk.specs.Copy.{copy_of, copied_table, copies}
use Rattle.lua_walk.proofs.Graphs.{place-below, live-distinct}
use Rattle.lua_store.specs.declared.ids.TableId.{TableId}
use Rattle.lua_store.specs.Seen.{StoreView}
use Rattle.lua_store.specs.Parts.{IsTableOf, IsLater}
use Rattle.lua_graph.specs.Copied.{copied_entries, part_copied, IsClosedAt}
use Rattle.lua_graph.specs.Put.{grown, filled}
use Rattle.lua_graph.specs.Taken.{places}
use Rattle.lua_graph.proofs.Joining.{with_tables, grown-is, at_seam, set_seam, all_set}
use Rattle.lua_graph.proofs.Distinct.{IsLive, all_set-is}

-- NAMES of tables
pub copy_within : (keys ts : List TableId) (t i : ℕ) → AllByRecursion (Contains (places keys)) (t ∷ []) → length ts ≡ length keys → i ≡ place_of (places keys) t → i < length ts
copy_within keys ts t i c size is =
    let below = place-below (places keys) t c.0 in
    let count = length-map keys (λ (x : TableId). x.at) in
    omega (arith, below, count, size, is)

pub placed : (keys ts : List TableId) (at n : ℕ) → slice_get (places keys) at ≡ Some n → length ts ≡ length keys → at < length ts
placed keys ts at n there size =
    let within = slice_get_within (places keys) at n there in
    let count = length-map keys (λ (x : TableId). x.at) in
    omega (arith, within, count, size)

pub tables_stay : (s t : StoreView) (ts : List TableId) → IsLater s t → AllByRecursion (IsTableOf s) ts → AllByRecursion (IsTableOf t) ts
tables_stay s t [] l a = tt
tables_stay s t (m ∷ ts) l a = (omega (arith, a.0, l.tables), tables_stay s t ts l a.1)

-- WHAT A TABLE LEADS TO
rest_reached : (order : List ℕ) (es : Entries) (at : ℕ) → AllByRecursion (Contains order) (flat_map (λ e. table_in e.1) es) → AllByRecursion (Contains order) (flat_map (λ e. table_in e.1) (drop at es))
rest_reached order es zero a = a
rest_reached order [] (suc at) a = tt
rest_reached order (e ∷ es) (suc at) a = rest_reached order es at (all-split (Contains order) (table_in e.1) (flat_map (λ f. table_in f.1) es) a).1

pub entry_reached : (order : List ℕ) (t : Contents Value) (at : ℕ) (e : Value × Value) (rest : Entries) → drop at t.entries ≡ e ∷ rest → AllByRecursion (Contains order) (links t) → AllByRecursion (Contains order) (table_in e.1)
entry_reached order t at e rest there a =
    let all = (all-split (Contains order) (table_in t.meta) (flat_map (λ e. table_in e.1) t.entries) a).1 in
    let these = subst (λ l. AllByRecursion (Contains order) (flat_map (λ e. table_in e.1) l)) there (rest_reached order t.entries at all) in
    (all-split (Contains order) (table_in e.1) (flat_map (λ e. table_in e.1) rest) these).0

-- AN ENTRY
abbrev with_value : ℕ → List ℕ → Value × Value → Value × Value
with_value k order e = (e.0, copy_of k order e.1)

-- A TABLE
set_twice : {A : Type 0} (xs : List A) (n : ℕ) (y z : A) → slice_set (slice_set xs n y) n z ≡ slice_set xs n z
set_twice [] n y z = refl
set_twice (x ∷ xs) zero y z = refl
set_twice (x ∷ xs) (suc n) y z = ap (λ l. x ∷ l) (set_twice xs n y z)

filled_at : {X : Type 0} (h : Heap X) (t : ℕ) (u : Contents Value) (es : Entries) → t < length h.tables
    → filled t es (put h (tab t) (TableObj u)) ≡ put h (tab t) (TableObj (record u { entries = all_set u.entries es }))
filled_at h t u [] le = refl
filled_at h t u (e ∷ es) le =
    ap (filled t es)
    (ap (λ c. record h { tables = slice_set (slice_set h.tables t u) t (with_entry c e.0 e.1) }) (get_or-set_same h.tables t u empty_table le)
    ∙ ap (λ l. record h { tables = l }) (set_twice h.tables t u (with_entry u e.0 e.1)))
    ∙ filled_at h t (with_entry u e.0 e.1) es le

copy_held : (k : ℕ) (order : List ℕ) (v : Value) → is_nil v ≡ false → is_nil (copy_of k order v) ≡ false
copy_held k order (Table t) e = refl
copy_held k order Nil e = e
copy_held k order (Truth b) e = e
copy_held k order (Number n) e = e
copy_held k order (Text t) e = e
copy_held k order (Closure t) e = e
copy_held k order (Builtin t) e = e
copy_held k order (Markup t) e = e

copies_held : (k : ℕ) (order : List ℕ) (es : Entries) → AllByRecursion IsLive (copied_entries k order es)
copies_held k order [] = tt
copies_held k order (e ∷ es) = go (is_nil e.1) refl (copies_held k order es)
  where
    go : (b : Bool) → is_nil e.1 ≡ b → AllByRecursion IsLive (copied_entries k order es) → AllByRecursion IsLive (map (with_value k order) (if b then live es else (e ∷ live es)))
    go true f r = r
    go false f r = (copy_held k order e.1 f, r)

same_keys : (k : ℕ) (order : List ℕ) (es : Entries) → keys_of (map (with_value k order) es) ≡ keys_of es
same_keys k order [] = refl
same_keys k order (e ∷ es) = ap (λ l. e.0 ∷ l) (same_keys k order es)

copied_set : (k : ℕ) (order : List ℕ) (es : Entries) → HasValueKeys es → all_set [] (copied_entries k order es) ≡ copied_entries k order es
copied_set k order es h = all_set-is [] (copied_entries k order es) (copies_held k order es) (subst (IsDistinct same) (sym (same_keys k order (live es))) (live-distinct es h.distinct))

-- all entries
pub copied_in : (s u v : StoreView) (a t k : ℕ) (order : List ℕ) (meta : Value) (rest : Entries) → t < length s.heap.tables → table_at s.heap t ≡ empty_table → HasValueKeys (table_at s.heap a).entries
    → u ≡ record s { heap = set_meta_in s.heap t meta } → meta ≡ copy_of k order (table_at s.heap a).meta → v ≡ record s { heap = v.heap }
    → filled t (copied_entries k order rest) v.heap ≡ filled t (copied_entries k order (table_at s.heap a).entries) u.heap → rest ≡ []
    → v ≡ record s { heap = put s.heap (tab t) (TableObj (copied_table k order (table_at s.heap a))) }
copied_in s u v a t k order meta rest le blank keys is same_ only e none =
    let es = copied_entries k order (table_at s.heap a).entries in
    let m = copy_of k order (table_at s.heap a).meta in
    let done : v.heap ≡ filled t es u.heap = ap (λ l. filled t (copied_entries k order l) v.heap) (sym none) ∙ e in
    let first : u.heap ≡ put s.heap (tab t) (TableObj (record empty_table { meta = m })) =
    ap (λ (x : StoreView). x.heap) is ∙ ap (λ w. set_meta_in s.heap t w) same_ ∙ ap (λ (c : Contents Value). put s.heap (tab t) (TableObj (record c { meta = m }))) blank in
    only ∙ ap (λ h. record s { heap = h })
    (done ∙ ap (filled t es) first ∙ filled_at s.heap t (record empty_table { meta = m }) es le
    ∙ ap (λ l. put s.heap (tab t) (TableObj (record { entries = l; meta = m; frozen = false }))) (copied_set k order (table_at s.heap a).entries keys))

-- ALL TABLES
module _ {X : Type 0} (h : Heap X) (order : List ℕ) where
  pub part_none : (n : ℕ) → n ≡ length order → grown n h ≡ part_copied h order 0
  part_none n e =
      let size : n ≡ length order - 0 = omega (arith, e) in
      grown-is n h h.tables ∙ ap (λ m. with_tables h (h.tables ++ replicate m empty_table)) size

  pub part_old : (at n : ℕ) → n < length h.tables → table_at (part_copied h order at) n ≡ table_at h n
  part_old at n le = get_or-append h.tables (take at (copies h order) ++ replicate (length order - at) empty_table) empty_table n le

  abbrev before : ℕ → List (Contents Value)
  before at = h.tables ++ take at (copies h order)

  abbrev behind : ℕ → List (Contents Value)
  behind at = replicate (length order - (at + 1)) empty_table

  before_size : (at : ℕ) → at < length order → length (before at) ≡ length h.tables + at
  before_size at le =
      let a = length-append h.tables (take at (copies h order)) in
      let b = length-take at (copies h order) in
      let c = length-map order (λ n. copied_table (length h.tables) order (table_at h n)) in
      omega (arith, a, b, c, le)

  part_seam : (at : ℕ) → at < length order → part_copied h order at ≡ with_tables h (before at ++ (empty_table ∷ behind at))
  part_seam at le =
      let more : length order - at ≡ suc (length order - (at + 1)) = omega (arith, le) in
      ap (λ n. with_tables h (h.tables ++ (take at (copies h order) ++ replicate n empty_table))) more
      ∙ ap (with_tables h) (sym (append_assoc h.tables (take at (copies h order)) (empty_table ∷ behind at)))

  pub part_blank : (at : ℕ) → at < length order → table_at (part_copied h order at) (length h.tables + at) ≡ empty_table
  part_blank at le =
      ap (λ (x : Heap X). table_at x (length h.tables + at)) (part_seam at le)
      ∙ ap (λ n. slice_index_or (before at ++ (empty_table ∷ behind at)) n empty_table) (sym (before_size at le))
      ∙ at_seam (before at) empty_table empty_table (behind at)

  -- one table more
  part_put : (at n : ℕ) (c : Contents Value) → slice_get order at ≡ Some n → c ≡ copied_table (length h.tables) order (table_at h n)
      → put (part_copied h order at) (tab (length h.tables + at)) (TableObj c) ≡ part_copied h order (at + 1)
  part_put at n c there is =
      let le = slice_get_within order at n there in
      let f : ℕ → Contents Value = λ n. copied_table (length h.tables) order (table_at h n) in
      let size = length-map order f in
      let inside : at < length (copies h order) = omega (arith, le, size) in
      let found : slice_index_or (copies h order) at empty_table ≡ c =
      get_or_from_slice_get (copies h order) at (f n) empty_table (get-map f order at ∙ ap (option_map f) there) ∙ sym is in
      ap (λ (x : Heap X). put x (tab (length h.tables + at)) (TableObj c)) (part_seam at le)
      ∙ ap (λ n. with_tables h (slice_set (before at ++ (empty_table ∷ behind at)) n c)) (sym (before_size at le))
      ∙ ap (with_tables h) (set_seam (before at) empty_table c (behind at)
      ∙ append_assoc h.tables (take at (copies h order)) (c ∷ behind at)
      ∙ ap (λ l. h.tables ++ l) (sym (append_assoc (take at (copies h order)) (c ∷ []) (behind at)) ∙ ap (λ l. l ++ behind at) (sym (take_more (copies h order) at empty_table inside ∙ ap (λ x. take at (copies h order) ++ x ∷ []) found))))

  pub part_all : (at : ℕ) → slice_get order at ≡ None → part_copied h order at ≡ with_tables h (h.tables ++ copies h order)
  part_all at none =
      let past : length order ≤ at = past_end order at none in
      let size = length-map order (λ n. copied_table (length h.tables) order (table_at h n)) in
      let over : length order - at ≡ 0 = omega (arith, past) in
      ap (λ n. with_tables h (h.tables ++ (take at (copies h order) ++ replicate n empty_table))) over
      ∙ ap (λ l. with_tables h (h.tables ++ l)) (append-nil (take at (copies h order)) ∙ take_all at (copies h order) (omega (arith, size, past)))
    where
      past_end : (xs : List ℕ) (n : ℕ) → slice_get xs n ≡ None → length xs ≤ n
      past_end [] n e = omega arith
      past_end (x ∷ xs) zero e = absurd (none-some x (sym e))
      past_end (x ∷ xs) (suc n) e = let f = past_end xs n e in omega (arith, f)

pub part_on : (s u v : StoreView) (order : List ℕ) (at n t : ℕ) → slice_get order at ≡ Some n → n < length s.heap.tables → t ≡ length s.heap.tables + at → u ≡ record s { heap = part_copied s.heap order at }
    → v ≡ record u { heap = put u.heap (tab t) (TableObj (copied_table (length s.heap.tables) order (table_at u.heap n))) } → v ≡ record s { heap = part_copied s.heap order (at + 1) }
part_on s u v order at n t there old is e f =
    f ∙ ap (λ i. record u { heap = put u.heap (tab i) (TableObj (copied_table (length s.heap.tables) order (table_at u.heap n))) }) is
    ∙ ap (λ (x : StoreView). record x { heap = put x.heap (tab (length s.heap.tables + at)) (TableObj (copied_table (length s.heap.tables) order (table_at x.heap n))) }) e
    ∙ ap (λ h. record s { heap = h }) (part_put s.heap order at n _ there (ap (copied_table (length s.heap.tables) order) (part_old s.heap order at n old)))

-- what is asked of a table that becomes a copy
pub part_target : (s u : StoreView) (order : List ℕ) (at t : ℕ) → at < length order → t ≡ length s.heap.tables + at → u ≡ record s { heap = part_copied s.heap order at } → table_at u.heap t ≡ empty_table
part_target s u order at t le is e = ap (λ (x : StoreView). table_at x.heap t) e ∙ ap (table_at (part_copied s.heap order at)) is ∙ part_blank s.heap order at le

pub part_closed : (s u : StoreView) (order : List ℕ) (at n : ℕ) → n < length s.heap.tables → slice_get order at ≡ Some n → u ≡ record s { heap = part_copied s.heap order at } → AllByRecursion (IsClosedAt s.heap order) order → IsClosedAt u.heap order n
part_closed s u order at n le there e a =
    subst (λ (c : Contents Value). AllByRecursion (Contains order) (links c)) (sym (ap (λ (x : StoreView). table_at x.heap n) e ∙ part_old s.heap order at n le)) (found order at there a)
  where
    found : (xs : List ℕ) (i : ℕ) → slice_get xs i ≡ Some n → AllByRecursion (IsClosedAt s.heap order) xs → IsClosedAt s.heap order n
    found [] i f b = absurd (none-some n f)
    found (x ∷ xs) zero f b = subst (IsClosedAt s.heap order) (some_back f) b.0
    found (x ∷ xs) (suc i) f b = found xs i f b.1
