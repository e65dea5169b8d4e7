-- WHAT EACH CALL MAKES OF A STORE: of what is kept, and of what is seen.
use Rattle.std.proofs.Common.{◌≡◌, ◌≢◌, ℕ, zero, suc, ◌<◌, ◌≤◌, ◌-◌, Bool, true, false, true≢false, cond, List, [], ◌∷◌, ◌++◌, length, map, refl, sym, ap, ◌∙◌, arith, subst, slice_get, slice_set, Some}
use Rattle.std.specs.Option.{option_map}
use Rattle.std.proofs.lemmas.Option.{slice_get-map, get_or_from_slice_get, slice_get_within}
use Rattle.std.proofs.lemmas.Bool.{or_parts}
use Rattle.std.proofs.lemmas.Slice.Eq.{bytes_eq-Decides}
use Rattle.std.proofs.lemmas.List.{length-append, length-set, length-map, map-append, map-set}
use Rattle.std.proofs.Math.ListN.{get_or-map}
use Rattle.std.specs.List.{IsDistinct, list_any}
use Rattle.std.specs.Prelude.{Result, Ok, Err, OnOk, OnErr, ◌↔◌, replicate}
use Rattle.std.specs.Str.{bytes_eq}
use Rattle.lua_table.specs.Entries.{Contents, is_there}
use Rattle.lua_table.specs.declared.table.SetFault.{SetFault}
use Rattle.lua_table.specs.declared.table.SetFault.TheVariants.{Frozen, NotAKey}
use Rattle.lua_heap.specs.Value as heap
use Rattle.lua_heap.specs.Value.{same, is_nil}
use Rattle.lua_heap.specs.Table.{has}
use Rattle.lua_heap.specs.Heap.{MarkupNode as HeapNode, Closed, new_table, TableObj, tab, put, table_at, with_entry as entry_set, set_in, set_meta_in, freeze_in, new_cell, set_cell_in, new_closure, new_markup, set_markup_in, markup_at, no_markup}
use Rattle.lua_store.specs.declared.ids.TextId.{TextId}
use Rattle.lua_store.specs.declared.ids.TableId.{TableId}
use Rattle.lua_store.specs.declared.value.Value.{Value}
use Rattle.lua_store.specs.declared.value.Value.TheVariants.{Nil}
use Rattle.lua_store.specs.contracts.value.ValuePartialEq.TheImpl.{ghosts}
use Rattle.lua_store.specs.declared.closure.Closure.{Closure}
use Rattle.lua_store.specs.declared.markup.MarkupNode.{MarkupNode}
use Rattle.lua_store.specs.Envs.{envs_of}
use Rattle.lua_heap.specs.Proc.{Proc}
use Rattle.lua_store.specs.Seen.{StoreView, text_at, seen, seen_table, seen_closure, seen_node}
use Rattle.lua_store.specs.Parts.{Parts, view_of, IsTableOf, IsOf, IsContentsOf, IsContentOf, IsNodeOf, AreOf, IsSound, no_contents, table_in, with_entry, with_text, IsLater}
use Rattle.lua_store.proofs.Lists.{all-at, all-set, all-push, map-alike}
use Rattle.lua_store.proofs.EntryMaps.{set_at-seen, set_at-holds, is_there-seen}
use Rattle.lua_table.proofs.SetLemmas.{HasKeys-set, HasKeys-empty}
use Rattle.lua_store.proofs.Equal.{eq-seen, eq-laws, one_place}
use Rattle.lua_store.proofs.Later.{none_made, longer-itself, longer-push, later-itself, are_of-later, contents_of-later, table-later, content_of-later, closure-later, of-later, seen-later, node_of-later, node-later}

-- what is kept is whole afterwards, and shows what the definitions of the heap say
pub record Became (p q : Parts) (s : StoreView) : Type 0 where
  pub whole : IsSound q
  pub shown : view_of q ≡ s
  pub later : IsLater (view_of p) s

became : (p q : Parts) (s : StoreView) → IsSound p → IsDistinct bytes_eq q.texts → view_of q ≡ s → IsLater (view_of p) s → (AreOf s p → AreOf s q) → Became p q s
became p q s w distinct shown later own = record {
  whole = record { distinct = distinct; own = subst (λ t. AreOf t q) (sym shown) (own (are_of-later (view_of p) s later p w.own)) };
  shown = shown;
  later = later;
}

pub later_of : (p q : Parts) (s : StoreView) → Became p q s → IsLater (view_of p) (view_of q)
later_of p q s b = subst (IsLater (view_of p)) (sym b.shown) b.later

more : {A : Type 0} (xs : List A) (x : A) → length xs ≤ length (xs ++ x ∷ [])
more xs x = let e = length-append xs (x ∷ []) in omega (arith, e)

at_before : {A : Type 0} (xs : List A) (x : A) (i : ℕ) → i < length xs → slice_get (xs ++ x ∷ []) i ≡ slice_get xs i
at_before [] x i h = absurd (omega (arith, h))
at_before (y ∷ xs) x zero h = refl
at_before (y ∷ xs) x (suc i) h = at_before xs x i (omega (arith, h))

-- at other tables, cells, closures, markup objects a store is later where there are no fewer of them

tables-later : (s : StoreView) (ts : List (Contents heap.Value)) → length s.heap.tables ≤ length ts → IsLater s (record s { heap = record s.heap { tables = ts } })
tables-later s ts h = record { texts = longer-itself s.texts; tables = h; cells = omega arith; closures = omega arith; markup = omega arith; closures_same = λ id h. refl; env = refl; envs = none_made s.env s.envs (length s.heap.closures) }

cells-later : (s : StoreView) (cs : List heap.Value) → length s.heap.cells ≤ length cs → IsLater s (record s { heap = record s.heap { cells = cs } })
cells-later s cs h = record { texts = longer-itself s.texts; tables = omega arith; cells = h; closures = omega arith; markup = omega arith; closures_same = λ id h. refl; env = refl; envs = none_made s.env s.envs (length s.heap.closures) }

one_made : (env : ℕ) (envs : List ℕ) (cs : List (Closed Proc)) (c : Closed Proc) → envs ++ env ∷ [] ≡ envs ++ replicate (length (cs ++ c ∷ []) - length cs) env
one_made env envs cs c =
    let e = length-append cs (c ∷ []) in
    let one : 1 ≡ length (cs ++ c ∷ []) - length cs = omega (arith, e) in
    ap (λ n. envs ++ replicate n env) one

closures-later : (s : StoreView) (c : Closed Proc) → IsLater s (record { texts = s.texts; heap = record s.heap { closures = s.heap.closures ++ c ∷ [] }; envs = s.envs ++ s.env ∷ []; env = s.env })
closures-later s c = record {
  texts = longer-itself s.texts;
  tables = omega arith;
  cells = omega arith;
  closures = more s.heap.closures c;
  markup = omega arith;
  closures_same = at_before s.heap.closures c;
  env = refl;
  envs = one_made s.env s.envs s.heap.closures c;
}

markup-later : (s : StoreView) (ns : List HeapNode) → length s.heap.markup ≤ length ns → IsLater s (record s { heap = record s.heap { markup = ns } })
markup-later s ns h = record { texts = longer-itself s.texts; tables = omega arith; cells = omega arith; closures = omega arith; markup = h; closures_same = λ id h. refl; env = refl; envs = none_made s.env s.envs (length s.heap.closures) }

as_many : {A : Type 0} (xs : List A) (i : ℕ) (x : A) → length xs ≤ length (slice_set xs i x)
as_many xs i x = let e = length-set xs i x in omega (arith, e)

turned : (a b : List ℕ) → bytes_eq a b ≡ false → bytes_eq b a ≡ false
turned a b h = by (bytes_eq b a) refl
  where
    by : (x : Bool) → bytes_eq b a ≡ x → x ≡ false
    by true e = absurd (true≢false (sym ((bytes_eq-Decides a b).1 (sym ((bytes_eq-Decides b a).0 e))) ∙ h))
    by false e = refl

-- a text that was not there, behind all others
distinct-push : (texts : List (List ℕ)) (bytes : List ℕ) → IsDistinct bytes_eq texts → list_any (bytes_eq bytes) texts ≡ false → IsDistinct bytes_eq (texts ++ bytes ∷ [])
unfolding IsDistinct
distinct-push [] bytes d new = (tt, tt)
distinct-push (t ∷ texts) bytes d new =
    let parts = or_parts (bytes_eq bytes t) (list_any (bytes_eq bytes) texts) new in
    (all-push (λ u. bytes_eq t u ≡ false) texts bytes d.0 (turned bytes t parts.0), distinct-push texts bytes d.1 parts.1)

module _ (p : Parts) (w : IsSound p) where
  -- TABLES
  pub made_table : Became p (record p { tables = p.tables ++ no_contents ∷ [] }) (record (view_of p) { heap = (new_table (view_of p).heap).0 })
  made_table = became p (record p { tables = p.tables ++ no_contents ∷ [] }) (record (view_of p) { heap = (new_table (view_of p).heap).0 }) w w.distinct
      (ap (λ ts. let s : StoreView = record (view_of p) { heap = record (view_of p).heap { tables = ts } } in s) (map-append (seen_table p.texts) p.tables (no_contents ∷ [])))
      (tables-later (view_of p) (new_table (view_of p).heap).0.tables (more (view_of p).heap.tables (seen_table p.texts no_contents)))
      (λ own. record { tables = all-push (IsContentsOf _) p.tables no_contents own.tables (record { entries = tt; meta = tt; keys = HasKeys-empty ghosts.eq Nil }); cells = own.cells; closures = own.closures; markup = own.markup })

  pub put_table : (id : ℕ) (t : Contents Value) → IsContentsOf (view_of p) t
      → Became p (record p { tables = slice_set p.tables id t }) (record (view_of p) { heap = record (view_of p).heap { tables = slice_set (view_of p).heap.tables id (seen_table p.texts t) } })
  put_table id t of =
      let later = tables-later (view_of p) (slice_set (view_of p).heap.tables id (seen_table p.texts t)) (as_many (view_of p).heap.tables id (seen_table p.texts t)) in
      became p (record p { tables = slice_set p.tables id t }) (record (view_of p) { heap = record (view_of p).heap { tables = slice_set (view_of p).heap.tables id (seen_table p.texts t) } }) w w.distinct
      (ap (λ ts. let s : StoreView = record (view_of p) { heap = record (view_of p).heap { tables = ts } } in s) (map-set (seen_table p.texts) p.tables id t))
      later
      (λ own. record { tables = all-set (IsContentsOf _) p.tables id t own.tables (contents_of-later (view_of p) _ later t of); cells = own.cells; closures = own.closures; markup = own.markup })

  -- the table at a place, as it is kept and as it is seen
  pub table_in-of : (id : ℕ) → id < length p.tables → IsContentsOf (view_of p) (table_in p.tables id)
  table_in-of id h = all-at (IsContentsOf (view_of p)) p.tables id no_contents w.own.tables h

  pub table_in-seen : (id : ℕ) → table_at (view_of p).heap id ≡ seen_table p.texts (table_in p.tables id)
  table_in-seen id = get_or-map (seen_table p.texts) p.tables id no_contents

  changed_table : (id : ℕ) (t : Contents Value) (u : Contents heap.Value) → IsContentsOf (view_of p) t → seen_table p.texts t ≡ u
      → Became p (record p { tables = slice_set p.tables id t }) (record (view_of p) { heap = put (view_of p).heap (tab id) (TableObj u) })
  changed_table id t u of e = subst (λ x. Became p (record p { tables = slice_set p.tables id t }) (record (view_of p) { heap = put (view_of p).heap (tab id) (TableObj x) })) e (put_table id t of)

  pub set_table : (id : ℕ) (key value : Value) → id < length p.tables → IsOf (view_of p) key → IsOf (view_of p) value → key ≢ Nil
      → Became p (record p { tables = slice_set p.tables id (with_entry (table_in p.tables id) key value) }) (record (view_of p) { heap = set_in (view_of p).heap id (seen p.texts key) (seen p.texts value) })
  set_table id key value h k v named =
      let of = table_in-of id h in
      changed_table id (with_entry (table_in p.tables id) key value) (entry_set (table_at (view_of p).heap id) (seen p.texts key) (seen p.texts value))
      (record { entries = set_at-holds ghosts.eq same (seen p.texts) (IsOf (view_of p)) (eq-seen (view_of p) w.distinct) Nil tt (table_in p.tables id).entries key value of.entries k v; meta = of.meta; keys = HasKeys-set ghosts.eq Nil eq-laws (table_in p.tables id).entries key value named of.keys })
      (ap (λ es. let t : Contents heap.Value = record { entries = es; meta = seen p.texts (table_in p.tables id).meta; frozen = (table_in p.tables id).frozen } in t)
      (set_at-seen ghosts.eq same (seen p.texts) (IsOf (view_of p)) (eq-seen (view_of p) w.distinct) Nil tt (table_in p.tables id).entries key value of.entries k v)
      ∙ ap (λ t. entry_set t (seen p.texts key) (seen p.texts value)) (sym (table_in-seen id)))

  pub set_meta_table : (id : ℕ) (meta : Value) → id < length p.tables → IsOf (view_of p) meta
      → Became p (record p { tables = slice_set p.tables id (record (table_in p.tables id) { meta = meta }) }) (record (view_of p) { heap = set_meta_in (view_of p).heap id (seen p.texts meta) })
  set_meta_table id meta h m =
      changed_table id (record (table_in p.tables id) { meta = meta }) (record (table_at (view_of p).heap id) { meta = seen p.texts meta })
      (record { entries = (table_in-of id h).entries; meta = m; keys = (table_in-of id h).keys })
      (ap (λ (t : Contents heap.Value). let u : Contents heap.Value = record t { meta = seen p.texts meta } in u) (sym (table_in-seen id)))

  pub freeze_table : (id : ℕ) → id < length p.tables
      → Became p (record p { tables = slice_set p.tables id (record (table_in p.tables id) { frozen = true }) }) (record (view_of p) { heap = freeze_in (view_of p).heap id })
  freeze_table id h =
      changed_table id (record (table_in p.tables id) { frozen = true }) (record (table_at (view_of p).heap id) { frozen = true })
      (record { entries = (table_in-of id h).entries; meta = (table_in-of id h).meta; keys = (table_in-of id h).keys })
      (ap (λ (t : Contents heap.Value). let u : Contents heap.Value = record t { frozen = true } in u) (sym (table_in-seen id)))

  -- CELLS
  pub made_cell : (value : Value) → IsOf (view_of p) value
      → Became p (record p { cells = p.cells ++ value ∷ [] }) (record (view_of p) { heap = (new_cell (view_of p).heap (seen p.texts value)).0 })
  made_cell value of =
      let later = cells-later (view_of p) ((view_of p).heap.cells ++ seen p.texts value ∷ []) (more (view_of p).heap.cells (seen p.texts value)) in
      became p (record p { cells = p.cells ++ value ∷ [] }) (record (view_of p) { heap = (new_cell (view_of p).heap (seen p.texts value)).0 }) w w.distinct
      (ap (λ cs. let s : StoreView = record (view_of p) { heap = record (view_of p).heap { cells = cs } } in s) (map-append (seen p.texts) p.cells (value ∷ [])))
      later
      (λ own. record { tables = own.tables; cells = all-push (IsOf (record (view_of p) { heap = (new_cell (view_of p).heap (seen p.texts value)).0 })) p.cells value own.cells (of-later (view_of p) _ later value of); closures = own.closures; markup = own.markup })

  pub put_cell : (id : ℕ) (value : Value) → IsOf (view_of p) value
      → Became p (record p { cells = slice_set p.cells id value }) (record (view_of p) { heap = set_cell_in (view_of p).heap id (seen p.texts value) })
  put_cell id value of =
      let later = cells-later (view_of p) (slice_set (view_of p).heap.cells id (seen p.texts value)) (as_many (view_of p).heap.cells id (seen p.texts value)) in
      became p (record p { cells = slice_set p.cells id value }) (record (view_of p) { heap = set_cell_in (view_of p).heap id (seen p.texts value) }) w w.distinct
      (ap (λ cs. let s : StoreView = record (view_of p) { heap = record (view_of p).heap { cells = cs } } in s) (map-set (seen p.texts) p.cells id value))
      later
      (λ own. record { tables = own.tables; cells = all-set (IsOf (record (view_of p) { heap = set_cell_in (view_of p).heap id (seen p.texts value) })) p.cells id value own.cells (of-later (view_of p) _ later value of); closures = own.closures; markup = own.markup })

  -- CLOSURES
  pub made_closure : (c : Closure) → IsContentOf (view_of p) c → c.env ≡ p.env
      → Became p (record p { closures = p.closures ++ c ∷ [] }) (record { texts = p.texts; heap = (new_closure (view_of p).heap (seen_closure p.texts c)).0; envs = (view_of p).envs ++ p.env ∷ []; env = p.env })
  made_closure c of env =
      let later = closures-later (view_of p) (seen_closure p.texts c) in
      became p (record p { closures = p.closures ++ c ∷ [] }) (record { texts = p.texts; heap = (new_closure (view_of p).heap (seen_closure p.texts c)).0; envs = (view_of p).envs ++ p.env ∷ []; env = p.env }) w w.distinct
      (ap (λ cs. let s : StoreView = record { texts = p.texts; heap = record (view_of p).heap { closures = cs }; envs = envs_of (p.closures ++ c ∷ []); env = p.env } in s) (map-append (seen_closure p.texts) p.closures (c ∷ []))
      ∙ ap (λ es. let s : StoreView = record { texts = p.texts; heap = (new_closure (view_of p).heap (seen_closure p.texts c)).0; envs = es; env = p.env } in s) (map-append (λ (c : Closure). c.env) p.closures (c ∷ []) ∙ ap (λ n. envs_of p.closures ++ n ∷ []) env))
      later
      (λ own. record { tables = own.tables; cells = own.cells; closures = all-push (IsContentOf _) p.closures c own.closures (content_of-later (view_of p) _ later c of); markup = own.markup })

  -- MARKUP
  pub made_markup : (n : MarkupNode) → IsNodeOf (view_of p) n
      → Became p (record p { markup = p.markup ++ n ∷ [] }) (record (view_of p) { heap = (new_markup (view_of p).heap (seen_node p.texts n)).0 })
  made_markup n of =
      let later = markup-later (view_of p) ((view_of p).heap.markup ++ seen_node p.texts n ∷ []) (more (view_of p).heap.markup (seen_node p.texts n)) in
      became p (record p { markup = p.markup ++ n ∷ [] }) (record (view_of p) { heap = (new_markup (view_of p).heap (seen_node p.texts n)).0 }) w w.distinct
      (ap (λ ns. let s : StoreView = record (view_of p) { heap = record (view_of p).heap { markup = ns } } in s) (map-append (seen_node p.texts) p.markup (n ∷ [])))
      later
      (λ own. record { tables = own.tables; cells = own.cells; closures = own.closures; markup = all-push (IsNodeOf _) p.markup n own.markup (node_of-later (view_of p) _ later n of) })

  pub put_markup : (id : ℕ) (n : MarkupNode) → IsNodeOf (view_of p) n
      → Became p (record p { markup = slice_set p.markup id n }) (record (view_of p) { heap = set_markup_in (view_of p).heap id (seen_node p.texts n) })
  put_markup id n of =
      let later = markup-later (view_of p) (slice_set (view_of p).heap.markup id (seen_node p.texts n)) (as_many (view_of p).heap.markup id (seen_node p.texts n)) in
      became p (record p { markup = slice_set p.markup id n }) (record (view_of p) { heap = set_markup_in (view_of p).heap id (seen_node p.texts n) }) w w.distinct
      (ap (λ ns. let s : StoreView = record (view_of p) { heap = record (view_of p).heap { markup = ns } } in s) (map-set (seen_node p.texts) p.markup id n))
      later
      (λ own. record { tables = own.tables; cells = own.cells; closures = own.closures; markup = all-set (IsNodeOf _) p.markup id n own.markup (node_of-later (view_of p) _ later n of) })

  -- TEXTS
  -- one more text, which was not there
  added_text : (bytes : List ℕ) → list_any (bytes_eq bytes) p.texts ≡ false
      → Became p (record p { texts = p.texts ++ bytes ∷ [] }) (record (view_of p) { texts = p.texts ++ bytes ∷ [] })
  added_text bytes new =
      let texts = p.texts ++ bytes ∷ [] in
      let s : StoreView = record (view_of p) { texts = texts } in
      let later : IsLater (view_of p) s = record { texts = longer-push p.texts bytes; tables = omega arith; cells = omega arith; closures = omega arith; markup = omega arith; closures_same = λ id h. refl; env = refl; envs = none_made p.env (envs_of p.closures) (length (map (seen_closure p.texts) p.closures)) } in
      became p (record p { texts = texts }) s w (distinct-push p.texts bytes w.distinct new)
      (let a = map-alike (IsContentsOf (view_of p)) (seen_table texts) (seen_table p.texts) (table-later (view_of p) s later) p.tables w.own.tables in
      let b = map-alike (IsOf (view_of p)) (seen texts) (seen p.texts) (seen-later (view_of p) s later) p.cells w.own.cells in
      let c = map-alike (IsContentOf (view_of p)) (seen_closure texts) (seen_closure p.texts) (closure-later (view_of p) s later) p.closures w.own.closures in
      let d = map-alike (IsNodeOf (view_of p)) (seen_node texts) (seen_node p.texts) (node-later (view_of p) s later) p.markup w.own.markup in
      rw (a, b, c, d) refl)
      later
      (λ own. record { tables = own.tables; cells = own.cells; closures = own.closures; markup = own.markup })

  pub with_one_text : (bytes : List ℕ) → Became p (record p { texts = with_text p.texts bytes }) (record (view_of p) { texts = with_text p.texts bytes })
  with_one_text bytes = by (list_any (bytes_eq bytes) p.texts) refl
    where
      by : (b : Bool) → list_any (bytes_eq bytes) p.texts ≡ b
          → Became p (record p { texts = cond b p.texts (p.texts ++ bytes ∷ []) }) (record (view_of p) { texts = cond b p.texts (p.texts ++ bytes ∷ []) })
      by true h = record { whole = w; shown = refl; later = later-itself (view_of p) }
      by false h = added_text bytes h

pub whole-nothing : IsSound (record { texts = []; tables = []; cells = []; closures = []; markup = []; env = 0 })
unfolding IsDistinct
whole-nothing = record { distinct = tt; own = record { tables = tt; cells = tt; closures = tt; markup = tt } }

-- an id of the store is a place in what is kept
pub table_place : (p : Parts) (s : StoreView) → view_of p ≡ s → (id : TableId) → IsTableOf s id → id.at < length p.tables
table_place p s shown id h = let e = length-map p.tables (seen_table p.texts) in let f = ap (λ (t : StoreView). length t.heap.tables) shown in omega (arith, e, f, h)

-- A set that may be refused
ok-err : (b : Bool) (e : SetFault) → ◌≡◌ {A = Result Bool SetFault} (Ok b) (Err e) → ⊥
ok-err b e h = cc

pub on_ok : {R F : Type 0} {A B : Type 0} (r : Result R F) → OnOk r A → (A → B) → OnOk r B
on_ok (Ok x) a f = f a
on_ok (Err e) a f = tt

pub of_both : {R F : Type 0} {A : Type 0} (r : Result R F) → OnOk r A → OnErr r A → A
of_both (Ok x) a b = a
of_both (Err e) a b = b

pub on_err : {R F : Type 0} {A B : Type 0} (r : Result R F) → OnErr r A → (A → B) → OnErr r B
on_err (Ok x) a f = tt
on_err (Err e) a f = f a

pub both_ok : {R F : Type 0} (A B : Type 0) (r : Result R F) → OnOk r A → OnOk r B → OnOk r (A × B)
both_ok A B (Ok x) a b = (a, b)
both_ok A B (Err e) a b = tt

-- a key that was set is not nil
pub named_ok : (r : Result Bool SetFault) (frozen : Bool) (key : Value) → ((r ≡ Err Frozen) ↔ (frozen ≡ true)) → ((r ≡ Err NotAKey) ↔ ((frozen ≡ false) × (key ≡ Nil))) → OnOk r (key ≢ Nil)
named_ok (Err e) frozen key f n = tt
named_ok (Ok made) true key f n = absurd (ok-err made Frozen (f.1 refl))
named_ok (Ok made) false key f n = λ is. ok-err made NotAKey (n.1 (refl, is))

-- what is seen of a key's entry, and of nil
pub nil-seen : (texts : List (List ℕ)) (v : Value) → is_nil (seen texts v) ≡ ghosts.eq v Nil
nil-seen texts Nil = refl
nil-seen texts _ = refl

pub has-seen : (p : Parts) → IsSound p → (id : ℕ) (key : Value) → id < length p.tables → IsOf (view_of p) key
    → has (table_at (view_of p).heap id).entries (seen p.texts key) ≡ is_there ghosts.eq Nil (table_in p.tables id).entries key
has-seen p w id key h k =
    ap (λ (t : Contents heap.Value). has t.entries (seen p.texts key)) (table_in-seen p w id)
    ∙ is_there-seen ghosts.eq same (seen p.texts) (IsOf (view_of p)) (eq-seen (view_of p) w.distinct) Nil tt (table_in p.tables id).entries key (table_in-of p w id h).entries k

-- the markup object at a place
pub markup-seen : (p : Parts) → IsSound p → (id : ℕ) (n : MarkupNode) → slice_get p.markup id ≡ Some n → seen_node p.texts n ≡ markup_at (view_of p).heap id
markup-seen p w id n h = sym (get_or_from_slice_get (map (seen_node p.texts) p.markup) id (seen_node p.texts n) no_markup (slice_get-map (seen_node p.texts) p.markup id ∙ ap (option_map (seen_node p.texts)) h))

-- a text that is found at one place is at no other
pub one_text : (p : Parts) → IsSound p → (bytes : List ℕ) (other id : TextId) → other.at < length p.texts → text_at p.texts other.at ≡ bytes → slice_get p.texts id.at ≡ Some bytes → other ≡ id
one_text p w bytes other id h is there =
    let e = one_place p.texts other.at id.at w.distinct h (slice_get_within p.texts id.at bytes there) (is ∙ sym (get_or_from_slice_get p.texts id.at bytes [] there)) in
    ap (λ n. let x : TextId = record { at = n } in x) e
