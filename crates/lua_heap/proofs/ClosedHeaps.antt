-- Closed heaps stay closed.
use Rattle.std.proofs.Common.{◌≡◌, ℕ, Bool, true, false, cond, List, [], ◌∷◌, ◌++◌, Some, IsTrue, is_some, sym, ◌∙◌, ap, subst, inl, inr}
use Rattle.std.specs.List.{flat_map}
use Rattle.lua_heap.specs.Value.{Value, Nil, same}
use Rattle.lua_heap.specs.Table.{Entries, set}
use Rattle.lua_heap.specs.Heap.{Heap, Ref, tab, cel, clo, mar, Obj, TableObj, CellObj, look, add, put, empty, table_at, with_entry}
use Rattle.lua_heap.specs.Related.{Fits, of_table, of_cell}
use Rattle.lua_heap.specs.Reach.{Set, AllIn, value_names, entry_names, table_names, obj_names, is_there, IsClosedHeap}
use Rattle.lua_heap.specs.ClosedLaws.{EmptyIsClosed, AddKeepsClosed, PutKeepsClosed, SetKeepsClosed, SetMetaKeepsClosed, FreezeKeepsClosed, SetCellKeepsClosed}
use Rattle.lua_heap.proofs.Places.{some_back, some-is, is-some}
use Rattle.lua_heap.proofs.Names.{all-split, all-join, all-map}
use Rattle.lua_heap.proofs.LookLaws.{look-old, look-back, look-put, look-put_other, same_ref}
use Rattle.lua_heap.proofs.Stood.{look-table}

-- what is there after an addition
there-add : {X : Type 0} (h : Heap X) (o : Obj X) (r : Ref) → IsTrue (is_there h r) → IsTrue (is_there (add h o) r)
there-add h o r e = let a = is-some (look h r) e in some-is _ a.0 (look-old h o r a.0 a.1)

-- and after a change
there-put : {X : Type 0} (h : Heap X) (r : Ref) (x o : Obj X) → Fits r o → look h r ≡ Some x → (q : Ref) → IsTrue (is_there h q) → IsTrue (is_there (put h r o) q)
there-put h r x o f e q i = elim (same_ref q r) [
  | inl s ↦ some-is _ o (subst (λ z. look (put h r o) z ≡ Some o) (sym s) (look-put h r x o f e))
  | inr d ↦ subst (λ z. IsTrue (is_some z)) (sym (look-put_other h r q o d)) i
]

names-there : {X : Type 0} (h : Heap X) (S : Set) → ((r : Ref) → IsTrue (is_there h r) → IsTrue (S r)) → (refs : List Ref) → AllIn (is_there h) refs → AllIn S refs
names-there h S f refs i = all-map (λ r. IsTrue (is_there h r)) (λ r. IsTrue (S r)) f refs i

-- what is named after a set
set-names : (S : Set) (es : Entries) (key value : Value) → AllIn S (flat_map entry_names es) → AllIn S (value_names key) → AllIn S (value_names value) → AllIn S (flat_map entry_names (set es key value))
set-names S [] key value i k v = go (same value Nil)
  where
    go : (b : Bool) → AllIn S (flat_map entry_names (cond b [] ((key, value) ∷ [])))
    go true = tt
    go false = all-join (λ r. IsTrue (S r)) (value_names key ++ value_names value) [] (all-join (λ r. IsTrue (S r)) (value_names key) (value_names value) k v) tt
set-names S (e ∷ es) key value i k v =
    let p = all-split (λ r. IsTrue (S r)) (entry_names e) (flat_map entry_names es) i in
    let q = all-split (λ r. IsTrue (S r)) (value_names e.0) (value_names e.1) p.0 in
    go (same key e.0) p q (set-names S es key value p.1 k v)
  where
    go : (b : Bool) → AllIn S (entry_names e) × AllIn S (flat_map entry_names es) → AllIn S (value_names e.0) × AllIn S (value_names e.1) → AllIn S (flat_map entry_names (set es key value))
        → AllIn S (flat_map entry_names (cond b ((e.0, value) ∷ es) (e ∷ set es key value)))
    go true p q rest = all-join (λ r. IsTrue (S r)) (value_names e.0 ++ value_names value) (flat_map entry_names es) (all-join (λ r. IsTrue (S r)) (value_names e.0) (value_names value) q.0 v) p.1
    go false p q rest = all-join (λ r. IsTrue (S r)) (entry_names e) (flat_map entry_names (set es key value)) p.0 rest

module _ {X : Type 0} where
  pub empty_is_closed : EmptyIsClosed X
  empty_is_closed names = record { there = at }
    where
      at : (r : Ref) → IsTrue (is_there {X = X} empty r) → (a : Obj X) × (look empty r ≡ Some a) × AllIn (is_there {X = X} empty) (obj_names names a)
      at (tab n) e = cc
      at (cel n) e = cc
      at (clo n) e = cc
      at (mar n) e = cc

  pub add_keeps_closed : AddKeepsClosed X
  add_keeps_closed names h o closed i = record { there = at }
    where
      at : (r : Ref) → IsTrue (is_there (add h o) r) → (a : Obj X) × (look (add h o) r ≡ Some a) × AllIn (is_there (add h o)) (obj_names names a)
      at r e =
          let a = is-some (look (add h o) r) e in (
            a.0,
            a.1,
            elim (look-back h o r a.0 a.1) [
              | inl p ↦ subst (λ z. AllIn (is_there (add h o)) (obj_names names z)) p.1 i
              | inr p ↦
                  let v = closed.there r (some-is _ a.0 p) in
                  names-there h (is_there (add h o)) (there-add h o) (obj_names names a.0) (subst (λ z. AllIn (is_there h) (obj_names names z)) (some_back (sym v.1 ∙ p)) v.2)
            ],
          )

  pub put_keeps_closed : PutKeepsClosed X
  put_keeps_closed names h r x o closed e f i = record { there = at }
    where
      at : (q : Ref) → IsTrue (is_there (put h r o) q) → (a : Obj X) × (look (put h r o) q ≡ Some a) × AllIn (is_there (put h r o)) (obj_names names a)
      at q g = elim (same_ref q r) [
        | inl s ↦ (o, subst (λ z. look (put h r o) z ≡ Some o) (sym s) (look-put h r x o f e), names-there h (is_there (put h r o)) (there-put h r x o f e) (obj_names names o) i)
        | inr d ↦
            let v = closed.there q (subst (λ z. IsTrue (is_some z)) (look-put_other h r q o d) g) in
            (v.0, look-put_other h r q o d ∙ v.1, names-there h (is_there (put h r o)) (there-put h r x o f e) (obj_names names v.0) v.2)
      ]

  -- the table that is there, with what it names
  table-there : (names : X → List Ref) (h : Heap X) (t : ℕ) → IsClosedHeap names h → IsTrue (is_there h (tab t))
      → (look h (tab t) ≡ Some (TableObj (table_at h t))) × AllIn (is_there h) (flat_map entry_names (table_at h t).entries) × AllIn (is_there h) (value_names (table_at h t).meta)
  table-there names h t closed e =
      let v = closed.there (tab t) e in
      let x = look-table h t v.0 v.1 in
      let i : AllIn (is_there h) (table_names (table_at h t)) = subst (λ z. AllIn (is_there h) (obj_names names z)) (sym x) v.2 in
      let p = all-split (λ r. IsTrue (is_there h r)) (flat_map entry_names (table_at h t).entries) (value_names (table_at h t).meta) i in
      (v.1 ∙ ap Some (sym x), p.0, p.1)

  pub set_keeps_closed : SetKeepsClosed X
  set_keeps_closed names h t key value closed e k v =
      let a = table-there names h t closed e in
      put_keeps_closed names h (tab t) _ (TableObj (with_entry (table_at h t) key value)) closed a.0 (of_table t _)
      (all-join (λ r. IsTrue (is_there h r)) (flat_map entry_names (set (table_at h t).entries key value)) (value_names (table_at h t).meta) (set-names (is_there h) (table_at h t).entries key value a.1 k v) a.2)

  pub set_meta_keeps_closed : SetMetaKeepsClosed X
  set_meta_keeps_closed names h t meta closed e m =
      let a = table-there names h t closed e in
      put_keeps_closed names h (tab t) _ (TableObj (record (table_at h t) { meta = meta })) closed a.0 (of_table t _)
      (all-join (λ r. IsTrue (is_there h r)) (flat_map entry_names (table_at h t).entries) (value_names meta) a.1 m)

  pub freeze_keeps_closed : FreezeKeepsClosed X
  freeze_keeps_closed names h t closed e =
      let a = table-there names h t closed e in
      put_keeps_closed names h (tab t) _ (TableObj (record (table_at h t) { frozen = true })) closed a.0 (of_table t _)
      (all-join (λ r. IsTrue (is_there h r)) (flat_map entry_names (table_at h t).entries) (value_names (table_at h t).meta) a.1 a.2)

  pub set_cell_keeps_closed : SetCellKeepsClosed X
  set_cell_keeps_closed names h c value closed e i = let a = is-some (look h (cel c)) e in put_keeps_closed names h (cel c) a.0 (CellObj value) closed a.1 (of_cell c _) i
