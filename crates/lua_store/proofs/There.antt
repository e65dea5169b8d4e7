-- Each object that an object of a store names is there.
use Rattle.std.proofs.Common.{◌≡◌, ℕ, zero, suc, ◌<◌, List, [], ◌∷◌, ◌++◌, length, map, refl, arith, Option, Some, None, is_some, IsTrue, slice_get}
use Rattle.std.specs.List.{AllByRecursion, flat_map}
use Rattle.std.specs.Option.{option_map}
use Rattle.lua_table.specs.Entries.{Contents}
use Rattle.lua_heap.specs.Heap.{Ref, tab, cel, clo, mar, Obj, TableObj, CellObj, ClosureObj, MarkupObj, look}
use Rattle.lua_heap.specs.Reach.{Set, AllIn, is_there, value_names, entry_names, table_names, closed_names, child_names, parent_names, node_names, obj_names}
use Rattle.lua_store.specs.declared.ids.CellId.{CellId}
use Rattle.lua_store.specs.declared.ids.MarkupId.{MarkupId}
use Rattle.lua_store.specs.declared.value.Value.{Value}
use Rattle.lua_store.specs.declared.value.Value.TheVariants.{Nil, Bool as Truth, Number, Text, Table, Closure as ClosureValue, Builtin, Markup}
use Rattle.lua_store.specs.declared.closure.Closure.{Closure}
use Rattle.lua_store.specs.declared.markup.MarkupChild.{MarkupChild}
use Rattle.lua_store.specs.declared.markup.MarkupChild.TheVariants.{Text as ChildText, Node as ChildNode}
use Rattle.lua_store.specs.declared.markup.MarkupNode.{MarkupNode}
use Rattle.lua_store.specs.Seen.{StoreView, seen, seen_entry, seen_table, seen_closure, closed_of, places_of, seen_child, seen_node}
use Rattle.lua_store.specs.Parts.{Parts, view_of, IsOf, IsCellOf, IsEntryOf, IsContentsOf, IsContentOf, IsChildOf, IsParentOf, IsNodeOf, IsSound}
use Rattle.lua_heap.specs.Proc.{Proc, proc_names}
use Rattle.lua_store.specs.declared.closure.ClosureKind.{ClosureKind}
use Rattle.lua_store.specs.declared.closure.ClosureKind.TheVariants.{Function, Iterator}
use Rattle.lua_store.specs.Laws.{NamesWhatIsThere}
use Rattle.lua_store.proofs.Lists.{all-get}

both : (S : Set) (xs ys : List Ref) → AllIn S xs → AllIn S ys → AllIn S (xs ++ ys)
both S [] ys a b = b
both S (x ∷ xs) ys a b = (a.0, both S xs ys a.1 b)

there : {B O : Type 0} (g : B → O) (xs : List B) (n : ℕ) → n < length xs → IsTrue (is_some (option_map g (slice_get xs n)))
there g [] n h = absurd (omega (arith, h))
there g (x ∷ xs) zero h = refl
there g (x ∷ xs) (suc n) h = there g xs n (omega (arith, h))

-- an object that is there is what is seen of something that is kept
kept : {A B O : Type 0} (f : A → B) (g : B → O) (xs : List A) (n : ℕ) → IsTrue (is_some (option_map g (slice_get (map f xs) n)))
    → (x : A) × (slice_get xs n ≡ Some x) × (option_map g (slice_get (map f xs) n) ≡ Some (g (f x)))
kept f g [] n h = cc
kept f g (x ∷ xs) zero h = (x, refl, refl)
kept f g (x ∷ xs) (suc n) h = kept f g xs n h

module _ (s : StoreView) where
  value-there : (v : Value) → IsOf s v → AllIn (is_there s.heap) (value_names (seen s.texts v))
  value-there Nil h = tt
  value-there (Truth b) h = tt
  value-there (Number n) h = tt
  value-there (Text id) h = tt
  value-there (Table id) h = (there TableObj s.heap.tables id.at h, tt)
  value-there (ClosureValue id) h = (there ClosureObj s.heap.closures id.at h, tt)
  value-there (Builtin which) h = tt
  value-there (Markup id) h = (there MarkupObj s.heap.markup id.at h, tt)

  entries-there : (es : List (Value × Value)) → AllByRecursion (IsEntryOf s) es → AllIn (is_there s.heap) (flat_map entry_names (map (seen_entry s.texts) es))
  entries-there [] h = tt
  entries-there (e ∷ es) h =
      both (is_there s.heap) (entry_names (seen_entry s.texts e)) (flat_map entry_names (map (seen_entry s.texts) es))
      (both (is_there s.heap) (value_names (seen s.texts e.0)) (value_names (seen s.texts e.1)) (value-there e.0 h.0.0) (value-there e.1 h.0.1))
      (entries-there es h.1)

  table-there : (t : Contents Value) → IsContentsOf s t → AllIn (is_there s.heap) (table_names (seen_table s.texts t))
  table-there t h =
      both (is_there s.heap) (flat_map entry_names (map (seen_entry s.texts) t.entries)) (value_names (seen s.texts t.meta)) (entries-there t.entries h.entries) (value-there t.meta h.meta)

  cells-there : (cells : List CellId) → AllByRecursion (IsCellOf s) cells → AllIn (is_there s.heap) (map cel (places_of cells))
  cells-there [] h = tt
  cells-there (c ∷ cells) h = (there CellObj s.heap.cells c.at h.0, cells-there cells h.1)

  closure-there : (c : Closure) → IsContentOf s c → AllIn (is_there s.heap) (closed_names proc_names (seen_closure s.texts c))
  closure-there c h = by c.kind
    where
      by : (kind : ClosureKind) → AllIn (is_there s.heap) (closed_names proc_names (closed_of s.texts kind (places_of c.cells)))
      by (Function p) = cells-there c.cells h.cells
      by (Iterator step) = cells-there c.cells h.cells

  children-there : (cs : List MarkupChild) → AllByRecursion (IsChildOf s) cs → AllIn (is_there s.heap) (flat_map child_names (map (seen_child s.texts) cs))
  children-there [] h = tt
  children-there (ChildText id ∷ cs) h = children-there cs h.1
  children-there (ChildNode id ∷ cs) h = (there MarkupObj s.heap.markup id.at h.0, children-there cs h.1)

  parent-there : (o : Option MarkupId) → IsParentOf s o → AllIn (is_there s.heap) (parent_names (option_map (λ id. id.at) o))
  parent-there None h = tt
  parent-there (Some id) h = (there MarkupObj s.heap.markup id.at h, tt)

  node-there : (n : MarkupNode) → IsNodeOf s n → AllIn (is_there s.heap) (node_names (seen_node s.texts n))
  node-there n h =
      both (is_there s.heap) (parent_names (option_map (λ id. id.at) n.parent)) (flat_map child_names (map (seen_child s.texts) n.children)) (parent-there n.parent h.parent) (children-there n.children h.children)

pub names-there : (p : Parts) → IsSound p → NamesWhatIsThere (view_of p)
names-there p w = record { there = by }
  where
    by : (r : Ref) → IsTrue (is_there (view_of p).heap r) → (a : Obj Proc) × (look (view_of p).heap r ≡ Some a) × AllIn (is_there (view_of p).heap) (obj_names proc_names a)
    by (tab n) h =
        let k = kept (seen_table p.texts) TableObj p.tables n h in
        (TableObj (seen_table p.texts k.0), k.2, table-there (view_of p) k.0 (all-get (IsContentsOf (view_of p)) p.tables n k.0 w.own.tables k.1))
    by (cel n) h =
        let k = kept (seen p.texts) CellObj p.cells n h in
        (CellObj (seen p.texts k.0), k.2, value-there (view_of p) k.0 (all-get (IsOf (view_of p)) p.cells n k.0 w.own.cells k.1))
    by (clo n) h =
        let k = kept (seen_closure p.texts) ClosureObj p.closures n h in
        (ClosureObj (seen_closure p.texts k.0), k.2, closure-there (view_of p) k.0 (all-get (IsContentOf (view_of p)) p.closures n k.0 w.own.closures k.1))
    by (mar n) h =
        let k = kept (seen_node p.texts) MarkupObj p.markup n h in
        (MarkupObj (seen_node p.texts k.0), k.2, node-there (view_of p) k.0 (all-get (IsNodeOf (view_of p)) p.markup n k.0 w.own.markup k.1))
