-- What was read from a store stays as more texts are met behind those that were.
use Rattle.std.proofs.Common.{◌≡◌, ℕ, ◌<◌, ◌+◌, Bool, true, false, List, [], ◌∷◌, ◌++◌, length, map, refl, sym, ap, ◌∙◌, subst, arith, append_assoc, append-nil, slice_get, slice_index_or, Some, cond, ◌||◌}
use Rattle.std.specs.Prelude.{Ok, Err}
use Rattle.std.specs.List.{AllByRecursion, IsDistinct, list_any}
use Rattle.std.specs.Option.{option_map}
use Rattle.std.specs.Str.{bytes_eq}
use Rattle.std.proofs.Math.ListN.{get_or-append}
use Rattle.std.proofs.lemmas.Option.{slice_get-map, get_or_from_slice_get, slice_get_within}
use Rattle.std.proofs.lemmas.List.{length-append, length-map, map-append}
use Rattle.std.proofs.lemmas.Slice.Eq.{bytes_eq-Decides}
use Rattle.std.proofs.lemmas.Bool.Decides.{Decides-eqb}
use Rattle.std.proofs.lemmas.Bool.{eqb-true}
use Rattle.lua_walk.specs.LuaHeapValue as heap
use Rattle.lua_walk.specs.LuaHeapValue.{is_nil}
use Rattle.lua_walk.proofs.LuaHeapValues.{both_ways}
use Rattle.lua_walk.specs.Data as walk
use Rattle.lua_walk.specs.Data.{Checked, Fault, on_ok, with_text, with_text_of}
use Rattle.lua_store.specs.declared.ids.TextId.{TextId}
use Rattle.lua_store.specs.contracts.ids.TextIdPartialEq.TheImpl.{ghosts as text_id}
use Rattle.lua_store.specs.Seen.{StoreView, text_at}
use Rattle.lua_store.specs.Parts.{IsTextOf}
use Rattle.lua_store.proofs.Equal.{one_place}
use Rattle.lua_store.proofs.Lists.{all-push}
use Rattle.lua_graph.specs.declared.fault.DataFault.{DataFault}
use Rattle.lua_graph.specs.declared.fault.DataFault.TheVariants.{NotATable, HasFunction, HasMetatable, BadKey, NoMemory}
use Rattle.lua_graph.specs.declared.graph.GraphItem.{GraphItem}
use Rattle.lua_graph.specs.declared.graph.GraphItem.TheVariants as item
use Rattle.lua_graph.specs.declared.graph.GraphEntry.{GraphEntry}
use Rattle.lua_graph.specs.declared.graph.GraphNode.{GraphNode}
use Rattle.lua_graph.specs.Plain.{plain_item, plain_entry, plain_entries, plain_nodes}
use Rattle.lua_graph.specs.Put.{named}
use Rattle.lua_graph.specs.Taken.{IsFault, with_id, IsTextIn, AreTextsIn, Grows, IsRead, EntryIsRead}

-- A fault is handed on where its cause is.
pub fault_to : {A B : Type 0} (r : Checked A) (q : Checked B) (e : DataFault) → ((x : Fault) → r ≡ Err x → q ≡ Err x) → IsFault r e → IsFault q e
fault_to r q NotATable f h = f walk.NotATable h
fault_to r q HasFunction f h = f walk.HasFunction h
fault_to r q HasMetatable f h = f walk.HasMetatable h
fault_to r q BadKey f h = f walk.BadKey h
fault_to r q NoMemory f h = tt

-- MORE TEXTS
pub grows_none : (s : StoreView) (ids : List TextId) → Grows s ids ids
grows_none s ids = record { more = []; is = sym (append-nil ids); of = λ a. a }

pub grows_then : (s : StoreView) (a b c : List TextId) → Grows s a b → Grows s b c → Grows s a c
grows_then s a b c g h = record {
  more = g.more ++ h.more;
  is = h.is ∙ ap (λ l. l ++ h.more) g.is ∙ append_assoc a g.more h.more;
  of = λ all. h.of (g.of all);
}

grows_id_ : (s : StoreView) (ids : List TextId) (id : TextId) (b : Bool) → IsTextOf s id → Grows s ids (cond b ids (ids ++ id ∷ []))
grows_id_ s ids id true of = grows_none s ids
grows_id_ s ids id false of = record { more = id ∷ []; is = refl; of = λ all. all-push (IsTextOf s) ids id all of }

grows_id : (s : StoreView) (ids : List TextId) (id : TextId) → IsTextOf s id → Grows s ids (with_id ids id)
grows_id s ids id of = grows_id_ s ids id (list_any (text_id.eq id) ids) of

longer : (s : StoreView) (a b : List TextId) → Grows s a b → (n : ℕ) → n < length a → n < length b
longer s a b g n h = let e = length-append a g.more in let f = ap length g.is in omega (arith, e, f, h)

name_more : (texts : List (List ℕ)) (ids more : List TextId) (n : ℕ) → n < length ids → slice_index_or (named texts (ids ++ more)) n [] ≡ slice_index_or (named texts ids) n []
name_more texts ids more n h =
    let e = length-map ids (λ (i : TextId). text_at texts i.at) in
    ap (λ l. slice_index_or l n []) (map-append (λ (i : TextId). text_at texts i.at) ids more) ∙ get_or-append (named texts ids) (named texts more) [] n (omega (arith, e, h))

module _ (s : StoreView) (a b : List TextId) (g : Grows s a b) where
  item_more : (i : GraphItem) → IsTextIn (length a) i → plain_item (named s.texts b) i ≡ plain_item (named s.texts a) i
  item_more (item.Bool b) h = refl
  item_more (item.Number n) h = refl
  item_more (item.Node n) h = refl
  item_more (item.Text n) h = ap (λ l. heap.Text (slice_index_or (named s.texts l) n [])) g.is ∙ ap heap.Text (name_more s.texts a g.more n h)

  item_in : (i : GraphItem) → IsTextIn (length a) i → IsTextIn (length b) i
  item_in (item.Bool b) h = tt
  item_in (item.Number n) h = tt
  item_in (item.Node n) h = tt
  item_in (item.Text n) h = longer s a b g n h

  pub entries_more : (es : List GraphEntry) → AllByRecursion (AreTextsIn (length a)) es → plain_entries (named s.texts b) es ≡ plain_entries (named s.texts a) es
  entries_more [] h = refl
  entries_more (e ∷ es) h =
      ap (λ (k : heap.Value). let x : heap.Value × heap.Value = (k, plain_item (named s.texts b) e.value) in x ∷ plain_entries (named s.texts b) es) (item_more e.key h.0.0)
      ∙ ap (λ (v : heap.Value). let x : heap.Value × heap.Value = (plain_item (named s.texts a) e.key, v) in x ∷ plain_entries (named s.texts b) es) (item_more e.value h.0.1)
      ∙ ap (λ l. plain_entry (named s.texts a) e ∷ l) (entries_more es h.1)

  pub entries_in : (es : List GraphEntry) → AllByRecursion (AreTextsIn (length a)) es → AllByRecursion (AreTextsIn (length b)) es
  entries_in [] h = tt
  entries_in (e ∷ es) h = ((item_in e.key h.0.0, item_in e.value h.0.1), entries_in es h.1)

  pub nodes_more : (ns : List GraphNode) → AllByRecursion (λ (n : GraphNode). AllByRecursion (AreTextsIn (length a)) n.entries) ns → plain_nodes (named s.texts b) ns ≡ plain_nodes (named s.texts a) ns
  nodes_more [] h = refl
  nodes_more (n ∷ ns) h = ap (λ es. es ∷ plain_nodes (named s.texts b) ns) (entries_more n.entries h.0) ∙ ap (λ l. plain_entries (named s.texts a) n.entries ∷ l) (nodes_more ns h.1)

  pub nodes_in : (ns : List GraphNode) → AllByRecursion (λ (n : GraphNode). AllByRecursion (AreTextsIn (length a)) n.entries) ns → AllByRecursion (λ (n : GraphNode). AllByRecursion (AreTextsIn (length b)) n.entries) ns
  nodes_in [] h = tt
  nodes_in (n ∷ ns) h = (entries_in n.entries h.0, nodes_in ns h.1)

-- ITEMS
module _ (s : StoreView) (once : IsDistinct bytes_eq s.texts) where
  one_id : (a b : TextId) → IsTextOf s a → IsTextOf s b → bytes_eq (text_at s.texts a.at) (text_at s.texts b.at) ≡ text_id.eq a b
  one_id a b h k = both_ways (bytes_eq (text_at s.texts a.at) (text_at s.texts b.at)) (text_id.eq a b)
      (λ e. (Decides-eqb a.at b.at).1 (one_place s.texts a.at b.at once h k ((bytes_eq-Decides (text_at s.texts a.at) (text_at s.texts b.at)).0 e)))
      (λ e. (bytes_eq-Decides (text_at s.texts a.at) (text_at s.texts b.at)).1 (ap (text_at s.texts) (eqb-true a.at b.at e)))

  any_id : (id : TextId) (ids : List TextId) → IsTextOf s id → AllByRecursion (IsTextOf s) ids → list_any (bytes_eq (text_at s.texts id.at)) (named s.texts ids) ≡ list_any (text_id.eq id) ids
  any_id id [] h a = refl
  any_id id (x ∷ ids) h a =
      ap (λ b. b || list_any (bytes_eq (text_at s.texts id.at)) (named s.texts ids)) (one_id id x h a.0) ∙ ap (λ b. text_id.eq id x || b) (any_id id ids h a.1)

  text_new : (id : TextId) (ids : List TextId) → IsTextOf s id → AllByRecursion (IsTextOf s) ids → named s.texts (with_id ids id) ≡ with_text (named s.texts ids) (text_at s.texts id.at)
  text_new id ids h a =
      by (list_any (text_id.eq id) ids) ∙ ap (λ b. cond b (named s.texts ids) (named s.texts ids ++ text_at s.texts id.at ∷ [])) (sym (any_id id ids h a))
    where
      by : (b : Bool) → named s.texts (cond b ids (ids ++ id ∷ [])) ≡ cond b (named s.texts ids) (named s.texts ids ++ text_at s.texts id.at ∷ [])
      by true = refl
      by false = map-append (λ (i : TextId). text_at s.texts i.at) ids (id ∷ [])

name_at : (texts : List (List ℕ)) (ids : List TextId) (n : ℕ) (id : TextId) → slice_get ids n ≡ Some id → slice_index_or (named texts ids) n [] ≡ text_at texts id.at
name_at texts ids n id h = get_or_from_slice_get (named texts ids) n (text_at texts id.at) [] (slice_get-map (λ (i : TextId). text_at texts i.at) ids n ∙ ap (option_map (λ (i : TextId). text_at texts i.at)) h)

pub read_text : (s : StoreView) (before after : List TextId) (id : TextId) (n : ℕ) (r : Checked heap.Value) → after ≡ with_id before id → slice_get after n ≡ Some id → IsTextOf s id
    → r ≡ Ok (heap.Text (text_at s.texts id.at)) → IsRead s before after r (item.Text n)
read_text s before after id n r is there of e = record {
  value = e ∙ ap (λ t. Ok (heap.Text t)) (sym (name_at s.texts after n id there));
  placed = slice_get_within after n id there;
  grows = subst (Grows s before) (sym is) (grows_id s before id of);
  texts = λ d a. ap (named s.texts) is ∙ text_new s d id before of a ∙ ap (with_text (named s.texts before)) (sym (name_at s.texts after n id there));
}

-- ENTRIES
pub entry_read : (s : StoreView) (order : List ℕ) (before mid after : List TextId) (key value : heap.Value) (k v : GraphItem) → is_nil value ≡ false
    → IsRead s before mid (walk.key_of key) k → IsRead s mid after (walk.item_of order value) v → EntryIsRead s order before after (key, value) (record { key = k; value = v })
entry_read s order before mid after key value k v live a b = record {
  live = live;
  entry = ap (λ r. on_ok r (λ x. on_ok (walk.item_of order value) (λ y. Ok (x, y)))) a.value
      ∙ ap (λ r. on_ok r (λ (y : heap.Value). let p : heap.Value × heap.Value = (plain_item (named s.texts mid) k, y) in Ok p)) b.value
      ∙ ap (λ (x : heap.Value). let p : heap.Value × heap.Value = (x, plain_item (named s.texts after) v) in Ok p) (sym (item_more s mid after b.grows k a.placed));
  placed = (item_in s mid after b.grows k a.placed, b.placed);
  grows = grows_then s before mid after a.grows b.grows;
  texts = λ d all.
      b.texts d (a.grows.of all)
      ∙ ap (λ t. with_text_of t (plain_item (named s.texts after) v)) (a.texts d all ∙ ap (with_text_of (named s.texts before)) (sym (item_more s mid after b.grows k a.placed)));
}

pub key_fault : (order : List ℕ) (key value : heap.Value) (e : DataFault) → IsFault (walk.key_of key) e → IsFault (walk.entry_of order (key, value)) e
key_fault order key value e h = fault_to (walk.key_of key) (walk.entry_of order (key, value)) e (λ x is. ap (λ r. on_ok r (λ k. on_ok (walk.item_of order value) (λ v. Ok (k, v)))) is) h

pub value_fault : (order : List ℕ) (key value k : heap.Value) (e : DataFault) → walk.key_of key ≡ Ok k → IsFault (walk.item_of order value) e → IsFault (walk.entry_of order (key, value)) e
value_fault order key value k e a h = fault_to (walk.item_of order value) (walk.entry_of order (key, value)) e
    (λ x is. ap (λ r. on_ok r (λ y. on_ok (walk.item_of order value) (λ v. Ok (y, v)))) a ∙ ap (λ r. on_ok r (λ (v : heap.Value). let p : heap.Value × heap.Value = (k, v) in Ok p)) is) h
