-- Loops over the entries of a table and over the tables of the order.
use Rattle.std.proofs.Common.{◌≡◌, ℕ, ◌+◌, true, false, List, [], ◌∷◌, ◌++◌, length, map, drop, refl, sym, ap, ◌∙◌, subst, append_assoc, append-nil, Option, Some, None}
use Rattle.std.specs.Prelude.{Ok, Err, if◌then◌else◌, MatchOption}
use Rattle.std.specs.List.{AllByRecursion, IsDistinct}
use Rattle.std.specs.Str.{bytes_eq}
use Rattle.std.proofs.lemmas.List.{map-append}
use Rattle.lua_walk.specs.LuaTableEntries.{Contents}
use Rattle.lua_walk.specs.LuaHeapValue as heap
use Rattle.lua_walk.specs.LuaHeapValue.{is_nil}
use Rattle.lua_store.specs.LuaHeapTable.{Entries}
use Rattle.lua_walk.specs.LuaHeapGraph.{Graph}
use Rattle.lua_walk.specs.Order.{live}
use Rattle.lua_walk.specs.Data as walk
use Rattle.lua_walk.specs.Data.{Checked, Fault, on_ok, all_ok, entry_of, node_of, with_text_of, with_texts_of_entries, with_texts_of}
use Rattle.lua_store.specs.declared.ids.TextId.{TextId}
use Rattle.lua_store.specs.Seen.{StoreView}
use Rattle.lua_store.specs.Parts.{IsTextOf}
use Rattle.lua_graph.specs.declared.fault.DataFault.{DataFault}
use Rattle.lua_graph.specs.declared.graph.GraphEntry.{GraphEntry}
use Rattle.lua_graph.specs.declared.graph.GraphNode.{GraphNode}
use Rattle.lua_graph.specs.Plain.{plain_item, plain_entry, plain_entries, plain_nodes}
use Rattle.lua_graph.specs.Put.{named}
use Rattle.lua_graph.specs.Taken.{IsFault, AreTextsIn, Grows, EntryIsRead, IsEntryRead, AreRead, NodesAreRead}
use Rattle.lua_graph.proofs.Grown.{fault_to, grows_none, grows_then, entries_more, entries_in, nodes_more, nodes_in}

-- ONE AFTER ANOTHER
abbrev pub rest_ok : {A B : Type 0} → (A → Checked B) → List B → List A → Checked (List B)
rest_ok f done xs = on_ok (all_ok f xs) (λ ys. Ok (done ++ ys))

module _ {A B : Type 0} (f : A → Checked B) where
  rest_start : (xs : List A) → rest_ok f [] xs ≡ all_ok f xs
  rest_start xs = go (all_ok f xs)
    where
      go : (r : Checked (List B)) → on_ok r (λ ys. Ok ([] ++ ys)) ≡ r
      go (Ok ys) = refl
      go (Err e) = refl

  rest_step : (done : List B) (x : A) (xs : List A) (y : B) → f x ≡ Ok y → rest_ok f (done ++ y ∷ []) xs ≡ rest_ok f done (x ∷ xs)
  rest_step done x xs y h =
      go (all_ok f xs) ∙ ap (λ r. on_ok (on_ok r (λ z. on_ok (all_ok f xs) (λ ys. Ok (z ∷ ys)))) (λ zs. Ok (done ++ zs))) (sym h)
    where
      go : (r : Checked (List B)) → on_ok r (λ ys. Ok ((done ++ y ∷ []) ++ ys)) ≡ on_ok (on_ok r (λ ys. Ok (y ∷ ys))) (λ zs. Ok (done ++ zs))
      go (Ok ys) = ap Ok (append_assoc done (y ∷ []) ys)
      go (Err e) = refl

  rest_fault : (done : List B) (x : A) (xs : List A) (e : Fault) → f x ≡ Err e → rest_ok f done (x ∷ xs) ≡ Err e
  rest_fault done x xs e h = ap (λ r. on_ok (on_ok r (λ z. on_ok (all_ok f xs) (λ ys. Ok (z ∷ ys)))) (λ zs. Ok (done ++ zs))) h

live_none : (e : heap.Value × heap.Value) (es : Entries) → is_nil e.1 ≡ true → live (e ∷ es) ≡ live es
live_none e es h = ap (λ b. if b then live es else (e ∷ live es)) h

live_some : (e : heap.Value × heap.Value) (es : Entries) → is_nil e.1 ≡ false → live (e ∷ es) ≡ e ∷ live es
live_some e es h = ap (λ b. if b then live es else (e ∷ live es)) h

texts_push : (ts : List (List ℕ)) (es : Entries) (e : heap.Value × heap.Value) → with_texts_of_entries ts (es ++ e ∷ []) ≡ with_text_of (with_text_of (with_texts_of_entries ts es) e.0) e.1
texts_push ts [] e = refl
texts_push ts (x ∷ es) e = texts_push (with_text_of (with_text_of ts x.0) x.1) es e

-- THE ENTRIES OF A TABLE, of which those before a place were read
pub record EntriesRead (s : StoreView) (order : List ℕ) (before ids : List TextId) (all : Entries) (at : ℕ) (es : List GraphEntry) : Type 0 where
  pub rest : rest_ok (entry_of order) (plain_entries (named s.texts ids) es) (live (drop at all)) ≡ all_ok (entry_of order) (live all)
  pub placed : AllByRecursion (AreTextsIn (length ids)) es
  pub grows : Grows s before ids
  pub texts : IsDistinct bytes_eq s.texts → AllByRecursion (IsTextOf s) before → named s.texts ids ≡ with_texts_of_entries (named s.texts before) (plain_entries (named s.texts ids) es)

push_in : (n : ℕ) (es : List GraphEntry) (d : GraphEntry) → AllByRecursion (AreTextsIn n) es → AreTextsIn n d → AllByRecursion (AreTextsIn n) (es ++ d ∷ [])
push_in n [] d a h = (h, tt)
push_in n (e ∷ es) d a h = (a.0, push_in n es d a.1 h)

module _ (s : StoreView) (order : List ℕ) (before : List TextId) (all : Entries) where
  pub entries_start : EntriesRead s order before before all 0 []
  entries_start = record { rest = rest_start (entry_of order) (live all); placed = tt; grows = grows_none s before; texts = λ d a. refl }

  entries_none : (ids after : List TextId) (at : ℕ) (es fs : List GraphEntry) (e : heap.Value × heap.Value) → drop at all ≡ e ∷ drop (at + 1) all → is_nil e.1 ≡ true → after ≡ ids → fs ≡ es
      → EntriesRead s order before ids all at es → EntriesRead s order before after all (at + 1) fs
  entries_none ids after at es fs e there nil same_ids same_es r =
      subst (λ i. EntriesRead s order before i all (at + 1) fs) (sym same_ids) (subst (λ l. EntriesRead s order before ids all (at + 1) l) (sym same_es) (record {
        rest = ap (rest_ok (entry_of order) (plain_entries (named s.texts ids) es)) (sym (ap live there ∙ live_none e (drop (at + 1) all) nil)) ∙ r.rest;
        placed = r.placed;
        grows = r.grows;
        texts = r.texts;
      }))

  entries_some : (ids after : List TextId) (at : ℕ) (es fs : List GraphEntry) (e : heap.Value × heap.Value) (d : GraphEntry) → drop at all ≡ e ∷ drop (at + 1) all → EntryIsRead s order ids after e d → fs ≡ es ++ d ∷ []
      → EntriesRead s order before ids all at es → EntriesRead s order before after all (at + 1) fs
  entries_some ids after at es fs e d there q is r =
      let earlier = entries_more s ids after q.grows es r.placed in
      let pushed : plain_entries (named s.texts after) (es ++ d ∷ []) ≡ plain_entries (named s.texts ids) es ++ plain_entry (named s.texts after) d ∷ [] =
      map-append (plain_entry (named s.texts after)) es (d ∷ []) ∙ ap (λ l. l ++ plain_entry (named s.texts after) d ∷ []) earlier in
      subst (λ l. EntriesRead s order before after all (at + 1) l) (sym is) (record {
        rest = ap (λ l. rest_ok (entry_of order) l (live (drop (at + 1) all))) pushed
            ∙ rest_step (entry_of order) (plain_entries (named s.texts ids) es) e (live (drop (at + 1) all)) (plain_entry (named s.texts after) d) q.entry
            ∙ ap (rest_ok (entry_of order) (plain_entries (named s.texts ids) es)) (sym (ap live there ∙ live_some e (drop (at + 1) all) q.live)) ∙ r.rest;
        placed = push_in (length after) es d (entries_in s ids after q.grows es r.placed) q.placed;
        grows = grows_then s before ids after r.grows q.grows;
        texts = λ once of.
            q.texts once (r.grows.of of)
            ∙ ap (λ t. with_text_of (with_text_of t (plain_item (named s.texts after) d.key)) (plain_item (named s.texts after) d.value)) (r.texts once of)
            ∙ sym (texts_push (named s.texts before) (plain_entries (named s.texts ids) es) (plain_entry (named s.texts after) d))
            ∙ ap (with_texts_of_entries (named s.texts before)) (sym pushed);
      })

  pub entries_on : (ids after : List TextId) (at : ℕ) (es fs : List GraphEntry) (e : heap.Value × heap.Value) (o : Option GraphEntry) → drop at all ≡ e ∷ drop (at + 1) all → IsEntryRead s order ids after e o
      → MatchOption o (fs ≡ es) (λ d. fs ≡ es ++ d ∷ []) → EntriesRead s order before ids all at es → EntriesRead s order before after all (at + 1) fs
  entries_on ids after at es fs e None there q is r = entries_none ids after at es fs e there q.0 q.1 is r
  entries_on ids after at es fs e (Some d) there q is r = entries_some ids after at es fs e d there q is r

  pub entries_end : (ids : List TextId) (at : ℕ) (es : List GraphEntry) (t : Contents heap.Value) → t.entries ≡ all → is_nil t.meta ≡ true → drop at all ≡ [] → EntriesRead s order before ids all at es
      → AreRead s before ids (node_of order t) es
  entries_end ids at es t same meta over r = record {
    entries = ap (λ b. if b then all_ok (entry_of order) (live t.entries) else Err walk.HasMetatable) meta ∙ ap (λ l. all_ok (entry_of order) (live l)) same
        ∙ sym r.rest ∙ ap (λ l. rest_ok (entry_of order) (plain_entries (named s.texts ids) es) (live l)) over ∙ ap Ok (append-nil (plain_entries (named s.texts ids) es));
    placed = r.placed;
    grows = r.grows;
    texts = r.texts;
  }

  pub entries_fault : (ids : List TextId) (at : ℕ) (es : List GraphEntry) (e : heap.Value × heap.Value) (t : Contents heap.Value) (x : DataFault) → t.entries ≡ all → is_nil t.meta ≡ true
      → drop at all ≡ e ∷ drop (at + 1) all → is_nil e.1 ≡ false → IsFault (entry_of order e) x → EntriesRead s order before ids all at es → IsFault (node_of order t) x
  entries_fault ids at es e t x same meta there live_ h r = fault_to (entry_of order e) (node_of order t) x
      (λ y is. ap (λ b. if b then all_ok (entry_of order) (live t.entries) else Err walk.HasMetatable) meta ∙ ap (λ l. all_ok (entry_of order) (live l)) same
      ∙ sym r.rest ∙ ap (rest_ok (entry_of order) (plain_entries (named s.texts ids) es)) (ap live there ∙ live_some e (drop (at + 1) all) live_)
      ∙ rest_fault (entry_of order) (plain_entries (named s.texts ids) es) e (live (drop (at + 1) all)) y is) h

-- THE TABLES OF THE ORDER
nodes_push : (ts : List (List ℕ)) (g : Graph) (es : Entries) → with_texts_of ts (g ++ es ∷ []) ≡ with_texts_of_entries (with_texts_of ts g) es
nodes_push ts [] es = refl
nodes_push ts (x ∷ g) es = nodes_push (with_texts_of_entries ts x) g es

abbrev Placed : ℕ → GraphNode → Type 0
Placed n node = AllByRecursion (AreTextsIn n) node.entries

node_in : (n : ℕ) (ns : List GraphNode) (node : GraphNode) → AllByRecursion (Placed n) ns → Placed n node → AllByRecursion (Placed n) (ns ++ node ∷ [])
node_in n [] node a h = (h, tt)
node_in n (x ∷ ns) node a h = (a.0, node_in n ns node a.1 h)

module _ (s : StoreView) (f : ℕ → Checked Entries) (order : List ℕ) (before : List TextId) where
  pub record NodesRead (ids : List TextId) (at : ℕ) (ns : List GraphNode) : Type 0 where
    pub rest : rest_ok f (plain_nodes (named s.texts ids) ns) (drop at order) ≡ all_ok f order
    pub placed : AllByRecursion (Placed (length ids)) ns
    pub grows : Grows s before ids
    pub texts : IsDistinct bytes_eq s.texts → AllByRecursion (IsTextOf s) before → named s.texts ids ≡ with_texts_of (named s.texts before) (plain_nodes (named s.texts ids) ns)

  pub nodes_start : NodesRead before 0 []
  nodes_start = record { rest = rest_start f order; placed = tt; grows = grows_none s before; texts = λ d a. refl }

  pub nodes_on : (ids after : List TextId) (at n : ℕ) (ns ms : List GraphNode) (es : List GraphEntry) → drop at order ≡ n ∷ drop (at + 1) order → AreRead s ids after (f n) es
      → ms ≡ ns ++ record { entries = es } ∷ [] → NodesRead ids at ns → NodesRead after (at + 1) ms
  nodes_on ids after at n ns ms es there q is r =
      let node : GraphNode = record { entries = es } in
      let pushed : plain_nodes (named s.texts after) (ns ++ node ∷ []) ≡ plain_nodes (named s.texts ids) ns ++ plain_entries (named s.texts after) es ∷ [] =
      map-append (λ (m : GraphNode). plain_entries (named s.texts after) m.entries) ns (node ∷ []) ∙ ap (λ l. l ++ plain_entries (named s.texts after) es ∷ []) (nodes_more s ids after q.grows ns r.placed) in
      subst (λ l. NodesRead after (at + 1) l) (sym is) (record {
        rest = ap (λ l. rest_ok f l (drop (at + 1) order)) pushed
            ∙ rest_step f (plain_nodes (named s.texts ids) ns) n (drop (at + 1) order) (plain_entries (named s.texts after) es) q.entries
            ∙ ap (rest_ok f (plain_nodes (named s.texts ids) ns)) (sym there) ∙ r.rest;
        placed = node_in (length after) ns node (nodes_in s ids after q.grows ns r.placed) q.placed;
        grows = grows_then s before ids after r.grows q.grows;
        texts = λ once of.
            q.texts once (r.grows.of of)
            ∙ ap (λ t. with_texts_of_entries t (plain_entries (named s.texts after) es)) (r.texts once of)
            ∙ sym (nodes_push (named s.texts before) (plain_nodes (named s.texts ids) ns) (plain_entries (named s.texts after) es))
            ∙ ap (with_texts_of (named s.texts before)) (sym pushed);
      })

  pub nodes_end : (ids : List TextId) (at : ℕ) (ns : List GraphNode) → drop at order ≡ [] → NodesRead ids at ns → NodesAreRead s before ids (all_ok f order) ns
  nodes_end ids at ns over r = record {
    nodes = sym r.rest ∙ ap (rest_ok f (plain_nodes (named s.texts ids) ns)) over ∙ ap Ok (append-nil (plain_nodes (named s.texts ids) ns));
    placed = r.placed;
    grows = r.grows;
    texts = r.texts;
  }

  pub nodes_fault : (ids : List TextId) (at n : ℕ) (ns : List GraphNode) (x : DataFault) → drop at order ≡ n ∷ drop (at + 1) order → IsFault (f n) x → NodesRead ids at ns → IsFault (all_ok f order) x
  nodes_fault ids at n ns x there h r = fault_to (f n) (all_ok f order) x
      (λ y is. sym r.rest ∙ ap (rest_ok f (plain_nodes (named s.texts ids) ns)) there ∙ rest_fault f (plain_nodes (named s.texts ids) ns) n (drop (at + 1) order) y is) h
