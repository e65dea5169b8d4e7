-- A graph stands in the heap that took in its tables; read-only tables that were taken in are kept.
use Rattle.std.proofs.Common.{◌≡◌, ℕ, zero, suc, ◌+◌, ◌<◌, ◌≤◌, Bool, true, false, List, [], ◌∷◌, ◌++◌, length, Option, Some, None, IsTrue, refl, sym, ◌∙◌, ap, subst, inl, inr, ◌⊎◌, arith, slice_get, map, is_some}
use Rattle.std.proofs.lemmas.Option.{slice_get_past}
use Rattle.std.specs.Option.{option_map}
use Rattle.std.specs.List.{AllByRecursion, flat_map}
use Rattle.lua_heap.specs.Value.{Value, Nil, Truth, Number, Text, Table, Closure, Builtin, Markup}
use Rattle.lua_heap.specs.Table.{Entries}
use Rattle.lua_heap.specs.Heap.{Heap, Ref, tab, cel, clo, mar, Obj, TableObj, look, IsShared}
use Rattle.lua_heap.specs.Related.{Map, Same, nil, truth, number, text, table, none, more, SameEntries, SameObj, tables, Stands}
use Rattle.lua_heap.specs.Reach.{Set, AllIn, value_names, entry_names, obj_names, is_there, shared_at, image, with_new, Frame, IsDeep}
use Rattle.lua_heap.specs.Graph.{Graph, node_table, graph_tables, graph_heap, NoFunctions, IsKey, IsItem, IsDatum, IsGraph, shift, shift_entries, join, joined_root, IsPut, IsKept}
use Rattle.lua_heap.proofs.Places.{part, part-some, part-add, clash, some_back, some-is, is-some, of-some_back, of-none, get-first, get-part, get-map}
use Rattle.lua_heap.proofs.Names.{all-map, all-join}
use Rattle.lua_heap.proofs.Joins.{graph_table, graph_back, look-joined, look-first}
use Rattle.lua_heap.proofs.Sets.{stands-frame, shared-is, shared-back, image-at, image-back, with-false}

abbrev pick : Option Entries → Ref → Option Ref
pick None r = None
pick (Some x) r = Some r

pick-back : (o : Option Entries) (q r : Ref) → pick o q ≡ Some r → (x : Entries) × (o ≡ Some x) × (q ≡ r)
pick-back None q r e = cc
pick-back (Some x) q r e = (x, refl, some_back e)

pick-some : (o : Option Entries) (q : Ref) (x : Entries) → o ≡ Some x → pick o q ≡ Some q
pick-some None q x e = cc
pick-some (Some y) q x e = refl

abbrev or_none : (ℕ → Option Ref) → Option ℕ → Option Ref
or_none f None = None
or_none f (Some j) = f j

abbrev graph_to : Graph → ℕ → Ref → Option Ref
graph_to g k (tab j) = pick (slice_get g j) (tab (k + j))
graph_to g k (cel j) = None
graph_to g k (clo j) = None
graph_to g k (mar j) = None

abbrev graph_from : Graph → ℕ → Ref → Option Ref
graph_from g k (tab i) = or_none (λ j. pick (slice_get g j) (tab j)) (part k i)
graph_from g k (cel i) = None
graph_from g k (clo i) = None
graph_from g k (mar i) = None

abbrev graph_names : Graph → ℕ → Map
graph_names g k = record { to = graph_to g k; from = graph_from g k }

get-there : {A : Type 0} (xs : List A) (j : ℕ) → j < length xs → (x : A) × (slice_get xs j ≡ Some x)
get-there [] j h = absurd (omega (arith, h))
get-there (x ∷ xs) zero h = (x, refl)
get-there (x ∷ xs) (suc j) h = get-there xs j (omega (arith, h))

all-get : {A : Type 0} (P : A → Type 0) (xs : List A) (j : ℕ) (x : A) → AllByRecursion P xs → slice_get xs j ≡ Some x → P x
all-get P [] j x a e = cc
all-get P (y ∷ xs) zero x a e = subst P (some_back e) a.0
all-get P (y ∷ xs) (suc j) x a e = all-get P xs j x a.1 e

module _ (g : Graph) (k : ℕ) where
  key-put : (v : Value) → IsKey v → Same (graph_names g k) v (shift k v)
  key-put (Truth b) h = truth b
  key-put (Number n) h = number n
  key-put (Text b) h = text b
  key-put Nil h = absurd h
  key-put (Table t) h = absurd h
  key-put (Closure c) h = absurd h
  key-put (Builtin c) h = absurd h
  key-put (Markup c) h = absurd h

  item-put : (v : Value) → IsItem (length g) v → Same (graph_names g k) v (shift k v)
  item-put (Table t) h = let x = get-there g t h in table t (k + t) (pick-some (slice_get g t) (tab (k + t)) x.0 x.1)
  item-put (Truth b) h = truth b
  item-put (Number n) h = number n
  item-put (Text b) h = text b
  item-put Nil h = absurd h
  item-put (Closure c) h = absurd h
  item-put (Builtin c) h = absurd h
  item-put (Markup c) h = absurd h

  entries-put : (es : Entries) → AllByRecursion (IsDatum (length g)) es → SameEntries (graph_names g k) es (shift_entries k es)
  entries-put [] h = none
  entries-put (e ∷ es) h = more e _ es _ (record { key = key-put e.0 h.0.0; value = item-put e.1 h.0.1 }) (entries-put es h.1)

module _ {X : Type 0} (frozen : Bool) (g : Graph) (s : Heap X) where
  pub put-stands : AllByRecursion (AllByRecursion (IsDatum (length g))) g → Stands NoFunctions (graph_names g (length s.tables)) (graph_heap frozen g) (join frozen g s)
  put-stands w = record {
    forth = forth_;
    back = back_;
    holds = holds_;
  }
    where
      forth_ : (q r : Ref) → graph_to g (length s.tables) q ≡ Some r → graph_from g (length s.tables) r ≡ Some q
      forth_ (cel j) r e = cc
      forth_ (clo j) r e = cc
      forth_ (mar j) r e = cc
      forth_ (tab j) r e =
          let b = pick-back (slice_get g j) (tab (length s.tables + j)) r e in
          subst (λ z. graph_from g (length s.tables) z ≡ Some (tab j)) b.2
          (ap (or_none (λ j. pick (slice_get g j) (tab j))) (part-add (length s.tables) j) ∙ pick-some (slice_get g j) (tab j) b.0 b.1)

      back_ : (q r : Ref) → graph_from g (length s.tables) r ≡ Some q → graph_to g (length s.tables) q ≡ Some r
      back_ q (cel i) e = cc
      back_ q (clo i) e = cc
      back_ q (mar i) e = cc
      back_ q (tab i) e = go (part (length s.tables) i) refl e
        where
          go : (o : Option ℕ) → part (length s.tables) i ≡ o → or_none (λ j. pick (slice_get g j) (tab j)) o ≡ Some q → graph_to g (length s.tables) q ≡ Some (tab i)
          go None f e = cc
          go (Some j) f e =
              let b = pick-back (slice_get g j) (tab j) q e in
              subst (λ z. graph_to g (length s.tables) z ≡ Some (tab i)) b.2
              (pick-some (slice_get g j) (tab (length s.tables + j)) b.0 b.1 ∙ ap Some (ap tab (sym (part-some (length s.tables) i j f))))

      holds_ : (q r : Ref) → graph_to g (length s.tables) q ≡ Some r
          → (a : Obj ⊥) × (b : Obj X) × (look (graph_heap frozen g) q ≡ Some a) × (look (join frozen g s) r ≡ Some b) × SameObj NoFunctions (graph_names g (length s.tables)) a b
      holds_ (cel j) r e = cc
      holds_ (clo j) r e = cc
      holds_ (mar j) r e = cc
      holds_ (tab j) r e =
          let b = pick-back (slice_get g j) (tab (length s.tables + j)) r e in (
            TableObj (node_table frozen b.0),
            TableObj (node_table frozen (shift_entries (length s.tables) b.0)),
            graph_table frozen g j b.0 b.1,
            subst (λ z. look (join frozen g s) z ≡ Some (TableObj (node_table frozen (shift_entries (length s.tables) b.0)))) b.2 (look-joined frozen g s j b.0 b.1),
            tables _ _ (record { entries = entries-put g (length s.tables) b.0 (all-get (AllByRecursion (IsDatum (length g))) g j b.0 w b.1); meta = nil; frozen = refl }),
          )

  pub put : IsGraph g → IsPut frozen g (joined_root s) s (join frozen g s)
  put w = record {
    names = graph_names g (length s.tables);
    stands = put-stands w.data_;
    complete = complete_;
    root_at = let x = get-there g 0 w.rooted in
        table 0 (length s.tables) (pick-some (slice_get g 0) (tab (length s.tables + 0)) x.0 x.1 ∙ ap (λ (n : ℕ). Some (tab n)) (omega arith));
    made = made_;
    frame = record {
      lives = λ r b e. (b, look-first frozen g s r b e);
      others = λ r b e f. look-first frozen g s r b e;
      shared = λ r b e f. look-first frozen g s r b e;
    };
  }
    where
      complete_ : (q : Ref) → IsTrue (is_there (graph_heap frozen g) q) → IsTrue (is_some (graph_to g (length s.tables) q))
      complete_ (tab j) e =
          let a = is-some (look (graph_heap frozen g) (tab j)) e in
          let b = graph_back frozen g j a.0 a.1 in
          some-is _ _ (pick-some (slice_get g j) (tab (length s.tables + j)) b.0 b.1)
      complete_ (cel j) e = cc
      complete_ (clo j) e = cc
      complete_ (mar j) e = cc

      made_ : (q r : Ref) → graph_to g (length s.tables) q ≡ Some r → look s r ≡ None
      made_ (cel j) r e = cc
      made_ (clo j) r e = cc
      made_ (mar j) r e = cc
      made_ (tab j) r e =
          let b = pick-back (slice_get g j) (tab (length s.tables + j)) r e in
          let h : length s.tables ≤ length s.tables + j = omega arith in
          subst (λ z. look s z ≡ None) b.2 (of-none TableObj _ (slice_get_past s.tables (length s.tables + j) h))

shared-both : {Y : Type 0} (m : Map) (es : Entries) (b : Obj Y) → SameObj NoFunctions m (TableObj (node_table true es)) b → IsShared b
shared-both m es _ (tables a b t) = subst IsTrue t.frozen refl

-- whatever stands for a graph of read-only tables is read-only
pub shared-stands : {Y : Type 0} (m : Map) (g : Graph) (t : Heap Y) → Stands NoFunctions m (graph_heap true g) t → (q r : Ref) → m.to q ≡ Some r → (b : Obj Y) × (look t r ≡ Some b) × IsShared b
shared-stands {Y} m g t st q r e = let v = st.holds q r e in (v.1, v.3, go q v.0 v.1 v.2 v.4)
  where
    go : (q : Ref) (a : Obj ⊥) (b : Obj Y) → look (graph_heap true g) q ≡ Some a → SameObj NoFunctions m a b → IsShared b
    go (tab j) a b e so = let c = graph_back true g j a e in shared-both m c.0 b (subst (λ o. SameObj NoFunctions m o b) c.2 so)
    go (cel j) a b e so = cc
    go (clo j) a b e so = cc
    go (mar j) a b e so = cc

-- tables that were put in read-only are kept tables, apart from each set of what was there before
pub put-kept : {X : Type 0} (S : Set) (g : Graph) (value : Value) (s t : Heap X) → IsPut true g value s t
    → ((r : Ref) → IsTrue (S r) → (b : Obj X) × (look s r ≡ Some b)) → (K : Set) × IsKept K S g value t
put-kept S g value s t p f = (
  image p.names,
  record {
    names = p.names;
    stands = p.stands;
    root_at = p.root_at;
    inside = image-at NoFunctions p.names (graph_heap true g) t p.stands;
    shared = λ r e. let b = image-back NoFunctions p.names (graph_heap true g) t p.stands r e in shared-stands p.names g t p.stands b.0 r b.1;
    apart = λ r e. apart_ r e (S r) refl;
  },
)
  where
    apart_ : (r : Ref) → IsTrue (image p.names r) → (x : Bool) → S r ≡ x → S r ≡ false
    apart_ r e false h = h
    apart_ r e true h =
        let b = image-back NoFunctions p.names (graph_heap true g) t p.stands r e in
        clash (f r h).1 (p.made b.0 r b.1)

-- KEPT TABLES STAY, whoever runs
pub kept-frame : {X : Type 0} (T K S : Set) (g : Graph) (value : Value) (s t : Heap X) → IsKept K S g value s → Frame T s t → IsKept K S g value t
kept-frame T K S g value s t k f = record {
  names = k.names;
  stands = stands-frame NoFunctions k.names (graph_heap true g) s t k.stands (λ q r e.
      let v = k.shared r (k.inside q r e) in f.shared r v.0 v.1 v.2 ∙ sym v.1);
  root_at = k.root_at;
  inside = k.inside;
  shared = λ r e. let v = k.shared r e in (v.0, f.shared r v.0 v.1 v.2, v.2);
  apart = k.apart;
}

-- and what a neighbour makes is apart from them
pub kept-new : {X : Type 0} (T K S : Set) (g : Graph) (value : Value) (s t : Heap X) → IsKept K S g value s → Frame T s t → IsKept K (with_new S s t) g value t
kept-new T K S g value s t k f =
    let l = kept-frame T K S g value s t k f in
    record {
      names = l.names;
      stands = l.stands;
      root_at = l.root_at;
      inside = l.inside;
      shared = l.shared;
      apart = λ r h. let v = k.shared r h in with-false S s t r v.0 v.1 (k.apart r h);
    }

-- A HEAP WHOSE READ-ONLY TABLES NAME ONLY SUCH stays one when it takes in a graph.
place : (k i : ℕ) → (part k i ≡ None) ⊎ ((j : ℕ) × (part k i ≡ Some j) × (i ≡ k + j))
place k i = go (part k i) refl
  where
    go : (o : Option ℕ) → part k i ≡ o → (part k i ≡ None) ⊎ ((j : ℕ) × (part k i ≡ Some j) × (i ≡ k + j))
    go None e = inl e
    go (Some j) e = inr (j, e, part-some k i j e)

-- a table of the heap with a graph is one of the heap, or one of the graph
joined-back : {X : Type 0} (frozen : Bool) (g : Graph) (s : Heap X) (i : ℕ) (a : Obj X) → look (join frozen g s) (tab i) ≡ Some a
    → (look s (tab i) ≡ Some a) ⊎ ((j : ℕ) × (es : Entries) × (slice_get g j ≡ Some es) × (a ≡ TableObj (node_table frozen (shift_entries (length s.tables) es))))
joined-back frozen g s i a e = elim (place (length s.tables) i) [
  | inl f ↦ inl (sym (ap (λ o. option_map TableObj o) (get-first s.tables (graph_tables frozen (map (shift_entries (length s.tables)) g)) i f)) ∙ e)
  | inr f ↦
      let at : slice_get (s.tables ++ graph_tables frozen (map (shift_entries (length s.tables)) g)) i ≡ slice_get (graph_tables frozen (map (shift_entries (length s.tables)) g)) f.0 =
      get-part s.tables (graph_tables frozen (map (shift_entries (length s.tables)) g)) i f.0 f.1 in
      let b = of-some_back TableObj (slice_get (graph_tables frozen (map (shift_entries (length s.tables)) g)) f.0) a (sym (ap (λ o. option_map TableObj o) at) ∙ e) in
      let c = of-some_back (node_table frozen) (slice_get (map (shift_entries (length s.tables)) g) f.0) b.0 (sym (get-map (node_table frozen) (map (shift_entries (length s.tables)) g) f.0) ∙ b.1) in
      let d = of-some_back (shift_entries (length s.tables)) (slice_get g f.0) c.0 (sym (get-map (shift_entries (length s.tables)) g f.0) ∙ c.1) in
      inr (f.0, d.0, d.1, sym b.2 ∙ ap TableObj (sym c.2 ∙ ap (node_table frozen) (sym d.2)))
]

module _ {X : Type 0} (g : Graph) (s : Heap X) where
  new-shared : (t : ℕ) → t < length g → IsTrue (shared_at (join true g s) (tab (length s.tables + t)))
  new-shared t h =
      let x = get-there g t h in
      shared-is (join true g s) (tab (length s.tables + t)) (TableObj (node_table true (shift_entries (length s.tables) x.0))) (look-joined true g s t x.0 x.1) refl

  key-names : (v : Value) → IsKey v → AllIn (shared_at (join true g s)) (value_names (shift (length s.tables) v))
  key-names (Truth b) h = tt
  key-names (Number n) h = tt
  key-names (Text b) h = tt
  key-names Nil h = tt
  key-names (Table t) h = absurd h
  key-names (Closure c) h = absurd h
  key-names (Builtin c) h = tt
  key-names (Markup c) h = absurd h

  item-names : (v : Value) → IsItem (length g) v → AllIn (shared_at (join true g s)) (value_names (shift (length s.tables) v))
  item-names (Table t) h = (new-shared t h, tt)
  item-names (Truth b) h = tt
  item-names (Number n) h = tt
  item-names (Text b) h = tt
  item-names Nil h = tt
  item-names (Closure c) h = absurd h
  item-names (Builtin c) h = tt
  item-names (Markup c) h = absurd h

  entries-names : (es : Entries) → AllByRecursion (IsDatum (length g)) es → AllIn (shared_at (join true g s)) (flat_map entry_names (shift_entries (length s.tables) es))
  entries-names [] h = tt
  entries-names (e ∷ es) h =
      all-join (λ r. IsTrue (shared_at (join true g s) r)) (entry_names (shift (length s.tables) e.0, shift (length s.tables) e.1)) (flat_map entry_names (shift_entries (length s.tables) es))
      (all-join (λ r. IsTrue (shared_at (join true g s) r)) (value_names (shift (length s.tables) e.0)) (value_names (shift (length s.tables) e.1)) (key-names e.0 h.0.0) (item-names e.1 h.0.1))
      (entries-names es h.1)

old-names : {X : Type 0} (names : X → List Ref) (frozen : Bool) (g : Graph) (s : Heap X) → IsDeep names s → (r : Ref) (a : Obj X) → look s r ≡ Some a → IsShared a
    → AllIn (shared_at (join frozen g s)) (obj_names names a)
old-names names frozen g s deep r a e y =
    all-map (λ q. IsTrue (shared_at s q)) (λ q. IsTrue (shared_at (join frozen g s) q))
    (λ q h. let v = shared-back s q h in shared-is (join frozen g s) q v.0 (look-first frozen g s q v.0 v.1) v.2) (obj_names names a) (deep r a e y)

pub put-deep : {X : Type 0} (names : X → List Ref) (frozen : Bool) (g : Graph) (s : Heap X) → IsGraph g → IsDeep names s → IsDeep names (join frozen g s)
put-deep names frozen g s w deep (cel i) a e y = old-names names frozen g s deep (cel i) a e y
put-deep names frozen g s w deep (clo i) a e y = old-names names frozen g s deep (clo i) a e y
put-deep names frozen g s w deep (mar i) a e y = old-names names frozen g s deep (mar i) a e y
put-deep {X} names frozen g s w deep (tab i) a e y = elim (joined-back frozen g s i a e) [
  | inl f ↦ old-names names frozen g s deep (tab i) a f y
  | inr f ↦ go frozen f.0 f.1 f.2 f.3 y
]
  where
    go : (b : Bool) (j : ℕ) (es : Entries) → slice_get g j ≡ Some es → a ≡ TableObj (node_table b (shift_entries (length s.tables) es)) → IsShared a → AllIn (shared_at (join b g s)) (obj_names names a)
    go false j es x z y = let c : IsShared {X = X} (TableObj (node_table false (shift_entries (length s.tables) es))) = subst (λ (o : Obj X). IsShared o) z y in cc
    go true j es x z y =
        subst (λ o. AllIn (shared_at (join true g s)) (obj_names names o)) (sym z)
        (all-join (λ r. IsTrue (shared_at (join true g s) r)) (flat_map entry_names (shift_entries (length s.tables) es)) [] (entries-names g s es (all-get (AllByRecursion (IsDatum (length g))) g j es w.data_ x)) tt)
