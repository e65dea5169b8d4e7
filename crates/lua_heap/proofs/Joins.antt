-- A graph joins a heap: its tables stand behind those of the heap, and in the store where they stood.
use Rattle.std.proofs.Common.{◌≡◌, ℕ, ◌+◌, ◌<◌, Bool, true, false, length, Option, Some, None, IsTrue, refl, sym, ◌∙◌, ap, subst, inl, inr, ◌⊎◌, arith, slice_get, map}
use Rattle.std.proofs.lemmas.Option.{slice_get_within}
use Rattle.std.specs.Option.{option_map}
use Rattle.lua_heap.specs.Value.{Value, Table}
use Rattle.lua_heap.specs.Table.{Entries}
use Rattle.lua_heap.specs.Heap.{Heap, Ref, tab, cel, clo, mar, Obj, TableObj, look}
use Rattle.lua_heap.specs.Related.{Map, GrowsWith, Same, nil, truth, number, text, table, closure, builtin, markup, none, more, SameEntries, SameObj, tables, Stands}
use Rattle.lua_heap.specs.Reach.{Set}
use Rattle.lua_heap.specs.Graph.{Graph, node_table, graph_tables, graph_heap, NoFunctions, shift, shift_entries, join, IsKept, IsJoined}
use Rattle.lua_heap.proofs.Places.{part, part-some, part-add, part-below, get-part, get-first, get-map, clash, of-some_back}
use Rattle.lua_heap.proofs.Carried.{obj-grows}
use Rattle.lua_heap.proofs.Sets.{or-left, or-right}

-- the tables of a graph in the heap that it joins
pub joined_tables : (frozen : Bool) (g : Graph) (k j : ℕ) (es : Entries) → slice_get g j ≡ Some es
    → slice_get (graph_tables frozen (map (shift_entries k) g)) j ≡ Some (node_table frozen (shift_entries k es))
joined_tables frozen g k j es e =
    get-map (node_table frozen) (map (shift_entries k) g) j ∙ ap (option_map (node_table frozen)) (get-map (shift_entries k) g j ∙ ap (option_map (shift_entries k)) e)

pub graph_table : (frozen : Bool) (g : Graph) (j : ℕ) (es : Entries) → slice_get g j ≡ Some es → look (graph_heap frozen g) (tab j) ≡ Some (TableObj (node_table frozen es))
graph_table frozen g j es e = ap (option_map TableObj) (get-map (node_table frozen) g j ∙ ap (option_map (node_table frozen)) e)

pub graph_back : (frozen : Bool) (g : Graph) (j : ℕ) (o : Obj ⊥) → look (graph_heap frozen g) (tab j) ≡ Some o → (es : Entries) × (slice_get g j ≡ Some es) × (o ≡ TableObj (node_table frozen es))
graph_back frozen g j o e =
    let b = of-some_back TableObj (slice_get (graph_tables frozen g) j) o e in
    let c = of-some_back (node_table frozen) (slice_get g j) b.0 (sym (get-map (node_table frozen) g j) ∙ b.1) in
    (c.0, c.1, sym b.2 ∙ ap TableObj (sym c.2))

graph_within : (frozen : Bool) (g : Graph) (j : ℕ) (o : Obj ⊥) → look (graph_heap frozen g) (tab j) ≡ Some o → j < length g
graph_within frozen g j o e = let b = graph_back frozen g j o e in slice_get_within g j b.0 b.1

pub look-joined : {X : Type 0} (frozen : Bool) (g : Graph) (h : Heap X) (j : ℕ) (es : Entries) → slice_get g j ≡ Some es
    → look (join frozen g h) (tab (length h.tables + j)) ≡ Some (TableObj (node_table frozen (shift_entries (length h.tables) es)))
look-joined frozen g h j es e =
    ap (option_map TableObj) (get-part h.tables _ (length h.tables + j) j (part-add (length h.tables) j) ∙ joined_tables frozen g (length h.tables) j es e)

pub look-first : {X : Type 0} (frozen : Bool) (g : Graph) (h : Heap X) (q : Ref) (a : Obj X) → look h q ≡ Some a → look (join frozen g h) q ≡ Some a
look-first frozen g h (cel i) a e = e
look-first frozen g h (clo i) a e = e
look-first frozen g h (mar i) a e = e
look-first frozen g h (tab i) a e =
    let b = of-some_back TableObj (slice_get h.tables i) a e in
    let f : part (length h.tables) i ≡ None = part-below (length h.tables) i (slice_get_within h.tables i b.0 b.1) in
    ap (λ o. option_map TableObj o) (get-first h.tables _ i f) ∙ e

-- the map of the heap and the map of the graph
abbrev pub choose : Option ℕ → Option Ref → (ℕ → Option Ref) → Option Ref
choose None o f = o
choose (Some j) o f = f j

abbrev pub to_both : Map → Map → ℕ → Ref → Option Ref
to_both m p k (tab i) = choose (part k i) (m.to (tab i)) (λ j. p.to (tab j))
to_both m p k (cel i) = m.to (cel i)
to_both m p k (clo i) = m.to (clo i)
to_both m p k (mar i) = m.to (mar i)

abbrev pub behind : ℕ → Option Ref → Option Ref
behind k (Some (tab j)) = Some (tab (k + j))
behind k _ = None

abbrev pub or_else : Option Ref → Option Ref → Option Ref
or_else (Some q) o = Some q
or_else None o = o

abbrev pub both_names : Map → Map → ℕ → Map
both_names m p k = record { to = to_both m p k; from = λ r. or_else (m.from r) (behind k (p.from r)) }

behind-back : (k : ℕ) (o : Option Ref) (q : Ref) → behind k o ≡ Some q → (j : ℕ) × (o ≡ Some (tab j)) × (q ≡ tab (k + j))
behind-back k None q e = cc
behind-back k (Some (tab j)) q e = (j, refl, cc)
behind-back k (Some (cel j)) q e = cc
behind-back k (Some (clo j)) q e = cc
behind-back k (Some (mar j)) q e = cc

module _ {X Y : Type 0} (R : Map → X → Y → Type 0) (up : GrowsWith R) (m p : Map) (frozen : Bool) (g : Graph) (h : Heap X) (s : Heap Y)
    (sm : Stands R m h s) (sp : Stands NoFunctions p (graph_heap frozen g) s) (apart : (q q' r : Ref) → p.to q ≡ Some r → m.to q' ≡ Some r → ⊥) where
  pub both-grows : (q r : Ref) → m.to q ≡ Some r → to_both m p (length h.tables) q ≡ Some r
  both-grows (tab i) r e =
      let v = sm.holds (tab i) r e in
      let b = of-some_back TableObj (slice_get h.tables i) v.0 v.2 in
      let f : part (length h.tables) i ≡ None = part-below (length h.tables) i (slice_get_within h.tables i b.0 b.1) in
      ap (λ o. choose o (m.to (tab i)) (λ j. p.to (tab j))) f ∙ e
  both-grows (cel i) r e = e
  both-grows (clo i) r e = e
  both-grows (mar i) r e = e

  both-at : (j : ℕ) (r : Ref) → p.to (tab j) ≡ Some r → to_both m p (length h.tables) (tab (length h.tables + j)) ≡ Some r
  both-at j r e = ap (λ o. choose o (m.to (tab (length h.tables + j))) (λ j. p.to (tab j))) (part-add (length h.tables) j) ∙ e

  -- a name of both is one of the heap, or one of the graph behind those of the heap
  both-back : (q r : Ref) → to_both m p (length h.tables) q ≡ Some r → (m.to q ≡ Some r) ⊎ ((j : ℕ) × (q ≡ tab (length h.tables + j)) × (p.to (tab j) ≡ Some r))
  both-back (cel i) r e = inl e
  both-back (clo i) r e = inl e
  both-back (mar i) r e = inl e
  both-back (tab i) r e = go (part (length h.tables) i) refl e
    where
      go : (o : Option ℕ) → part (length h.tables) i ≡ o → choose o (m.to (tab i)) (λ j. p.to (tab j)) ≡ Some r
          → (m.to (tab i) ≡ Some r) ⊎ ((j : ℕ) × (tab i ≡ tab (length h.tables + j)) × (p.to (tab j) ≡ Some r))
      go None f x = inl x
      go (Some j) f x = inr (j, ap tab (part-some (length h.tables) i j f), x)

  from-none : (q r : Ref) → p.to q ≡ Some r → m.from r ≡ None
  from-none q r e = go (m.from r) refl
    where
      go : (o : Option Ref) → m.from r ≡ o → m.from r ≡ None
      go None f = f
      go (Some q') f = absurd (apart q q' r e (sm.back q' r f))

  of-graph : {A : Type 0} (q : Ref) (r : Ref) → p.to q ≡ Some r → look (graph_heap frozen g) q ≡ None → A
  of-graph q r e n = let v = sp.holds q r e in clash v.2 n

  pub shift-same : (v w : Value) → Same p v w → Same (both_names m p (length h.tables)) (shift (length h.tables) v) w
  shift-same _ _ nil = nil
  shift-same _ _ (truth n) = truth n
  shift-same _ _ (number n) = number n
  shift-same _ _ (text n) = text n
  shift-same _ _ (builtin n) = builtin n
  shift-same _ _ (table a b e) = table (length h.tables + a) b (both-at a _ e)
  shift-same _ _ (closure a b e) = of-graph (clo a) _ e refl
  shift-same _ _ (markup a b e) = of-graph (mar a) _ e refl

  shift-same_entries : (es fs : Entries) → SameEntries p es fs → SameEntries (both_names m p (length h.tables)) (shift_entries (length h.tables) es) fs
  shift-same_entries _ _ none = none
  shift-same_entries _ _ (more x y xs ys r rest) = more _ y _ ys (record { key = shift-same _ _ r.key; value = shift-same _ _ r.value }) (shift-same_entries xs ys rest)

  shift-obj : (es : Entries) (b : Obj Y) → SameObj NoFunctions p (TableObj (node_table frozen es)) b → SameObj R (both_names m p (length h.tables)) (TableObj (node_table frozen (shift_entries (length h.tables) es))) b
  shift-obj es _ (tables a' b t) = tables _ b (record { entries = shift-same_entries _ _ t.entries; meta = shift-same _ _ t.meta; frozen = t.frozen })

  pub stands-both : Stands R (both_names m p (length h.tables)) (join frozen g h) s
  stands-both = record {
    forth = λ q r e. elim (both-back q r e) [
      | inl f ↦ ap (λ o. or_else o (behind (length h.tables) (p.from r))) (sm.forth q r f)
      | inr f ↦ ap (λ o. or_else o (behind (length h.tables) (p.from r))) (from-none (tab f.0) r f.2) ∙ ap (behind (length h.tables)) (sp.forth (tab f.0) r f.2) ∙ ap Some (sym f.1)
    ];
    back = λ q r e. back_ q r (m.from r) refl e;
    holds = λ q r e. elim (both-back q r e) [
      | inl f ↦ let v = sm.holds q r f in (v.0, v.1, look-first frozen g h q v.0 v.2, v.3, obj-grows R up m (both_names m p (length h.tables)) v.0 v.1 both-grows v.4)
      | inr f ↦ new_ q r f.0 f.1 f.2
    ];
  }
    where
      back_ : (q r : Ref) (o : Option Ref) → m.from r ≡ o → or_else o (behind (length h.tables) (p.from r)) ≡ Some q → to_both m p (length h.tables) q ≡ Some r
      back_ q r (Some x) f e = both-grows q r (sm.back q r (f ∙ e))
      back_ q r None f e =
          let b = behind-back (length h.tables) (p.from r) q e in
          subst (λ z. to_both m p (length h.tables) z ≡ Some r) (sym b.2) (both-at b.0 r (sp.back (tab b.0) r b.1))

      new_ : (q r : Ref) (j : ℕ) → q ≡ tab (length h.tables + j) → p.to (tab j) ≡ Some r
          → (a : Obj X) × (b : Obj Y) × (look (join frozen g h) q ≡ Some a) × (look s r ≡ Some b) × SameObj R (both_names m p (length h.tables)) a b
      new_ q r j x z =
          let v = sp.holds (tab j) r z in
          let b = graph_back frozen g j v.0 v.2 in (
            TableObj (node_table frozen (shift_entries (length h.tables) b.0)),
            v.1,
            subst (λ w. look (join frozen g h) w ≡ Some (TableObj (node_table frozen (shift_entries (length h.tables) b.0)))) (sym x) (look-joined frozen g h j b.0 b.1),
            v.3,
            shift-obj b.0 v.1 (subst (λ o. SameObj NoFunctions p o v.1) b.2 v.4),
          )

  -- a name that only the heap has stays so
  pub both-private : (q : Ref) (a : Obj X) → look h q ≡ Some a → m.to q ≡ None → to_both m p (length h.tables) q ≡ None
  both-private (cel i) a e f = f
  both-private (clo i) a e f = f
  both-private (mar i) a e f = f
  both-private (tab i) a e f =
      let b = of-some_back TableObj (slice_get h.tables i) a e in
      let k : part (length h.tables) i ≡ None = part-below (length h.tables) i (slice_get_within h.tables i b.0 b.1) in
      ap (λ o. choose o (m.to (tab i)) (λ j. p.to (tab j))) k ∙ f

kept_apart : (S K : Set) (r : Ref) → (IsTrue (K r) → S r ≡ false) → IsTrue (K r) → IsTrue (S r) → ⊥
kept_apart S K r f k s = let z = f k in cc

-- A KEPT GRAPH JOINS: what stands in the set S with what was there, stands with the graph in S and K
pub joined : {X Y : Type 0} (R : Map → X → Y → Type 0) → GrowsWith R → (m : Map) (S K : Set) (g : Graph) (value : Value) (h : Heap X) (s : Heap Y)
    → Stands R m h s → ((q r : Ref) → m.to q ≡ Some r → IsTrue (S r)) → IsKept K S g value s → IsJoined R m S K true g value h s
joined R up m S K g value h s st in_ k =
    let apart : (q q' r : Ref) → k.names.to q ≡ Some r → m.to q' ≡ Some r → ⊥ = λ q q' r e f. kept_apart S K r (k.apart r) (k.inside q r e) (in_ q' r f) in
    record {
      names = both_names m k.names (length h.tables);
      grows = both-grows R up m k.names true g h s st k.stands apart;
      stands = stands-both R up m k.names true g h s st k.stands apart;
      root_at = subst (λ (n : ℕ). Same (both_names m k.names (length h.tables)) (Table n) value) (omega arith) (shift-same R up m k.names true g h s st k.stands apart (Table 0) value k.root_at);
      inside = λ q r e. elim (both-back R up m k.names true g h s st k.stands apart q r e) [
        | inl f ↦ or-left (S r) (K r) (in_ q r f)
        | inr f ↦ or-right (S r) (K r) (k.inside (tab f.0) r f.2)
      ];
      news = λ q r e. elim (both-back R up m k.names true g h s st k.stands apart q r e) [
        | inl f ↦ inl f
        | inr f ↦ inr (f.0, graph_within true g f.0 (k.stands.holds (tab f.0) r f.2).0 (k.stands.holds (tab f.0) r f.2).2, f.1, k.inside (tab f.0) r f.2)
      ];
      old = look-first true g h;
      private = both-private R up m k.names true g h s st k.stands apart;
    }
