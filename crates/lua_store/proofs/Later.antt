-- What a store has, a later one has too, and sees alike.
use Rattle.std.proofs.Common.{◌≡◌, ℕ, ◌≤◌, ◌+◌, ◌-◌, List, [], ◌∷◌, ◌++◌, length, Option, Some, None, refl, sym, ap, ◌∙◌, arith, map}
use Rattle.std.proofs.Math.ListN.{get_or-append}
use Rattle.std.proofs.lemmas.List.{length-append, append-nil, append_assoc, replicate-append-replicate}
use Rattle.std.specs.Prelude.{replicate}
use Rattle.lua_table.specs.Entries.{Contents}
use Rattle.lua_heap.specs.Value as heap
use Rattle.lua_heap.specs.Value.{Value as HeapValue}
use Rattle.lua_heap.specs.Heap as objects
use Rattle.lua_heap.specs.Proc.{Proc}
use Rattle.std.specs.Option.{option_map}
use Rattle.lua_store.specs.declared.ids.TextId.{TextId}
use Rattle.lua_store.specs.declared.ids.MarkupId.{MarkupId}
use Rattle.lua_store.specs.declared.value.Value.{Value}
use Rattle.lua_store.specs.declared.value.Value.TheVariants.{Nil, Bool as Truth, Number, Text, Table, Closure as ClosureValue, Builtin, Markup}
use Rattle.lua_store.specs.declared.closure.Closure.{Closure}
use Rattle.lua_store.specs.declared.closure.ClosureKind.{ClosureKind}
use Rattle.lua_store.specs.declared.closure.ClosureKind.TheVariants.{Function, Iterator}
use Rattle.lua_store.specs.declared.markup.TextPair.{TextPair}
use Rattle.lua_store.specs.declared.markup.MarkupStyle.{MarkupStyle}
use Rattle.lua_store.specs.declared.markup.MarkupStyle.TheVariants.{Item, Text as StyleText}
use Rattle.lua_store.specs.declared.markup.MarkupChild.{MarkupChild}
use Rattle.lua_store.specs.declared.markup.MarkupChild.TheVariants.{Text as ChildText, Node as ChildNode}
use Rattle.lua_store.specs.declared.markup.MarkupNode.{MarkupNode}
use Rattle.lua_store.specs.Seen.{StoreView, text_at, seen, seen_entry, seen_table, seen_closure, places_of, closed_of, seen_pair, seen_style, seen_child, seen_node}
use Rattle.lua_store.specs.Parts.{Parts, IsOf, IsTextOf, IsCellOf, IsEntryOf, IsContentsOf, IsKindOf, IsContentOf, IsPairOf, IsStyleOf, IsChildOf, IsParentOf, IsNodeOf, AreOf, IsLonger, IsLater, IsGrown}
use Rattle.lua_store.proofs.Lists.{all-to, map-alike}

-- IsLonger and IsLater go from any store to itself, and compose

pub longer-itself : (texts : List (List ℕ)) → IsLonger texts texts
longer-itself texts = record { length_ = omega arith; same = λ id h. refl }

pub longer-then : (a b c : List (List ℕ)) → IsLonger a b → IsLonger b c → IsLonger a c
longer-then a b c l m = record {
  length_ = omega (arith, l.length_, m.length_);
  same = λ id h. m.same id (omega (arith, h, l.length_)) ∙ l.same id h;
}

pub longer-push : (texts : List (List ℕ)) (bytes : List ℕ) → IsLonger texts (texts ++ bytes ∷ [])
longer-push texts bytes = record {
  length_ = let e = length-append texts (bytes ∷ []) in omega (arith, e);
  same = λ id h. get_or-append texts (bytes ∷ []) [] id h;
}

-- numbers of closures, where none was made, and where some were made behind others
pub none_made : (env : ℕ) (envs : List ℕ) (n : ℕ) → envs ≡ envs ++ replicate (n - n) env
none_made env envs n =
    let none : n - n ≡ 0 = omega arith in
    sym (ap (λ k. envs ++ replicate k env) none ∙ append-nil envs)

pub all_made : (env env' : ℕ) (xs ys zs : List ℕ) (a b c : ℕ) → a ≤ b → b ≤ c → env' ≡ env → ys ≡ xs ++ replicate (b - a) env → zs ≡ ys ++ replicate (c - b) env' → zs ≡ xs ++ replicate (c - a) env
all_made env env' xs ys zs a b c h k same made then =
    let sum : (b - a) + (c - b) ≡ c - a = omega (arith, h, k) in
    then ∙ ap (λ e. ys ++ replicate (c - b) e) same ∙ ap (λ ns. ns ++ replicate (c - b) env) made
    ∙ append_assoc xs (replicate (b - a) env) (replicate (c - b) env)
    ∙ ap (λ ns. xs ++ ns) (replicate-append-replicate (b - a) (c - b) env ∙ ap (λ n. replicate n env) sum)

pub later-itself : (s : StoreView) → IsLater s s
later-itself s = record { texts = longer-itself s.texts; tables = omega arith; cells = omega arith; closures = omega arith; markup = omega arith; closures_same = λ id h. refl; env = refl; envs = none_made s.env s.envs (length s.heap.closures) }

pub later-then : (s t u : StoreView) → IsLater s t → IsLater t u → IsLater s u
later-then s t u l m = record {
  texts = longer-then s.texts t.texts u.texts l.texts m.texts;
  tables = omega (arith, l.tables, m.tables);
  cells = omega (arith, l.cells, m.cells);
  closures = omega (arith, l.closures, m.closures);
  markup = omega (arith, l.markup, m.markup);
  closures_same = λ id h. m.closures_same id (omega (arith, h, l.closures)) ∙ l.closures_same id h;
  env = m.env ∙ l.env;
  envs = all_made s.env t.env s.envs t.envs u.envs (length s.heap.closures) (length t.heap.closures) (length u.heap.closures) l.closures m.closures l.env l.envs m.envs;
}

-- later, whatever the numbers
pub later-grown : (s t : StoreView) → IsLater s t → IsGrown s t
later-grown s t l =
    let a = length s.heap.closures in
    let b = length t.heap.closures in
    let sum : a + (b - a) ≡ b = let h = l.closures in omega (arith, h) in
    record {
      texts = l.texts;
      tables = l.tables;
      cells = l.cells;
      closures = l.closures;
      markup = l.markup;
      closures_same = l.closures_same;
      env = refl;
      envs = sym (replicate-append-replicate a (b - a) 0 ∙ ap (λ n. replicate n 0) sum);
    }

module _ (s t : StoreView) (l : IsLater s t) where
  -- what is of the earlier store is of the later one

  pub text_of-later : (id : TextId) → IsTextOf s id → IsTextOf t id
  text_of-later id h = omega (arith, h, l.texts.length_)

  pub of-later : (v : Value) → IsOf s v → IsOf t v
  of-later Nil h = tt
  of-later (Truth b) h = tt
  of-later (Number n) h = tt
  of-later (Text id) h = omega (arith, h, l.texts.length_)
  of-later (Table id) h = omega (arith, h, l.tables)
  of-later (ClosureValue id) h = omega (arith, h, l.closures)
  of-later (Builtin which) h = tt
  of-later (Markup id) h = omega (arith, h, l.markup)

  pub entry_of-later : (e : Value × Value) → IsEntryOf s e → IsEntryOf t e
  entry_of-later e h = (of-later e.0 h.0, of-later e.1 h.1)

  pub contents_of-later : (c : Contents Value) → IsContentsOf s c → IsContentsOf t c
  contents_of-later c h = record { entries = all-to (IsEntryOf s) (IsEntryOf t) entry_of-later c.entries h.entries; meta = of-later c.meta h.meta; keys = h.keys }

  kind_of-later : (k : ClosureKind) → IsKindOf s k → IsKindOf t k
  kind_of-later (Function p) h = text_of-later p.title h
  kind_of-later (Iterator step) h = tt

  pub content_of-later : (c : Closure) → IsContentOf s c → IsContentOf t c
  content_of-later c h = record { kind = kind_of-later c.kind h.kind; cells = all-to (IsCellOf s) (IsCellOf t) (λ id k. omega (arith, k, l.cells)) c.cells h.cells }

  pair_of-later : (p : TextPair) → IsPairOf s p → IsPairOf t p
  pair_of-later p h = (text_of-later p.name h.0, text_of-later p.value h.1)

  style_of-later : (p : MarkupStyle) → IsStyleOf s p → IsStyleOf t p
  style_of-later (Item p) h = pair_of-later p h
  style_of-later (StyleText id) h = text_of-later id h

  child_of-later : (p : MarkupChild) → IsChildOf s p → IsChildOf t p
  child_of-later (ChildText id) h = text_of-later id h
  child_of-later (ChildNode id) h = omega (arith, h, l.markup)

  parent_of-later : (p : Option MarkupId) → IsParentOf s p → IsParentOf t p
  parent_of-later None h = tt
  parent_of-later (Some id) h = omega (arith, h, l.markup)

  pub node_of-later : (n : MarkupNode) → IsNodeOf s n → IsNodeOf t n
  node_of-later n h = record {
    name = text_of-later n.name h.name;
    parent = parent_of-later n.parent h.parent;
    attrs = all-to (IsPairOf s) (IsPairOf t) pair_of-later n.attrs h.attrs;
    styles = all-to (IsStyleOf s) (IsStyleOf t) style_of-later n.styles h.styles;
    children = all-to (IsChildOf s) (IsChildOf t) child_of-later n.children h.children;
  }

  pub are_of-later : (p : Parts) → AreOf s p → AreOf t p
  are_of-later p h = record {
    tables = all-to (IsContentsOf s) (IsContentsOf t) contents_of-later p.tables h.tables;
    cells = all-to (IsOf s) (IsOf t) of-later p.cells h.cells;
    closures = all-to (IsContentOf s) (IsContentOf t) content_of-later p.closures h.closures;
    markup = all-to (IsNodeOf s) (IsNodeOf t) node_of-later p.markup h.markup;
  }

  -- and is seen as it was

  pub text-later : (id : TextId) → IsTextOf s id → text_at t.texts id.at ≡ text_at s.texts id.at
  text-later id h = l.texts.same id.at h

  pub seen-later : (v : Value) → IsOf s v → seen t.texts v ≡ seen s.texts v
  seen-later Nil h = refl
  seen-later (Truth b) h = refl
  seen-later (Number n) h = refl
  seen-later (Text id) h = ap heap.Text (l.texts.same id.at h)
  seen-later (Table id) h = refl
  seen-later (ClosureValue id) h = refl
  seen-later (Builtin which) h = refl
  seen-later (Markup id) h = refl

  entry-later : (e : Value × Value) → IsEntryOf s e → seen_entry t.texts e ≡ seen_entry s.texts e
  entry-later e h = ap (λ (k : HeapValue). let x : HeapValue × HeapValue = (k, seen t.texts e.1) in x) (seen-later e.0 h.0)
      ∙ ap (λ (v : HeapValue). let x : HeapValue × HeapValue = (seen s.texts e.0, v) in x) (seen-later e.1 h.1)

  pub table-later : (c : Contents Value) → IsContentsOf s c → seen_table t.texts c ≡ seen_table s.texts c
  table-later c h =
      ap (λ es. let x : Contents HeapValue = record { entries = es; meta = seen t.texts c.meta; frozen = c.frozen } in x) (map-alike (IsEntryOf s) (seen_entry t.texts) (seen_entry s.texts) entry-later c.entries h.entries)
      ∙ ap (λ v. let x : Contents HeapValue = record { entries = map (seen_entry s.texts) c.entries; meta = v; frozen = c.frozen } in x) (seen-later c.meta h.meta)

  pub closure-later : (c : Closure) → IsContentOf s c → seen_closure t.texts c ≡ seen_closure s.texts c
  closure-later c h = by c.kind h.kind
    where
      by : (k : ClosureKind) → IsKindOf s k → closed_of t.texts k (places_of c.cells) ≡ closed_of s.texts k (places_of c.cells)
      by (Function p) h = ap (λ title. objects.Function (let x : Proc = record { title = title; index = p.index; cells = places_of c.cells } in x)) (text-later p.title h)
      by (Iterator step) h = refl

  pair-later : (p : TextPair) → IsPairOf s p → seen_pair t.texts p ≡ seen_pair s.texts p
  pair-later p h = ap (λ (k : List ℕ). let x : List ℕ × List ℕ = (k, text_at t.texts p.value.at) in x) (text-later p.name h.0)
      ∙ ap (λ (v : List ℕ). let x : List ℕ × List ℕ = (text_at s.texts p.name.at, v) in x) (text-later p.value h.1)

  style-later : (p : MarkupStyle) → IsStyleOf s p → seen_style t.texts p ≡ seen_style s.texts p
  style-later (Item p) h = ap (λ k. objects.Item k (text_at t.texts p.value.at)) (text-later p.name h.0) ∙ ap (λ v. objects.Item (text_at s.texts p.name.at) v) (text-later p.value h.1)
  style-later (StyleText id) h = ap objects.StyleText (text-later id h)

  child-later : (p : MarkupChild) → IsChildOf s p → seen_child t.texts p ≡ seen_child s.texts p
  child-later (ChildText id) h = ap objects.ChildText (text-later id h)
  child-later (ChildNode id) h = refl

  pub node-later : (n : MarkupNode) → IsNodeOf s n → seen_node t.texts n ≡ seen_node s.texts n
  node-later n h = all_four
      (text-later n.name h.name)
      (map-alike (IsPairOf s) (seen_pair t.texts) (seen_pair s.texts) pair-later n.attrs h.attrs)
      (map-alike (IsStyleOf s) (seen_style t.texts) (seen_style s.texts) style-later n.styles h.styles)
      (map-alike (IsChildOf s) (seen_child t.texts) (seen_child s.texts) child-later n.children h.children)
    where
      all_four : {name name' : List ℕ} {attrs attrs' : List (List ℕ × List ℕ)} {styles styles' : List objects.MarkupStyle} {children children' : List objects.MarkupChild}
          → name ≡ name' → attrs ≡ attrs' → styles ≡ styles' → children ≡ children'
          → (let x : objects.MarkupNode = record { name = name; closed = n.closed; parent = option_map (λ id. id.at) n.parent; attrs = attrs; styles = styles; children = children } in x)
          ≡ record { name = name'; closed = n.closed; parent = option_map (λ id. id.at) n.parent; attrs = attrs'; styles = styles'; children = children' }
      all_four a b c d = rw (a, b, c, d) refl
