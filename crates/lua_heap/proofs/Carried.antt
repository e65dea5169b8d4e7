-- What stands for a thing under one map stands for it under another that agrees on the names in the thing.
-- And whatever stands for a thing names only what stands for something.
use Rattle.std.proofs.Common.{◌≡◌, ℕ, true, List, [], ◌∷◌, map, Option, Some, None, IsTrue, refl}
use Rattle.std.specs.List.{flat_map}
use Rattle.lua_table.specs.Entries.{Contents}
use Rattle.lua_heap.specs.Value.{Value, Nil, Truth, Number, Text, Table, Closure, Builtin, Markup}
use Rattle.lua_heap.specs.Heap.{Function, Iterator, MarkupChild, ChildText, ChildNode, MarkupNode, Ref, cel, Obj, TableObj, CellObj, ClosureObj, MarkupObj}
use Rattle.lua_heap.specs.Related.{Map, Grows, Each, none, more, SameOption, neither, both, Same, nil, truth, number, text, table, closure, builtin, markup, SameCell, SameNodeId, SameEntry, SameTable, functions, iterators, SameChild, child_text, child_node, SameNode, SameObj, tables, cells, closures, nodes, GrowsWith}
use Rattle.lua_heap.specs.Reach.{Set, AllIn, value_names, entry_names, table_names, child_names, parent_names, node_names, obj_names, LooksAtNames, NamesStand, StandsForItself}
use Rattle.lua_heap.proofs.Names.{all-split, all-join, all-any}

-- related lists whose second elements have all their names in a set
pub each-in : {A B : Type 0} (R Q : A → B → Type 0) (names : B → List Ref) (S : Set) → ((x : A) (y : B) → R x y → AllIn S (names y) → Q x y) → (xs : List A) (ys : List B) → Each R xs ys → AllIn S (flat_map names ys) → Each Q xs ys
each-in R Q names S f _ _ none i = none
each-in R Q names S f _ _ (more x y xs ys r rest) i =
    let p = all-split (λ r. IsTrue (S r)) (names y) (flat_map names ys) i in
    more x y xs ys (f x y r p.0) (each-in R Q names S f xs ys rest p.1)

pub each-names : {A B : Type 0} (R : A → B → Type 0) (names : B → List Ref) (S : Set) → ((x : A) (y : B) → R x y → AllIn S (names y)) → (xs : List A) (ys : List B) → Each R xs ys → AllIn S (flat_map names ys)
each-names R names S f _ _ none = tt
each-names R names S f _ _ (more x y xs ys r rest) = all-join (λ r. IsTrue (S r)) (names y) (flat_map names ys) (f x y r) (each-names R names S f xs ys rest)

each-itself : {A : Type 0} (R : A → A → Type 0) (names : A → List Ref) (S : Set) → ((x : A) → AllIn S (names x) → R x x) → (xs : List A) → AllIn S (flat_map names xs) → Each R xs xs
each-itself R names S f [] i = none
each-itself R names S f (x ∷ xs) i =
    let p = all-split (λ r. IsTrue (S r)) (names x) (flat_map names xs) i in
    more x x xs xs (f x p.0) (each-itself R names S f xs p.1)

-- UNDER ANOTHER MAP
module _ (m n : Map) (S : Set) (f : (q r : Ref) → m.to q ≡ Some r → IsTrue (S r) → n.to q ≡ Some r) where
  pub value-carried : (v w : Value) → Same m v w → AllIn S (value_names w) → Same n v w
  value-carried _ _ nil i = nil
  value-carried _ _ (truth b) i = truth b
  value-carried _ _ (number k) i = number k
  value-carried _ _ (text bytes) i = text bytes
  value-carried _ _ (table a b e) i = table a b (f _ _ e i.0)
  value-carried _ _ (closure a b e) i = closure a b (f _ _ e i.0)
  value-carried _ _ (builtin k) i = builtin k
  value-carried _ _ (markup a b e) i = markup a b (f _ _ e i.0)

  entry-carried : (a b : Value × Value) → SameEntry m a b → AllIn S (entry_names b) → SameEntry n a b
  entry-carried a b e i =
      let p = all-split (λ r. IsTrue (S r)) (value_names b.0) (value_names b.1) i in
      record { key = value-carried _ _ e.key p.0; value = value-carried _ _ e.value p.1 }

  table-carried : (a b : Contents Value) → SameTable m a b → AllIn S (table_names b) → SameTable n a b
  table-carried a b t i =
      let p = all-split (λ r. IsTrue (S r)) (flat_map entry_names b.entries) (value_names b.meta) i in
      record {
        entries = each-in (SameEntry m) (SameEntry n) entry_names S entry-carried a.entries b.entries t.entries p.0;
        meta = value-carried _ _ t.meta p.1;
        frozen = t.frozen;
      }

  pub cells-carried : (cs ds : List ℕ) → Each (SameCell m) cs ds → AllIn S (map cel ds) → Each (SameCell n) cs ds
  cells-carried _ _ none i = none
  cells-carried _ _ (more c d cs ds e rest) i = more c d cs ds (f _ _ e i.0) (cells-carried cs ds rest i.1)

  parent-carried : (a b : Option ℕ) → SameOption (SameNodeId m) a b → AllIn S (parent_names b) → SameOption (SameNodeId n) a b
  parent-carried _ _ neither i = neither
  parent-carried _ _ (both a b e) i = both a b (f _ _ e i.0)

  child-carried : (a b : MarkupChild) → SameChild m a b → AllIn S (child_names b) → SameChild n a b
  child-carried _ _ (child_text bytes) i = child_text bytes
  child-carried _ _ (child_node a b e) i = child_node a b (f _ _ e i.0)

  node-carried : (a b : MarkupNode) → SameNode m a b → AllIn S (node_names b) → SameNode n a b
  node-carried a b t i =
      let p = all-split (λ r. IsTrue (S r)) (parent_names b.parent) (flat_map child_names b.children) i in
      record {
        name = t.name;
        closed = t.closed;
        parent = parent-carried _ _ t.parent p.0;
        attrs = t.attrs;
        styles = t.styles;
        children = each-in (SameChild m) (SameChild n) child_names S child-carried a.children b.children t.children p.1;
      }

  pub values-carried : (vs ws : List Value) → Each (Same m) vs ws → AllIn S (flat_map value_names ws) → Each (Same n) vs ws
  values-carried vs ws e i = each-in (Same m) (Same n) value_names S value-carried vs ws e i

module _ {X Y : Type 0} (R : Map → X → Y → Type 0) where
  pub obj-carried : (names : Y → List Ref) → LooksAtNames R names → (m n : Map) (S : Set) → ((q r : Ref) → m.to q ≡ Some r → IsTrue (S r) → n.to q ≡ Some r)
      → (a : Obj X) (b : Obj Y) → SameObj R m a b → AllIn S (obj_names names b) → SameObj R n a b
  obj-carried names look m n S f _ _ (tables a b t) i = tables a b (table-carried m n S f a b t i)
  obj-carried names look m n S f _ _ (cells a b t) i = cells a b (value-carried m n S f a b t i)
  obj-carried names look m n S f _ _ (closures _ _ (functions a b t)) i = closures _ _ (functions a b (look m n S f a b t i))
  obj-carried names look m n S f _ _ (closures _ _ (iterators k cs ds t)) i = closures _ _ (iterators k cs ds (cells-carried m n S f cs ds t i))
  obj-carried names look m n S f _ _ (nodes a b t) i = nodes a b (node-carried m n S f a b t i)

-- WHEN THE MAP GROWS
abbrev everywhere : Set
everywhere r = true

every : (refs : List Ref) → AllIn everywhere refs
every refs = all-any (λ r. IsTrue (everywhere r)) (λ r. refl) refs

pub same-grows : (m n : Map) (v w : Value) → Grows m n → Same m v w → Same n v w
same-grows m n v w g e = value-carried m n everywhere (λ q r e i. g q r e) v w e (every _)

pub sames-grow : (m n : Map) (vs ws : List Value) → Grows m n → Each (Same m) vs ws → Each (Same n) vs ws
sames-grow m n vs ws g e = values-carried m n everywhere (λ q r e i. g q r e) vs ws e (every _)

pub obj-grows : {X Y : Type 0} (R : Map → X → Y → Type 0) → GrowsWith R → (m n : Map) (a : Obj X) (b : Obj Y) → Grows m n → SameObj R m a b → SameObj R n a b
obj-grows R up m n _ _ g (tables a b t) = tables a b (table-carried m n everywhere (λ q r e i. g q r e) a b t (every _))
obj-grows R up m n _ _ g (cells a b e) = cells a b (same-grows m n _ _ g e)
obj-grows R up m n _ _ g (closures _ _ (functions a b c)) = closures _ _ (functions a b (up m n a b g c))
obj-grows R up m n _ _ g (closures _ _ (iterators k cs ds t)) = closures _ _ (iterators k cs ds (cells-carried m n everywhere (λ q r e i. g q r e) cs ds t (every _)))
obj-grows R up m n _ _ g (nodes a b t) = nodes a b (node-carried m n everywhere (λ q r e i. g q r e) a b t (every _))

-- WHAT IS NAMED by what stands for something
module _ (m : Map) (S : Set) (f : (q r : Ref) → m.to q ≡ Some r → IsTrue (S r)) where
  pub value-image : (v w : Value) → Same m v w → AllIn S (value_names w)
  value-image _ _ nil = tt
  value-image _ _ (truth b) = tt
  value-image _ _ (number k) = tt
  value-image _ _ (text bytes) = tt
  value-image _ _ (table a b e) = (f _ _ e, tt)
  value-image _ _ (closure a b e) = (f _ _ e, tt)
  value-image _ _ (builtin k) = tt
  value-image _ _ (markup a b e) = (f _ _ e, tt)

  pub values-image : (vs ws : List Value) → Each (Same m) vs ws → AllIn S (flat_map value_names ws)
  values-image vs ws e = each-names (Same m) value_names S value-image vs ws e

  entry-image : (a b : Value × Value) → SameEntry m a b → AllIn S (entry_names b)
  entry-image a b e = all-join (λ r. IsTrue (S r)) (value_names b.0) (value_names b.1) (value-image _ _ e.key) (value-image _ _ e.value)

  pub cells-image : (cs ds : List ℕ) → Each (SameCell m) cs ds → AllIn S (map cel ds)
  cells-image _ _ none = tt
  cells-image _ _ (more c d cs ds e rest) = (f _ _ e, cells-image cs ds rest)

  parent-image : (a b : Option ℕ) → SameOption (SameNodeId m) a b → AllIn S (parent_names b)
  parent-image _ _ neither = tt
  parent-image _ _ (both a b e) = (f _ _ e, tt)

  child-image : (a b : MarkupChild) → SameChild m a b → AllIn S (child_names b)
  child-image _ _ (child_text bytes) = tt
  child-image _ _ (child_node a b e) = (f _ _ e, tt)

  pub obj-image : {X Y : Type 0} (R : Map → X → Y → Type 0) (names : Y → List Ref) → NamesStand R names → (a : Obj X) (b : Obj Y) → SameObj R m a b → AllIn S (obj_names names b)
  obj-image R names stand _ _ (tables a b t) =
      all-join (λ r. IsTrue (S r)) (flat_map entry_names b.entries) (value_names b.meta) (each-names (SameEntry m) entry_names S entry-image a.entries b.entries t.entries) (value-image _ _ t.meta)
  obj-image R names stand _ _ (cells a b t) = value-image a b t
  obj-image R names stand _ _ (closures _ _ (functions a b t)) = stand m S f a b t
  obj-image R names stand _ _ (closures _ _ (iterators k cs ds t)) = cells-image cs ds t
  obj-image R names stand _ _ (nodes a b t) =
      all-join (λ r. IsTrue (S r)) (parent_names b.parent) (flat_map child_names b.children) (parent-image _ _ t.parent) (each-names (SameChild m) child_names S child-image a.children b.children t.children)

-- WHAT STANDS FOR ITSELF
module _ (m : Map) (S : Set) (f : (r : Ref) → IsTrue (S r) → m.to r ≡ Some r) where
  pub value-itself : (v : Value) → AllIn S (value_names v) → Same m v v
  value-itself Nil i = nil
  value-itself (Truth b) i = truth b
  value-itself (Number n) i = number n
  value-itself (Text b) i = text b
  value-itself (Table t) i = table t t (f _ i.0)
  value-itself (Closure t) i = closure t t (f _ i.0)
  value-itself (Builtin b) i = builtin b
  value-itself (Markup t) i = markup t t (f _ i.0)

  pub values-itself : (vs : List Value) → AllIn S (flat_map value_names vs) → Each (Same m) vs vs
  values-itself vs i = each-itself (Same m) value_names S value-itself vs i

  entry-itself : (e : Value × Value) → AllIn S (entry_names e) → SameEntry m e e
  entry-itself e i =
      let p = all-split (λ r. IsTrue (S r)) (value_names e.0) (value_names e.1) i in
      record { key = value-itself e.0 p.0; value = value-itself e.1 p.1 }

  pub cells-itself : (cs : List ℕ) → AllIn S (map cel cs) → Each (SameCell m) cs cs
  cells-itself [] i = none
  cells-itself (c ∷ cs) i = more c c cs cs (f _ i.0) (cells-itself cs i.1)

  parent-itself : (p : Option ℕ) → AllIn S (parent_names p) → SameOption (SameNodeId m) p p
  parent-itself None i = neither
  parent-itself (Some n) i = both n n (f _ i.0)

  child-itself : (c : MarkupChild) → AllIn S (child_names c) → SameChild m c c
  child-itself (ChildText bytes) i = child_text bytes
  child-itself (ChildNode n) i = child_node n n (f _ i.0)

  pub obj-itself : {X : Type 0} (R : Map → X → X → Type 0) (names : X → List Ref) → StandsForItself R names → (o : Obj X) → AllIn S (obj_names names o) → SameObj R m o o
  obj-itself R names own (TableObj t) i =
      let p = all-split (λ r. IsTrue (S r)) (flat_map entry_names t.entries) (value_names t.meta) i in
      tables t t (record { entries = each-itself (SameEntry m) entry_names S entry-itself t.entries p.0; meta = value-itself t.meta p.1; frozen = refl })
  obj-itself R names own (CellObj v) i = cells v v (value-itself v i)
  obj-itself R names own (ClosureObj (Function x)) i = closures _ _ (functions x x (own m S f x i))
  obj-itself R names own (ClosureObj (Iterator k cs)) i = closures _ _ (iterators k cs cs (cells-itself cs i))
  obj-itself R names own (MarkupObj t) i =
      let p = all-split (λ r. IsTrue (S r)) (parent_names t.parent) (flat_map child_names t.children) i in
      nodes t t (record {
        name = refl;
        closed = refl;
        parent = parent-itself t.parent p.0;
        attrs = refl;
        styles = refl;
        children = each-itself (SameChild m) child_names S child-itself t.children p.1;
      })
