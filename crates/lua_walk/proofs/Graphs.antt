-- What is taken is a graph.
use Rattle.std.proofs.Common.{◌≡◌, ◌≢◌, ℕ, zero, suc, ◌<◌, eqb, Bool, true, false, List, [], ◌∷◌, length, slice_index_or, refl, sym, ◌∙◌, ap, subst, arith, if◌then◌else◌}
use Rattle.std.specs.Prelude.{Ok, Err}
use Rattle.std.specs.List.{AllByRecursion, Contains, IsDistinct, flat_map}
use Rattle.std.specs.Map.{keys_of}
use Rattle.std.proofs.lemmas.Bool.Decides.{nat_tests}
use Rattle.std.proofs.lemmas.Option.{slice_get_within}
use Rattle.lua_heap.specs.LuaTableEntries.{Contents}
use Rattle.lua_heap.specs.Value.{Value, Nil, Truth, Number, Text, Table, Closure, Builtin, Markup, same, is_nil}
use Rattle.lua_heap.specs.Table.{Entries, HasValueKeys}
use Rattle.lua_heap.specs.Heap.{Heap, table_at}
use Rattle.lua_heap.specs.Related.{Each, none, more}
use Rattle.lua_heap.specs.Graph.{Graph, IsKey, IsItem, IsDatum, IsGraph}
use Rattle.lua_heap.proofs.Names.{all-split, all-any}
use Rattle.lua_walk.specs.Order.{place_of, reached, live}
use Rattle.lua_walk.specs.Data.{Checked, HasMetatable, on_ok, all_ok, key_of, item_of, entry_of, node_of, taken}
use Rattle.lua_walk.specs.Laws.{table_in, links, IsOrder}

-- WITHOUT A FAULT
pub ok-back : {A : Type 0} {a b : A} → ◌≡◌ {A = Checked A} (Ok a) (Ok b) → a ≡ b
ok-back e = cc

pub on-back : {A B : Type 0} (r : Checked A) (f : A → Checked B) (b : B) → on_ok r f ≡ Ok b → (a : A) × (r ≡ Ok a) × (f a ≡ Ok b)
on-back (Ok a) f b e = (a, refl, e)
on-back (Err x) f b e = cc

pub all-each : {A B : Type 0} (f : A → Checked B) (xs : List A) (ys : List B) → all_ok f xs ≡ Ok ys → Each (λ x y. f x ≡ Ok y) xs ys
all-each {A} {B} f [] ys e = subst (Each (λ x y. f x ≡ Ok y) []) (ok-back e) none
all-each {A} {B} f (x ∷ xs) ys e =
    let y = on-back (f x) (λ y. on_ok (all_ok f xs) (λ zs. Ok (y ∷ zs))) ys e in
    let zs = on-back (all_ok f xs) (λ zs. Ok (y.0 ∷ zs)) ys y.2 in
    subst (Each (λ x y. f x ≡ Ok y) (x ∷ xs)) (ok-back zs.2) (more x y.0 xs zs.0 y.1 (all-each f xs zs.0 zs.1))

pub each-length : {A B : Type 0} (R : A → B → Type 0) (xs : List A) (ys : List B) → Each R xs ys → length xs ≡ length ys
each-length R _ _ none = refl
each-length R _ _ (more x y xs ys r rest) = ap suc (each-length R xs ys rest)

each-all : {A B : Type 0} (R : A → B → Type 0) (P : A → Type 0) (Q : B → Type 0) → ((x : A) (y : B) → R x y → P x → Q y) → (xs : List A) (ys : List B) → Each R xs ys → AllByRecursion P xs → AllByRecursion Q ys
each-all R P Q f _ _ none a = tt
each-all R P Q f _ _ (more x y xs ys r rest) a = (f x y r a.0, each-all R P Q f xs ys rest a.1)

-- PLACES
place-below_ : (x t : ℕ) (xs : List ℕ) (b : Bool) → eqb t x ≡ b → (b ≡ false → place_of xs t < length xs) → (if b then 0 else suc (place_of xs t)) < suc (length xs)
place-below_ x t xs true e f = omega arith
place-below_ x t xs false e f = let g = f refl in omega (arith, g)

pub differ : (x t : ℕ) → eqb t x ≡ false → x ≡ t → ⊥
differ x t e f = grind (arith, nat_tests)

contains-tail : (x t : ℕ) (xs : List ℕ) → eqb t x ≡ false → Contains (x ∷ xs) t → Contains xs t
contains-tail x t xs e c = go c.0 c.1 c.2
  where
    go : (k : ℕ) → k < length (x ∷ xs) → slice_index_or (x ∷ xs) k t ≡ t → Contains xs t
    go zero l g = absurd (differ x t e g)
    go (suc k) l g = (k, omega (arith, l), g)

pub place-below : (xs : List ℕ) (t : ℕ) → Contains xs t → place_of xs t < length xs
place-below [] t c = absurd (let l : c.0 < 0 = c.1 in omega (arith, l))
place-below (x ∷ xs) t c = place-below_ x t xs (eqb t x) refl (λ e. place-below xs t (contains-tail x t xs e c))

-- ENTRIES THAT ARE NOT CLEARED
live-all : (P : Value × Value → Type 0) (es : Entries) → AllByRecursion P es → AllByRecursion (λ e. P e × (is_nil e.1 ≡ false)) (live es)
live-all P [] a = tt
live-all P (e ∷ es) a = go (is_nil e.1) refl (live-all P es a.1)
  where
    go : (b : Bool) → is_nil e.1 ≡ b → AllByRecursion (λ e. P e × (is_nil e.1 ≡ false)) (live es) → AllByRecursion (λ e. P e × (is_nil e.1 ≡ false)) (if b then live es else (e ∷ live es))
    go true f r = r
    go false f r = ((a.0, f), r)

live-keys : (P : Value → Type 0) (es : Entries) → AllByRecursion P (keys_of es) → AllByRecursion P (keys_of (live es))
live-keys P [] a = tt
live-keys P (e ∷ es) a = go (is_nil e.1) (live-keys P es a.1)
  where
    go : (b : Bool) → AllByRecursion P (keys_of (live es)) → AllByRecursion P (keys_of (if b then live es else (e ∷ live es)))
    go true r = r
    go false r = (a.0, r)

live-distinct_ : (e : Value × Value) (es : Entries) (b : Bool) → IsDistinct same (keys_of (e ∷ es)) → IsDistinct same (keys_of (live es)) → IsDistinct same (keys_of (if b then live es else (e ∷ live es)))
unfolding IsDistinct
live-distinct_ e es true d r = r
live-distinct_ e es false d r = (live-keys (λ k. same e.0 k ≡ false) es d.0, r)

pub live-distinct : (es : Entries) → IsDistinct same (keys_of es) → IsDistinct same (keys_of (live es))
unfolding IsDistinct
live-distinct [] d = tt
live-distinct (e ∷ es) d = live-distinct_ e es (is_nil e.1) d (live-distinct es d.1)

-- DATA
key-is : (v k : Value) → key_of v ≡ Ok k → IsKey k × (v ≡ k)
key-is (Truth b) k e = let f : Truth b ≡ k = ok-back e in (subst IsKey f tt, f)
key-is (Number n) k e = let f : Number n ≡ k = ok-back e in (subst IsKey f tt, f)
key-is (Text t) k e = let f : Text t ≡ k = ok-back e in (subst IsKey f tt, f)
key-is Nil k e = cc
key-is (Table t) k e = cc
key-is (Closure t) k e = cc
key-is (Builtin t) k e = cc
key-is (Markup t) k e = cc

module _ (order : List ℕ) (size : ℕ) (sized : length order ≡ size) where
  item-is : (v w : Value) → item_of order v ≡ Ok w → is_nil v ≡ false → AllByRecursion (Contains order) (table_in v) → IsItem size w
  item-is (Table t) w e f a = let b = place-below order t a.0 in subst (IsItem size) (ok-back e) (let l : place_of order t < size = omega (arith, b, sized) in l)
  item-is (Truth b) w e f a = subst (IsItem size) (ok-back e) tt
  item-is (Number n) w e f a = subst (IsItem size) (ok-back e) tt
  item-is (Text t) w e f a = subst (IsItem size) (ok-back e) tt
  item-is Nil w e f a = cc
  item-is (Closure t) w e f a = cc
  item-is (Builtin t) w e f a = cc
  item-is (Markup t) w e f a = cc

  entry-is : (e d : Value × Value) → entry_of order e ≡ Ok d → is_nil e.1 ≡ false → AllByRecursion (Contains order) (table_in e.1) → IsDatum size d × (d.0 ≡ e.0)
  entry-is e d f n a =
      let k = on-back (key_of e.0) (λ k. on_ok (item_of order e.1) (λ v. Ok (k, v))) d f in
      let v = on-back (item_of order e.1) (λ v. Ok (k.0, v)) d k.2 in
      let same_ : ◌≡◌ {A = Value × Value} (k.0, v.0) d = ok-back v.2 in
      let key = key-is e.0 k.0 k.1 in
      subst (λ (x : Value × Value). IsDatum size x × (x.0 ≡ e.0)) same_ ((key.0, item-is e.1 v.0 v.1 n a), sym key.1)

  pub links-live : (t : Contents Value) → AllByRecursion (Contains order) (links t) → AllByRecursion (λ e. AllByRecursion (Contains order) (table_in e.1) × (is_nil e.1 ≡ false)) (live t.entries)
  links-live t a = live-all (λ e. AllByRecursion (Contains order) (table_in e.1)) t.entries (each-one t.entries (all-split (Contains order) (table_in t.meta) (flat_map (λ e. table_in e.1) t.entries) a).1)
    where
      each-one : (es : Entries) → AllByRecursion (Contains order) (flat_map (λ e. table_in e.1) es) → AllByRecursion (λ e. AllByRecursion (Contains order) (table_in e.1)) es
      each-one [] a = tt
      each-one (e ∷ es) a = let s = all-split (Contains order) (table_in e.1) (flat_map (λ f. table_in f.1) es) a in (s.0, each-one es s.1)

  -- the entries of a table without a fault are those that are not cleared, one by one
  node-each : (t : Contents Value) (es : Entries) → node_of order t ≡ Ok es → Each (λ e d. entry_of order e ≡ Ok d) (live t.entries) es
  node-each t es e = go (is_nil t.meta) e
    where
      go : (b : Bool) → (if b then all_ok (entry_of order) (live t.entries) else Err HasMetatable) ≡ Ok es → Each (λ e d. entry_of order e ≡ Ok d) (live t.entries) es
      go true f = all-each (entry_of order) (live t.entries) es f
      go false f = cc

  node-data : (t : Contents Value) (es : Entries) → node_of order t ≡ Ok es → AllByRecursion (Contains order) (links t) → AllByRecursion (IsDatum size) es
  node-data t es e a =
      each-all (λ x d. entry_of order x ≡ Ok d) (λ x. AllByRecursion (Contains order) (table_in x.1) × (is_nil x.1 ≡ false)) (IsDatum size)
      (λ x d f p. (entry-is x d f p.1 p.0).0) (live t.entries) es (node-each t es e) (links-live t a)

  keys-same : (xs ys : Entries) → Each (λ e d. entry_of order e ≡ Ok d) xs ys → keys_of ys ≡ keys_of xs
  keys-same _ _ none = refl
  keys-same _ _ (more x y xs ys r rest) = ap (λ k. k ∷ keys_of ys) (same-key x y r) ∙ ap (λ ks. x.0 ∷ ks) (keys-same xs ys rest)
    where
      same-key : (e d : Value × Value) → entry_of order e ≡ Ok d → d.0 ≡ e.0
      same-key e d f =
          let k = on-back (key_of e.0) (λ k. on_ok (item_of order e.1) (λ v. Ok (k, v))) d f in
          let v = on-back (item_of order e.1) (λ v. Ok (k.0, v)) d k.2 in
          let same_ : ◌≡◌ {A = Value × Value} (k.0, v.0) d = ok-back v.2 in
          sym (ap (λ (x : Value × Value). x.0) same_) ∙ sym (key-is e.0 k.0 k.1).1

  node-keys : (t : Contents Value) (es : Entries) → node_of order t ≡ Ok es → HasValueKeys t.entries → HasValueKeys es
  node-keys t es e h =
      let f = keys-same (live t.entries) es (node-each t es e) in
      record {
        distinct = subst (IsDistinct same) (sym f) (live-distinct t.entries h.distinct);
        keys = subst (AllByRecursion (λ key. key ≢ Nil)) (sym f) (live-keys (λ key. key ≢ Nil) t.entries h.keys);
      }

pub taken-graph : {X : Type 0} (h : Heap X) (t : ℕ) (g : Graph) → IsOrder h t (reached h t) → ((n : ℕ) → HasValueKeys (table_at h n).entries) → taken h (Table t) ≡ Ok g → IsGraph g
taken-graph h t g o keys e =
    let order = reached h t in
    let each = all-each (λ n. node_of order (table_at h n)) order g e in
    let size = each-length (λ n es. node_of order (table_at h n) ≡ Ok es) order g each in
    record {
      rooted = let f : 0 < length order = slice_get_within order 0 t o.first in omega (arith, f, size);
      data_ = each-all (λ n es. node_of order (table_at h n) ≡ Ok es) (λ n. AllByRecursion (Contains order) (links (table_at h n))) (AllByRecursion (IsDatum (length g)))
          (λ n es f a. node-data order (length g) size (table_at h n) es f a) order g each o.closed;
      keys = each-all (λ n es. node_of order (table_at h n) ≡ Ok es) (λ n. HasValueKeys (table_at h n).entries) HasValueKeys
          (λ n es f a. node-keys order (length g) size (table_at h n) es f a) order g each (all-any (λ n. HasValueKeys (table_at h n).entries) keys order);
    }
