-- What is read of two heaps, of which one stands in the other: fields, metatables, handlers, entries. And how an answer is put together.
use Rattle.std.proofs.Common.{◌≡◌, ℕ, ◌+◌, ℤ, Bool, true, false, List, ◌∷◌, refl, sym, ◌∙◌, ap, subst, if◌then◌else◌}
use Rattle.std.specs.Prelude.{Ok, Err}
use Rattle.lua_heap.specs.Value.{Value, is_nil, same}
use Rattle.lua_heap.specs.Table.{Entries, get}
use Rattle.lua_heap.specs.Heap.{Heap, tab, TableObj, table_at, is_shared}
use Rattle.lua_heap.specs.Related.{Map, Each, none, more, OneToOne, Same, nil, truth, number, text, table, closure, builtin, markup, SameEntry, SameEntries, SameTable, Stands, Moved}
use Rattle.lua_heap.proofs.Entries.{same-related, nil-related, get-related}
use Rattle.lua_heap.proofs.Steps.{one_to_one, moved-same}
use Rattle.lua_heap.proofs.Stood.{look-table, stood-table}
use Rattle.lua_meaning.specs.Scope.{Bytes}
use Rattle.lua_meaning.specs.Metatables.{field, metatable, handler, either_handler, common_handler}
use Rattle.lua_meaning.specs.Arguments.{Plain, Fails, Argument, unless_refused, passed, gives, costs, gives_text, fails, with_argument, with_charge}
use Rattle.lua_library_agree.specs.Same.{SameArgument, both_ok, both_err, both_give, both_fail, SamePlain}
use Rattle.lua_library_agree.proofs.Values.{one-each, SameTab}

-- one of two, by equal tests
pub chosen : {A B : Type 0} (Q : A → B → Type 0) (b c : Bool) {x y : A} {z w : B} → b ≡ c → Q x z → Q y w → Q (if b then x else y) (if c then z else w)
chosen Q true true e p q = p
chosen Q false false e p q = q
chosen Q true false e p q = cc
chosen Q false true e p q = cc

-- one more entry
pub entry-more : {m : Map} {k l v w : Value} {es fs : Entries} → Same m k l → Same m v w → SameEntries m es fs → SameEntries m ((k, v) ∷ es) ((l, w) ∷ fs)
entry-more e f r = more _ _ _ _ (record { key = e; value = f }) r

-- cleared entries that are passed
pub passed-same : {A : Type 0} {m : Map} (reads : Value × Value → Argument A) → ((e f : Value × Value) → SameEntry m e f → reads e ≡ reads f)
    → (es fs : Entries) → SameEntries m es fs → passed reads es ≡ passed reads fs
passed-same reads same _ _ none = refl
passed-same {A} {m} reads same _ _ (more e f es fs r rest) =
    let more_ : passed reads es ≡ passed reads fs = passed-same reads same es fs rest in
    chosen (λ (x y : ℕ). x ≡ y) (is_nil e.1) (is_nil f.1) (nil-related m _ _ r.value) (ap (λ (n : ℕ). 1 + n) more_)
    (ap (λ a. unless_refused a (passed reads es)) (same e f r) ∙ ap (unless_refused (reads f)) more_)

-- a table that stands for one and can be written, can be written after a call: no call makes a table read-only
pub stays-writable : {X Y : Type 0} (R : Map → X → Y → Type 0) (m n : Map) (h i : Heap X) (s t : Heap Y) → Moved R m n h i s t → (a b : ℕ) → SameTab n a b
    → (table_at s b).frozen ≡ false → (table_at t b).frozen ≡ false
stays-writable R m n h i s t v a b e w = go (table_at t b).frozen refl
  where
    go : (x : Bool) → (table_at t b).frozen ≡ x → (table_at t b).frozen ≡ false
    go false f = f
    go true f =
        let there = (stood-table R n i t a b v.stands e).2 in
        let was = look-table s b (TableObj (table_at t b)) (v.later.freezes_none (tab b) (TableObj (table_at t b)) there f) in
        sym (ap is_shared was) ∙ w

module _ {X Y : Type 0} (R : Map → X → Y → Type 0) (m : Map) (h : Heap X) (s : Heap Y) (st : Stands R m h s) where
  pub one-one : OneToOne m
  one-one = one_to_one R m h s st

  -- TABLES
  pub table-stood : (a b : ℕ) → SameTab m a b → SameTable m (table_at h a) (table_at s b)
  table-stood a b e = (stood-table R m h s a b st e).0

  pub entries-stood : (a b : ℕ) → SameTab m a b → SameEntries m (table_at h a).entries (table_at s b).entries
  entries-stood a b e = (table-stood a b e).entries

  pub item-same : (a b : ℕ) (k l : Value) → SameTab m a b → Same m k l → Same m (get (table_at h a).entries k) (get (table_at s b).entries l)
  item-same a b k l e f = get-related m one-one _ _ k l (entries-stood a b e) f

  -- HANDLERS
  pub field-same : (a b : Value) (name : Bytes) → Same m a b → Same m (field h a name) (field s b name)
  field-same _ _ name nil = nil
  field-same _ _ name (truth b) = nil
  field-same _ _ name (number n) = nil
  field-same _ _ name (text t) = nil
  field-same _ _ name (table a b e) = item-same a b _ _ e (text name)
  field-same _ _ name (closure a b e) = nil
  field-same _ _ name (builtin w) = nil
  field-same _ _ name (markup a b e) = nil

  pub metatable-same : (a b : Value) → Same m a b → Same m (metatable h a) (metatable s b)
  metatable-same _ _ nil = nil
  metatable-same _ _ (truth b) = nil
  metatable-same _ _ (number n) = nil
  metatable-same _ _ (text t) = nil
  metatable-same _ _ (table a b e) = (table-stood a b e).meta
  metatable-same _ _ (closure a b e) = nil
  metatable-same _ _ (builtin w) = nil
  metatable-same _ _ (markup a b e) = nil

  pub handler-same : (a b : Value) (event : Bytes) → Same m a b → Same m (handler h a event) (handler s b event)
  handler-same a b event e = field-same _ _ event (metatable-same a b e)

  pub either_handler-same : (a b c d : Value) (event : Bytes) → Same m a b → Same m c d → Same m (either_handler h a c event) (either_handler s b d event)
  either_handler-same a b c d event e f =
      let x = handler-same a b event e in
      chosen (Same m) (is_nil (handler h a event)) (is_nil (handler s b event)) (nil-related m _ _ x) (handler-same c d event f) x

  pub common_handler-same : (a b c d : Value) (event : Bytes) → Same m a b → Same m c d → Same m (common_handler h a c event) (common_handler s b d event)
  common_handler-same a b c d event e f =
      let x = handler-same a b event e in
      chosen (Same m) (same (handler h a event) (handler h c event)) (same (handler s b event) (handler s d event))
      (same-related m one-one _ _ _ _ x (handler-same c d event f)) x nil

  -- ANSWERS. Both heaps stay as they are,
  abbrev pub Alike : Plain X → Plain Y → Type 0
  Alike a b = SamePlain R m h s a b

  pub costing : (c d : ℕ) → c ≡ d → {vs ws : List Value} → Each (Same m) vs ws → Alike (costs c h vs) (costs d s ws)
  costing c d k e = record { charge = k; names = m; moved = moved-same R m h s st; end = both_give _ _ e }

  pub giving : {vs ws : List Value} → Each (Same m) vs ws → Alike (gives h vs) (gives s ws)
  giving e = costing 0 0 refl e

  pub giving_text : (t : Bytes) → Alike (gives_text h t) (gives_text s t)
  giving_text t = costing _ _ refl (one-each (text t))

  pub failing_with : (v w : Value) (level : ℤ) → Same m v w → Alike (record { charge = 0; heap = h; end = Fails v level }) (record { charge = 0; heap = s; end = Fails w level })
  failing_with v w level e = record { charge = refl; names = m; moved = moved-same R m h s st; end = both_fail v w level e }

  pub failing : (message : Bytes) → Alike (fails h message) (fails s message)
  failing message = failing_with _ _ _ (text message)

  -- or the one or the other happens to both
  pub branch : (c d : Bool) → c ≡ d → {a b : Plain X} {a' b' : Plain Y} → (d ≡ true → Alike a a') → (d ≡ false → Alike b b') → Alike (if c then a else b) (if d then a' else b')
  branch true true e f g = f refl
  branch false false e f g = g refl
  branch true false e f g = cc
  branch false true e f g = cc

  -- with an argument
  pub with-argument : {A B : Type 0} {Q : A → B → Type 0} {c : Argument A} {d : Argument B} (f : A → Plain X) (g : B → Plain Y) → SameArgument Q c d
      → ((a : A) (b : B) → Q a b → Alike (f a) (g b)) → Alike (with_argument h c f) (with_argument s d g)
  with-argument f g (both_ok a b q) k = k a b q
  with-argument f g (both_err message) k = failing message

  given-argument : {A : Type 0} (c : Argument A) (f : A → Plain X) (g : A → Plain Y) → ((a : A) → Alike (f a) (g a)) → Alike (with_argument h c f) (with_argument s c g)
  given-argument (Ok a) f g k = k a
  given-argument (Err message) f g k = failing message

  pub with-equal : {A : Type 0} (c d : Argument A) (f : A → Plain X) (g : A → Plain Y) → c ≡ d → ((a : A) → Alike (f a) (g a)) → Alike (with_argument h c f) (with_argument s d g)
  with-equal c d f g e k = subst (λ d. Alike (with_argument h c f) (with_argument s d g)) e (given-argument c f g k)

  pub charging : (c d : ℕ) → c ≡ d → (a : Plain X) (b : Plain Y) → Alike a b → Alike (with_charge c a) (with_charge d b)
  charging c d k a b e = record { charge = ap (λ (n : ℕ). n + a.charge) k ∙ ap (λ (n : ℕ). d + n) e.charge; names = e.names; moved = e.moved; end = e.end }
