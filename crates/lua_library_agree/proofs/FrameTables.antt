-- New tables that name one another: those of a frame, of a fresh environment, of `require('strict')`; and what reads a frame's tables.
use Rattle.std.proofs.Common.{◌≡◌, ℕ, zero, suc, ◌+◌, pos, Bool, true, false, List, [], ◌∷◌, ◌++◌, length, Some, slice_set, slice_index_or, refl, ◌∙◌, ap, subst, arith, if◌then◌else◌}
use Rattle.std.specs.Prelude.{codes}
use Rattle.std.proofs.lemmas.List.{length-append}
use Rattle.lua_meaning.specs.MwFrameDeclaredSceneArg.{Arg}
use Rattle.lua_meaning.specs.MwFrameDeclaredSceneScene.{Scene}
use Rattle.lua_heap.specs.LuaTableEntries.{Contents}
use Rattle.lua_heap.specs.Value.{Value, Nil, Number, Text, Table}
use Rattle.lua_heap.specs.Table.{Entries, empty_table}
use Rattle.lua_heap.specs.Heap.{Heap, tab, TableObj, table_at, set_meta_in}
use Rattle.lua_heap.specs.Related.{Map, Grows, GrowsWith, Each, none, Same, nil, truth, number, text, table, closure, builtin, markup, SameEntries, tables, Stands, Moved}
use Rattle.lua_heap.proofs.Entries.{set-related}
use Rattle.lua_heap.proofs.Carried.{same-grows}
use Rattle.lua_heap.proofs.Steps.{extend, extend-at, moved-add, moved-then}
use Rattle.lua_heap.proofs.Changes.{moved-set_meta}
use Rattle.lua_meaning.specs.Scope.{Bytes}
use Rattle.lua_meaning.specs.Acts.{Parent}
use Rattle.lua_meaning.specs.Frames.{is_place, arg_key, arg_entries, by_key, args_index, argument_expand, args_meta, frame_meta, frame_entries, with_table, make_frame, new_frame}
use Rattle.lua_meaning.specs.Modules.{strict_meta}
use Rattle.lua_library_agree.specs.Same.{SameFrame, SamePlain}
use Rattle.lua_library_agree.specs.Laws.{strict_heap}
use Rattle.lua_library_agree.proofs.Values.{one-each, second-same, each-widen, SameTab, a_table-same}
use Rattle.lua_library_agree.proofs.Heaps.{entry-more, one-one, item-same, giving, branch, with-argument}

-- KEYS of arguments
number_or_text : {m : Map} (b : Bool) (n : ℕ) (t : Bytes) → Same m (if b then Number (pos n) else Text t) (if b then Number (pos n) else Text t)
number_or_text true n t = number (pos n)
number_or_text false n t = text t

arg_key-same : {m : Map} (name : Bytes) → Same m (arg_key name) (arg_key name)
arg_key-same name = number_or_text (is_place name) _ name

-- TWO NEW TABLES, of which the second is the metatable of the first. The first is made with none, and then gets it.
abbrev pub pair_of : {X : Type 0} → Heap X → Entries → Entries → Heap X
pair_of h es ms = with_table (with_table h es (Table (length h.tables + 1))) ms Nil

abbrev plain_table : Entries → Contents Value
plain_table es = record { entries = es; meta = Nil; frozen = false }

set-seam : {A : Type 0} (xs : List A) (a b c : A) → slice_set ((xs ++ a ∷ []) ++ b ∷ []) (length xs) c ≡ (xs ++ c ∷ []) ++ b ∷ []
set-seam [] a b c = refl
set-seam {A} (x ∷ xs) a b c = ap {A = List A} {B = List A} (λ ys. x ∷ ys) (set-seam xs a b c)

at-seam : {A : Type 0} (xs : List A) (a b d : A) → slice_index_or ((xs ++ a ∷ []) ++ b ∷ []) (length xs) d ≡ a
at-seam [] a b d = refl
at-seam (x ∷ xs) a b d = at-seam xs a b d

length-two : {A : Type 0} (xs : List A) (a b : A) → length ((xs ++ a ∷ []) ++ b ∷ []) ≡ length xs + 2
length-two xs a b = omega (arith, length-append xs (a ∷ []), length-append (xs ++ a ∷ []) (b ∷ []))

length-one : {A : Type 0} (xs : List A) (a : A) → length (xs ++ a ∷ []) ≡ length xs + 1
length-one xs a = omega (arith, length-append xs (a ∷ []))

late-meta : {X : Type 0} (h : Heap X) (es ms : Entries) (v : Value) →
    set_meta_in (with_table (with_table h es Nil) ms Nil) (length h.tables) v ≡ with_table (with_table h es v) ms Nil
late-meta {X} h es ms v =
    let ts : List (Contents Value) = (h.tables ++ plain_table es ∷ []) ++ plain_table ms ∷ [] in
    ap (λ (t : Contents Value). let u : Heap X = record h { tables = slice_set ts (length h.tables) (record t { meta = v }) } in u) (at-seam h.tables (plain_table es) (plain_table ms) empty_table)
    ∙ ap (λ (us : List (Contents Value)). let u : Heap X = record h { tables = us } in u) (set-seam h.tables (plain_table es) (plain_table ms) (record { entries = es; meta = v; frozen = false }))

module _ {X Y : Type 0} (R : Map → X → Y → Type 0) (up : GrowsWith R) where
  -- one new table
  pub record NewTable (m : Map) (h : Heap X) (s : Heap Y) (i : Heap X) (t : Heap Y) : Type 0 where
    pub names : Map
    pub moved : Moved R m names h i s t
    pub at : names.to (tab (length h.tables)) ≡ Some (tab (length s.tables))

  pub table-added : (m : Map) (h : Heap X) (s : Heap Y) → Stands R m h s → (es fs : Entries) (v w : Value) → SameEntries m es fs → Same m v w
      → NewTable m h s (with_table h es v) (with_table s fs w)
  table-added m h s st es fs v w e f =
      let a : Contents Value = record { entries = es; meta = v; frozen = false } in
      let b : Contents Value = record { entries = fs; meta = w; frozen = false } in
      record {
        names = extend m (tab (length h.tables)) (tab (length s.tables));
        moved = moved-add R up m h s (TableObj a) (TableObj b) st (tables a b (record { entries = e; meta = f; frozen = refl })) refl;
        at = extend-at m (tab (length h.tables)) (tab (length s.tables));
      }

  pub grown : (m n : Map) (h i : Heap X) (s t : Heap Y) → Moved R m n h i s t → Grows m n
  grown m n h i s t v = v.later.grows

  entries-grow : (m n : Map) → Grows m n → (es fs : Entries) → SameEntries m es fs → SameEntries n es fs
  entries-grow m n g es fs e = each-widen (λ a b r. record { key = same-grows m n _ _ g r.key; value = same-grows m n _ _ g r.value }) e

  -- a pair
  pub pair-added : (m : Map) (h : Heap X) (s : Heap Y) → Stands R m h s → (es fs ms ns : Entries) → SameEntries m es fs → SameEntries m ms ns
      → NewTable m h s (pair_of h es ms) (pair_of s fs ns)
  pair-added m h s st es fs ms ns e f =
      let a = table-added m h s st es fs Nil Nil e nil in
      let b = table-added a.names (with_table h es Nil) (with_table s fs Nil) a.moved.stands ms ns Nil Nil (entries-grow m a.names a.moved.later.grows ms ns f) nil in
      let first = b.moved.later.grows _ _ a.at in
      let second = subst (λ (k : ℕ). b.names.to (tab k) ≡ Some (tab (length s.tables + 1))) (length-one h.tables (plain_table es))
      (subst (λ (l : ℕ). b.names.to (tab (length (with_table h es Nil).tables)) ≡ Some (tab l)) (length-one s.tables (plain_table fs)) b.at) in
      let c = moved-set_meta R b.names (with_table (with_table h es Nil) ms Nil) (with_table (with_table s fs Nil) ns Nil) (length h.tables) (length s.tables) (Table (length h.tables + 1)) (Table (length s.tables + 1))
      b.moved.stands first (ap (λ (t : Contents Value). t.frozen) (at-seam s.tables (plain_table fs) (plain_table ns) empty_table)) (table _ _ second) in
      let d = moved-then R m a.names b.names h _ _ s _ _ a.moved b.moved in
      let all = moved-then R m b.names b.names h _ _ s _ _ d c in
      record {
        names = b.names;
        moved = subst (λ i. Moved R m b.names h i s (pair_of s fs ns)) (late-meta h es ms (Table (length h.tables + 1)))
            (subst (λ t. Moved R m b.names h (set_meta_in (with_table (with_table h es Nil) ms Nil) (length h.tables) (Table (length h.tables + 1))) s t) (late-meta s fs ns (Table (length s.tables + 1))) all);
        at = first;
      }

  -- A FRAME: its arguments with their metatable, then the frame with its own
  arg_entries-same : (m : Map) (h : Heap X) (s : Heap Y) → Stands R m h s → (args : List Arg) (es fs : Entries) → SameEntries m es fs → SameEntries m (arg_entries args es) (arg_entries args fs)
  arg_entries-same m h s st [] es fs e = e
  arg_entries-same m h s st (a ∷ args) es fs e = arg_entries-same m h s st args _ _ (set-related m (one-one R m h s st) es fs _ _ _ _ e (arg_key-same a.name) (text a.value))

  args_meta-same : (m : Map) → SameEntries m args_meta args_meta
  args_meta-same m = entry-more (text _) (truth _) (entry-more (text _) (builtin _) none)

  frame_meta-same : (m : Map) (number_ : ℕ) → SameEntries m (frame_meta number_) (frame_meta number_)
  frame_meta-same m k = entry-more (number _) (number _) (entry-more (text _) (truth _) none)

  frame_entries-same : (m : Map) (a b : ℕ) → SameTab m a b → SameEntries m (frame_entries a) (frame_entries b)
  frame_entries-same m a b e =
      entry-more (text _) (table a b e)
      (entry-more (text _) (builtin _) (entry-more (text _) (builtin _) (entry-more (text _) (builtin _) (entry-more (text _) (builtin _)
      (entry-more (text _) (builtin _) (entry-more (text _) (builtin _) (entry-more (text _) (builtin _) (entry-more (text _) (builtin _) none))))))))

  abbrev args_pair : {Z : Type 0} → Heap Z → Scene → Heap Z
  args_pair h scene = pair_of h (arg_entries scene.args []) args_meta

  made-of_pairs : {Z : Type 0} (h : Heap Z) (scene : Scene) (k : ℕ) → pair_of (args_pair h scene) (frame_entries (length h.tables)) (frame_meta k) ≡ make_frame scene k h
  made-of_pairs h scene k =
      ap (λ (n : ℕ). with_table (with_table (args_pair h scene) (frame_entries (length h.tables)) (Table n)) (frame_meta k) Nil)
      (omega (arith, length-two h.tables (record { entries = arg_entries scene.args []; meta = Table (length h.tables + 1); frozen = false }) (plain_table args_meta)))

  frame_at : {Z : Type 0} (h : Heap Z) (scene : Scene) → length (args_pair h scene).tables ≡ length h.tables + 2
  frame_at h scene = length-two h.tables _ _

  pub frame-made : (m : Map) (h : Heap X) (s : Heap Y) → Stands R m h s → (scene : Scene) (k : ℕ) (parent : Parent)
      → (n : Map) × Moved R m n h (make_frame scene k h) s (make_frame scene k s) × SameFrame n (new_frame h scene parent) (new_frame s scene parent)
  frame-made m h s st scene k parent =
      let a = pair-added m h s st _ _ _ _ (arg_entries-same m h s st scene.args [] [] none) (args_meta-same m) in
      let b = pair-added a.names (args_pair h scene) (args_pair s scene) a.moved.stands _ _ _ _ (frame_entries-same a.names (length h.tables) (length s.tables) a.at) (frame_meta-same a.names k) in
      let both_ = moved-then R m a.names b.names h _ _ s _ _ a.moved b.moved in
      let at_ = subst (λ (i : ℕ). b.names.to (tab i) ≡ Some (tab (length s.tables + 2))) (frame_at h scene)
      (subst (λ (j : ℕ). b.names.to (tab (length (args_pair h scene).tables)) ≡ Some (tab j)) (frame_at s scene) b.at) in (
        b.names,
        subst (λ i. Moved R m b.names h i s (make_frame scene k s)) (made-of_pairs h scene k)
            (subst (λ t. Moved R m b.names h (pair_of (args_pair h scene) (frame_entries (length h.tables)) (frame_meta k)) s t) (made-of_pairs s scene k) both_),
        record { scene = refl; table = table _ _ at_; parent = refl },
      )

  -- `require('strict')`
  pub strict-made : (m : Map) (h : Heap X) (s : Heap Y) → Stands R m h s → (a b : ℕ) → SameTab m a b → (table_at s b).frozen ≡ false
      → (n : Map) × Moved R m n h (strict_heap h a) s (strict_heap s b)
  strict-made m h s st a b e open_ =
      let c = table-added m h s st strict_meta strict_meta Nil Nil (entry-more (text _) (builtin _) (entry-more (text _) (builtin _) none)) nil in
      let d = moved-set_meta R c.names (with_table h strict_meta Nil) (with_table s strict_meta Nil) a b (Table (length h.tables)) (Table (length s.tables)) c.moved.stands
      (c.moved.later.grows _ _ e) (open-in s.tables (record { entries = strict_meta; meta = Nil; frozen = false }) b refl open_) (table _ _ c.at) in
      (c.names, moved-then R m c.names c.names h _ _ s _ _ c.moved d)
    where
      open-in : (ts : List (Contents Value)) (t : Contents Value) (k : ℕ) → t.frozen ≡ false → (slice_index_or ts k empty_table).frozen ≡ false → (slice_index_or (ts ++ t ∷ []) k empty_table).frozen ≡ false
      open-in [] t zero p q = p
      open-in [] t (suc k) p q = q
      open-in (u ∷ ts) t zero p q = q
      open-in (u ∷ ts) t (suc k) p q = open-in ts t k p q

module _ {X Y : Type 0} (R : Map → X → Y → Type 0) (m : Map) (h : Heap X) (s : Heap Y) (st : Stands R m h s) where
  -- `args[k]` where k is absent, and `expand`
  by_key-same : (a b : ℕ) (k l : Value) → SameTab m a b → Same m k l → SamePlain R m h s (by_key h a k) (by_key s b l)
  by_key-same a b _ _ e nil = giving R m h s st (one-each nil)
  by_key-same a b _ _ e (truth x) = giving R m h s st (one-each nil)
  by_key-same a b _ _ e (number x) = giving R m h s st (one-each nil)
  by_key-same a b _ _ e (text name) =
      branch R m h s st (is_place name) (is_place name) refl (λ _. giving R m h s st (one-each (item-same R m h s st a b _ _ e (arg_key-same name)))) (λ _. giving R m h s st (one-each nil))
  by_key-same a b _ _ e (table x y f) = giving R m h s st (one-each nil)
  by_key-same a b _ _ e (closure x y f) = giving R m h s st (one-each nil)
  by_key-same a b _ _ e (builtin x) = giving R m h s st (one-each nil)
  by_key-same a b _ _ e (markup x y f) = giving R m h s st (one-each nil)

  pub args_index-same : (vs ws : List Value) → Each (Same m) vs ws → SamePlain R m h s (args_index vs h) (args_index ws s)
  args_index-same vs ws e = with-argument R m h s st _ _ (a_table-same 1 (codes "args") e) (λ a b x. by_key-same a b _ _ x (second-same e))

  pub argument_expand-same : (vs ws : List Value) → Each (Same m) vs ws → SamePlain R m h s (argument_expand vs h) (argument_expand ws s)
  argument_expand-same vs ws e = with-argument R m h s st _ _ (a_table-same 1 (codes "expand") e) (λ a b x. giving R m h s st (one-each (item-same R m h s st a b _ _ x (text (codes "value")))))
