-- Where the keys differ and no value is nil, the sets of a table give its entries.
use Rattle.std.proofs.Common.{◌≡◌, ℕ, Bool, true, false, true≢false, [], ◌∷◌, ◌++◌, length, map, refl, sym, ap, ◌∙◌, subst, append_assoc, append-nil}
use Rattle.std.specs.Prelude.{if◌then◌else◌}
use Rattle.std.specs.List.{AllByRecursion, IsDistinct}
use Rattle.std.specs.Map.{keys_of}
use Rattle.lua_walk.specs.LuaHeapValue.{Value, Nil, Truth, Number, Text, Table, Closure, Builtin, Markup, same, is_nil}
use Rattle.lua_store.specs.LuaHeapTable.{Entries, set, HasValueKeys}
use Rattle.lua_walk.specs.LuaHeapGraph as plain
use Rattle.lua_walk.specs.LuaHeapGraph.{IsKey, IsItem, IsDatum, IsGraph, shift, shift_entries}
use Rattle.lua_walk.proofs.LuaHeapValues.{same-alike, same-true}
use Rattle.lua_graph.proofs.Joining.{all_set}

abbrev Differs : Value → Value × Value → Type 0
Differs key e = same key e.0 ≡ false

abbrev pub IsLive : Value × Value → Type 0
IsLive e = is_nil e.1 ≡ false

turned : (v w : Value) → same v w ≡ false → same w v ≡ false
turned v w h = go (same w v) refl
  where
    go : (b : Bool) → same w v ≡ b → same w v ≡ false
    go false e = e
    go true e = absurd (true≢false (sym (ap (same v) (same-true w v e) ∙ same-alike v) ∙ h))

set_new : (es : Entries) (key value : Value) → AllByRecursion (Differs key) es → is_nil value ≡ false → set es key value ≡ es ++ (key, value) ∷ []
set_new [] key Nil a h = absurd (true≢false h)
set_new [] key (Truth b) a h = refl
set_new [] key (Number n) a h = refl
set_new [] key (Text t) a h = refl
set_new [] key (Table t) a h = refl
set_new [] key (Closure t) a h = refl
set_new [] key (Builtin t) a h = refl
set_new [] key (Markup t) a h = refl
set_new (e ∷ es) key value a h =
    ap (λ b. if b then (e.0, value) ∷ es else e ∷ set es key value) a.0 ∙ ap (λ l. e ∷ l) (set_new es key value a.1 h)

picked : (P : Value → Type 0) (es fs : Entries) (e : Value × Value) → AllByRecursion P (keys_of (es ++ (e ∷ fs))) → P e.0
picked P [] fs e a = a.0
picked P (d ∷ es) fs e a = picked P es fs e a.1

apart : (es fs : Entries) (e : Value × Value) → IsDistinct same (keys_of (es ++ (e ∷ fs))) → AllByRecursion (Differs e.0) es
unfolding IsDistinct
apart [] fs e d = tt
apart (x ∷ es) fs e d = (turned x.0 e.0 (picked (λ k. same x.0 k ≡ false) es fs e d.0), apart es fs e d.1)

pub all_set-is : (done es : Entries) → AllByRecursion IsLive es → IsDistinct same (keys_of (done ++ es)) → all_set done es ≡ done ++ es
all_set-is done [] h d = sym (append-nil done)
all_set-is done (e ∷ es) h d =
    ap (λ l. all_set l es) (set_new done e.0 e.1 (apart done es e d) h.0)
    ∙ all_set-is (done ++ e ∷ []) es h.1 (subst (λ l. IsDistinct same (keys_of l)) (sym (append_assoc done (e ∷ []) es)) d)
    ∙ append_assoc done (e ∷ []) es

-- of a graph
key-kept : (k : ℕ) (v : Value) → IsKey v → shift k v ≡ v
key-kept k (Truth b) h = refl
key-kept k (Number n) h = refl
key-kept k (Text t) h = refl
key-kept k Nil h = absurd h
key-kept k (Table t) h = absurd h
key-kept k (Closure t) h = absurd h
key-kept k (Builtin t) h = absurd h
key-kept k (Markup t) h = absurd h

item-held : (n k : ℕ) (v : Value) → IsItem n v → is_nil (shift k v) ≡ false
item-held n k (Truth b) h = refl
item-held n k (Number m) h = refl
item-held n k (Text t) h = refl
item-held n k (Table t) h = refl
item-held n k Nil h = absurd h
item-held n k (Closure t) h = absurd h
item-held n k (Builtin t) h = absurd h
item-held n k (Markup t) h = absurd h

keys-kept : (n k : ℕ) (es : Entries) → AllByRecursion (IsDatum n) es → keys_of (shift_entries k es) ≡ keys_of es
keys-kept n k [] a = refl
keys-kept n k (e ∷ es) a = ap (λ v. v ∷ keys_of (shift_entries k es)) (key-kept k e.0 a.0.0) ∙ ap (λ vs. e.0 ∷ vs) (keys-kept n k es a.1)

items-held : (n k : ℕ) (es : Entries) → AllByRecursion (IsDatum n) es → AllByRecursion IsLive (shift_entries k es)
items-held n k [] a = tt
items-held n k (e ∷ es) a = (item-held n k e.1 a.0.1, items-held n k es a.1)

entries-set : (n k : ℕ) (g : plain.Graph) → AllByRecursion (AllByRecursion (IsDatum n)) g → AllByRecursion HasValueKeys g
    → AllByRecursion (λ es. all_set [] es ≡ es) (map (shift_entries k) g)
entries-set n k [] a h = tt
entries-set n k (es ∷ g) a h =
    (all_set-is [] (shift_entries k es) (items-held n k es a.0) (subst (IsDistinct same) (sym (keys-kept n k es a.0)) h.0.distinct), entries-set n k g a.1 h.1)

pub graph-set : (k : ℕ) (g : plain.Graph) → IsGraph g → AllByRecursion (λ es. all_set [] es ≡ es) (map (shift_entries k) g)
graph-set k g w = entries-set (length g) k g w.data_ w.keys
