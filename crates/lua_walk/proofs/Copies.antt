-- A copy is made of new tables alone.
use Rattle.std.proofs.Common.{◌≡◌, ℕ, zero, suc, true, false, List, [], ◌∷◌, ◌++◌, length, map, Option, Some, None, slice_get, refl, sym, ◌∙◌, ap, subst}
use Rattle.std.proofs.lemmas.Option.{slice_get_within}
use Rattle.std.specs.Option.{option_map}
use Rattle.lua_heap.specs.LuaTableEntries.{Contents}
use Rattle.lua_heap.specs.Value.{Value, Nil, Truth, Number, Text, Table, Closure, Builtin, Markup}
use Rattle.lua_heap.specs.Heap.{Heap, Ref, tab, cel, clo, mar, Obj, TableObj, look, table_at, IsShared}
use Rattle.lua_heap.specs.Reach.{nowhere, Frame, FreezesNone}
use Rattle.lua_heap.proofs.Places.{some_back, part, part-below, get-part, get-first, of-some_back}
use Rattle.lua_walk.specs.Order.{reached}
use Rattle.lua_walk.specs.Copy.{copied_table, copies, copied}

-- a heap with more tables
abbrev pub with_tables : {X : Type 0} → Heap X → List (Contents Value) → Heap X
with_tables h ts = record h { tables = h.tables ++ ts }

pub look-old : {X : Type 0} (h : Heap X) (ts : List (Contents Value)) (q : Ref) (a : Obj X) → look h q ≡ Some a → look (with_tables h ts) q ≡ Some a
look-old h ts (cel i) a e = e
look-old h ts (clo i) a e = e
look-old h ts (mar i) a e = e
look-old h ts (tab i) a e =
    let b = of-some_back TableObj (slice_get h.tables i) a e in
    let f : part (length h.tables) i ≡ None = part-below (length h.tables) i (slice_get_within h.tables i b.0 b.1) in
    ap (λ o. option_map TableObj o) (get-first h.tables ts i f) ∙ e

-- a table of the copies can be written
copy-plain : {X : Type 0} (h : Heap X) (order order' : List ℕ) (j : ℕ) (c : Contents Value) → slice_get (map (λ n. copied_table (length h.tables) order (table_at h n)) order') j ≡ Some c → c.frozen ≡ false
copy-plain h order [] j c e = cc
copy-plain h order (n ∷ ns) zero c e = ap (λ (t : Contents Value). t.frozen) (sym (some_back e))
copy-plain h order (n ∷ ns) (suc j) c e = copy-plain h order ns j c e

not-shared : {X : Type 0} (c : Contents Value) (a : Obj X) → TableObj c ≡ a → c.frozen ≡ false → IsShared a → ⊥
not-shared c a f p s = let t : c.frozen ≡ true = subst IsShared (sym f) s in cc

-- so what is read-only was there
pub shared-old : {X : Type 0} (h : Heap X) (order : List ℕ) (q : Ref) (a : Obj X) → look (with_tables h (copies h order)) q ≡ Some a → IsShared a → look h q ≡ Some a
shared-old h order (cel i) a e s = e
shared-old h order (clo i) a e s = e
shared-old h order (mar i) a e s = e
shared-old h order (tab i) a e s = go (part (length h.tables) i) refl
  where
    go : (o : Option ℕ) → part (length h.tables) i ≡ o → look h (tab i) ≡ Some a
    go None f = sym (ap (λ o. option_map TableObj o) (get-first h.tables (copies h order) i f)) ∙ e
    go (Some j) f =
        let g : option_map TableObj (slice_get (copies h order) j) ≡ Some a = sym (ap (λ o. option_map TableObj o) (get-part h.tables (copies h order) i j f)) ∙ e in
        let b = of-some_back TableObj (slice_get (copies h order) j) a g in
        absurd (not-shared b.0 a b.2 (copy-plain h order order j b.0 b.1) s)

same-frame : {X : Type 0} (h : Heap X) → Frame nowhere h h
same-frame h = record { lives = λ r b e. (b, e); others = λ r b e f. e; shared = λ r b e f. e }

pub copy-changes : {X : Type 0} (h : Heap X) (v : Value) → Frame nowhere h (copied h v).0 × FreezesNone h (copied h v).0
copy-changes h (Table t) = (
  record {
    lives = λ r b e. (b, look-old h (copies h (reached h t)) r b e);
    others = λ r b e f. look-old h (copies h (reached h t)) r b e;
    shared = λ r b e f. look-old h (copies h (reached h t)) r b e;
  },
  shared-old h (reached h t),
)
copy-changes h Nil = (same-frame h, λ r b e f. e)
copy-changes h (Truth b) = (same-frame h, λ r b e f. e)
copy-changes h (Number n) = (same-frame h, λ r b e f. e)
copy-changes h (Text t) = (same-frame h, λ r b e f. e)
copy-changes h (Closure c) = (same-frame h, λ r b e f. e)
copy-changes h (Builtin b) = (same-frame h, λ r b e f. e)
copy-changes h (Markup m) = (same-frame h, λ r b e f. e)
