-- A fresh environment stands for a fresh environment, table by table: its tables name none but one another.
use Rattle.std.proofs.Common.{◌≡◌, ℕ, zero, suc, ◌&&◌, Bool, true, false, List, [], ◌∷◌, map, Option, Some, None, is_some, slice_get, refl, ap, subst}
use Rattle.std.specs.Option.{option_map}
use Rattle.lua_heap.specs.LuaTableEntries.{Contents}
use Rattle.lua_heap.specs.Value.{Value, Nil, Truth, Number, Text, Table, Closure, Builtin, Markup}
use Rattle.lua_heap.specs.Table.{Entries}
use Rattle.lua_heap.specs.Heap.{Ref, tab, cel, clo, mar, Obj, TableObj, look}
use Rattle.lua_heap.specs.Related.{Map, none, Same, nil, truth, number, text, table, builtin, SameEntries, SameObj, tables}
use Rattle.lua_heap.proofs.Places.{some_back}
use Rattle.lua_meaning.specs.Home.{home_tables, home_heap}
use Rattle.lua_library_agree.specs.Laws.{HomesAgree}
use Rattle.lua_library_agree.proofs.Heaps.{entry-more}

-- each of the tables goes to itself
abbrev named : ℕ → Option Entries → Option Ref
named n (Some es) = Some (tab n)
named n None = None

abbrev own : Ref → Option Ref
own (tab n) = named n (slice_get home_tables n)
own _ = None

abbrev homes : Map
homes = record { to = own; from = own }

own-back : (q r : Ref) → own q ≡ Some r → own r ≡ Some q
own-back (tab n) r e = go (slice_get home_tables n) refl e
  where
    go : (o : Option Entries) → slice_get home_tables n ≡ o → named n o ≡ Some r → own r ≡ Some (tab n)
    go (Some es) is f = subst (λ q. own q ≡ Some (tab n)) (some_back f) (ap (named n) is)
    go None is f = cc
own-back (cel n) r e = cc
own-back (clo n) r e = cc
own-back (mar n) r e = cc

-- a value that names none but them
abbrev is_own : Value → Bool
is_own (Table t) = is_some (slice_get home_tables t)
is_own (Closure c) = false
is_own (Markup n) = false
is_own v = true

abbrev all_own : Entries → Bool
all_own [] = true
all_own (e ∷ es) = (is_own e.0 && is_own e.1) && all_own es

abbrev each_own : List Entries → Bool
each_own [] = true
each_own (es ∷ more) = all_own es && each_own more

parts : (a b : Bool) → (a && b) ≡ true → (a ≡ true) × (b ≡ true)
parts true b e = (refl, e)
parts false b e = cc

own-table : (t : ℕ) (o : Option Entries) → slice_get home_tables t ≡ o → is_some o ≡ true → own (tab t) ≡ Some (tab t)
own-table t (Some es) is e = ap (named t) is
own-table t None is e = cc

own-value : (v : Value) → is_own v ≡ true → Same homes v v
own-value Nil e = nil
own-value (Truth b) e = truth b
own-value (Number n) e = number n
own-value (Text t) e = text t
own-value (Table t) e = table t t (own-table t (slice_get home_tables t) refl e)
own-value (Closure c) e = absurd cc
own-value (Builtin which) e = builtin which
own-value (Markup n) e = absurd cc

own-entries : (es : Entries) → all_own es ≡ true → SameEntries homes es es
own-entries [] e = none
own-entries (x ∷ es) e =
    let p = parts (is_own x.0 && is_own x.1) (all_own es) e in
    let q = parts (is_own x.0) (is_own x.1) p.0 in
    entry-more (own-value x.0 q.0) (own-value x.1 q.1) (own-entries es p.1)

-- the table with these entries
abbrev plain_table : Entries → Contents Value
plain_table es = record { entries = es; meta = Nil; frozen = false }

found : (ts : List Entries) → each_own ts ≡ true → (n : ℕ) (es : Entries) → slice_get ts n ≡ Some es
    → (slice_get (map plain_table ts) n ≡ Some (plain_table es)) × SameEntries homes es es
found [] ok n es e = cc
found (t ∷ ts) ok zero es e = (ap (option_map plain_table) e, subst (λ us. SameEntries homes us us) (some_back e) (own-entries t (parts (all_own t) (each_own ts) ok).0))
found (t ∷ ts) ok (suc n) es e = found ts (parts (all_own t) (each_own ts) ok).1 n es e

module _ {X Y : Type 0} (R : Map → X → Y → Type 0) where
  abbrev Held : Ref → Ref → Type 0
  Held q r = (a : Obj X) × (b : Obj Y) × (look home_heap q ≡ Some a) × (look home_heap r ≡ Some b) × SameObj R homes a b

  held : (n : ℕ) (r : Ref) (o : Option Entries) → slice_get home_tables n ≡ o → named n o ≡ Some r → Held (tab n) r
  held n r (Some es) is e =
      let k = found home_tables refl n es is in
      let t : SameObj R homes (TableObj (plain_table es)) (TableObj (plain_table es)) = tables _ _ (record { entries = k.1; meta = nil; frozen = refl }) in
      subst (Held (tab n)) (some_back e) (_, _, ap (option_map TableObj) k.0, ap (option_map TableObj) k.0, t)
  held n r None is e = cc

  homes-hold : (q r : Ref) → own q ≡ Some r → Held q r
  homes-hold (tab n) r e = held n r (slice_get home_tables n) refl e
  homes-hold (cel n) r e = cc
  homes-hold (clo n) r e = cc
  homes-hold (mar n) r e = cc

  pub homes_agree : HomesAgree R
  homes_agree = (homes, record { forth = own-back; back = λ q r e. own-back r q e; holds = homes-hold }, refl, refl)
