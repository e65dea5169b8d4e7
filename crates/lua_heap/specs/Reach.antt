-- SETS OF OBJECTS OF A HEAP: what objects name, closed sets, what is reached, and what is owned.
-- `names` gives the objects that a function's content names.
use Rattle.std.specs.Prelude.{◌≡◌, ℕ, Bool, false, List, [], ◌∷◌, ◌++◌, map, Option, Some, None, IsTrue, if◌then◌else◌, ◌||◌, ◌&&◌, is_some, is_none}
use Rattle.std.specs.List.{AllByRecursion, Contains, flat_map}
use Rattle.lua_table.specs.Entries.{Contents}
use Rattle.lua_heap.specs.Value.{Value, Table, Closure, Markup}
use Rattle.lua_heap.specs.Related.{Map}
use Rattle.lua_heap.specs.Heap.{Closed, Function, Iterator, MarkupChild, ChildText, ChildNode, MarkupNode, Heap, Ref, tab, cel, clo, mar, Obj, TableObj, CellObj, ClosureObj, MarkupObj, look, is_shared, IsShared}

-- WHAT IS NAMED
abbrev pub value_names : Value → List Ref
value_names (Table t) = tab t ∷ []
value_names (Closure c) = clo c ∷ []
value_names (Markup n) = mar n ∷ []
value_names _ = []

abbrev pub values_names : List Value → List Ref
values_names vs = flat_map value_names vs

abbrev pub entry_names : Value × Value → List Ref
entry_names e = value_names e.0 ++ value_names e.1

-- keys, also of cleared entries, values, and the metatable
abbrev pub table_names : Contents Value → List Ref
table_names t = flat_map entry_names t.entries ++ value_names t.meta

abbrev pub closed_names : {X : Type 0} → (X → List Ref) → Closed X → List Ref
closed_names names (Function x) = names x
closed_names names (Iterator step cells) = map cel cells

abbrev pub child_names : MarkupChild → List Ref
child_names (ChildText bytes) = []
child_names (ChildNode n) = mar n ∷ []

abbrev pub parent_names : Option ℕ → List Ref
parent_names None = []
parent_names (Some n) = mar n ∷ []

abbrev pub node_names : MarkupNode → List Ref
node_names n = parent_names n.parent ++ flat_map child_names n.children

abbrev pub obj_names : {X : Type 0} → (X → List Ref) → Obj X → List Ref
obj_names names (TableObj t) = table_names t
obj_names names (CellObj v) = value_names v
obj_names names (ClosureObj c) = closed_names names c
obj_names names (MarkupObj n) = node_names n

-- SETS
abbrev pub Set : Type 0
Set = Ref → Bool

abbrev pub nowhere : Set
nowhere r = false

abbrev pub union : Set → Set → Set
union S K r = S r || K r

-- all of these are in the set
abbrev pub AllIn : Set → List Ref → Type 0
AllIn S refs = AllByRecursion (λ r. IsTrue (S r)) refs

abbrev pub is_there : {X : Type 0} → Heap X → Set
is_there s r = is_some (look s r)

abbrev pub shared_object : {X : Type 0} → Option (Obj X) → Bool
shared_object None = false
shared_object (Some o) = is_shared o

-- the read-only tables of a heap
abbrev pub shared_at : {X : Type 0} → Heap X → Set
shared_at s r = shared_object (look s r)

-- the set, and the read-only tables
abbrev pub with_shared : {X : Type 0} → Set → Heap X → Set
with_shared S s r = S r || shared_at s r

-- the set without them
abbrev pub without_shared : {X : Type 0} → Set → Heap X → Set
without_shared S s r = if shared_at s r then false else S r

-- the set, and what is in the second heap and not in the first
abbrev pub with_new : {X : Type 0} → Set → Heap X → Heap X → Set
with_new S s t r = S r || (is_none (look s r) && is_some (look t r))

-- the objects of the second heap that stand for something
abbrev pub image : Map → Set
image m r = is_some (m.from r)

-- each name of the set to itself
abbrev pub itself : Set → Map
itself S = record { to = λ q. if S q then Some q else None; from = λ q. if S q then Some q else None }

-- the map cut down to what stands in the set
abbrev pub kept_in : Set → Option Ref → Option Ref
kept_in S None = None
kept_in S (Some r) = if S r then Some r else None

abbrev pub cut : Set → Map → Map
cut S m = record { to = λ q. kept_in S (m.to q); from = λ r. if S r then m.from r else None }

-- two sets meet in read-only tables alone
abbrev pub MeetShared : {X : Type 0} → Heap X → Set → Set → Type 0
MeetShared s S T = (r : Ref) → IsTrue (S r) → IsTrue (T r) → IsTrue (shared_at s r)

-- from s to t nothing outside of the set changes, and no read-only table; nothing goes away
pub record Frame {X : Type 0} (S : Set) (s t : Heap X) : Type 0 where
  pub lives : (r : Ref) (b : Obj X) → look s r ≡ Some b → (c : Obj X) × (look t r ≡ Some c)
  pub others : (r : Ref) (b : Obj X) → look s r ≡ Some b → S r ≡ false → look t r ≡ Some b
  pub shared : (r : Ref) (b : Obj X) → look s r ≡ Some b → IsShared b → look t r ≡ Some b

-- no table becomes read-only
abbrev pub FreezesNone : {X : Type 0} → Heap X → Heap X → Type 0
FreezesNone {X} s t = (r : Ref) (b : Obj X) → look t r ≡ Some b → IsShared b → look s r ≡ Some b

module _ {X : Type 0} (names : X → List Ref) where
  -- a set of objects of the heap that holds whatever its objects name
  pub record IsClosed (S : Set) (s : Heap X) : Type 0 where
    pub there : (r : Ref) → IsTrue (S r) → (a : Obj X) × (look s r ≡ Some a) × AllIn S (obj_names names a)

  -- whatever an object of the heap names is there
  abbrev pub IsClosedHeap : Heap X → Type 0
  IsClosedHeap s = IsClosed (is_there s) s

  -- WHAT IS REACHED from the roots, through read-only tables too: it is in every closed set that has the roots.
  abbrev pub IsReached : Heap X → List Ref → Ref → Type 0
  IsReached s roots r = (S : Set) → IsClosed S s → AllIn S roots → IsTrue (S r)

  -- the same by steps from object to object
  pub data Leads (s : Heap X) (roots : List Ref) : Ref → Type 0 where
    root : (r : Ref) → Contains roots r → Leads s roots r
    step : (q r : Ref) (a : Obj X) → Leads s roots q → look s q ≡ Some a → Contains (obj_names names a) r → Leads s roots r

  -- a set of objects that can be written or are no tables, and that name only each other and read-only tables
  pub record IsOwnSet (S : Set) (s : Heap X) : Type 0 where
    pub there : (r : Ref) → IsTrue (S r) → (a : Obj X) × (look s r ≡ Some a) × (is_shared a ≡ false) × AllIn (with_shared S s) (obj_names names a)

  -- WHAT IS OWNED: what is reached from the roots without entering a read-only table; these are not in it.
  abbrev pub Own : Heap X → List Ref → Ref → Type 0
  Own s roots r = (S : Set) → IsOwnSet S s → AllIn (with_shared S s) roots → IsTrue (S r)

  -- the same by steps
  pub data OwnLeads (s : Heap X) (roots : List Ref) : Ref → Type 0 where
    own_root : (r : Ref) → Contains roots r → shared_at s r ≡ false → OwnLeads s roots r
    own_step : (q r : Ref) (a : Obj X) → OwnLeads s roots q → look s q ≡ Some a → Contains (obj_names names a) r → shared_at s r ≡ false → OwnLeads s roots r

  -- each read-only table names read-only tables alone
  abbrev pub IsDeep : Heap X → Type 0
  IsDeep s = (r : Ref) (a : Obj X) → look s r ≡ Some a → IsShared a → AllIn (shared_at s) (obj_names names a)

-- what R says of a function hangs on the names of its content alone
abbrev pub LooksAtNames : {X Y : Type 0} → (Map → X → Y → Type 0) → (Y → List Ref) → Type 0
LooksAtNames {X} {Y} R names = (m n : Map) (S : Set) → ((q r : Ref) → m.to q ≡ Some r → IsTrue (S r) → n.to q ≡ Some r)
    → (a : X) (b : Y) → R m a b → AllIn S (names b) → R n a b

-- each name of a content that stands for another one stands for something
abbrev pub NamesStand : {X Y : Type 0} → (Map → X → Y → Type 0) → (Y → List Ref) → Type 0
NamesStand {X} {Y} R names = (m : Map) (S : Set) → ((q r : Ref) → m.to q ≡ Some r → IsTrue (S r)) → (a : X) (b : Y) → R m a b → AllIn S (names b)

-- a content stands for itself where its names do
abbrev pub StandsForItself : {X : Type 0} → (Map → X → X → Type 0) → (X → List Ref) → Type 0
StandsForItself {X} R names = (m : Map) (S : Set) → ((r : Ref) → IsTrue (S r) → m.to r ≡ Some r) → (a : X) → AllIn S (names a) → R m a a
