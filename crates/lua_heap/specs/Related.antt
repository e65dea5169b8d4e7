-- HOW THE OBJECTS OF ONE HEAP STAND IN ANOTHER, under a map of names. The first heap is that of a meaning, or a graph
-- of data, or a set of objects of the second one; the second is a store. R relates what their functions hold.
use Rattle.std.specs.Prelude.{◌≡◌, ◌⊎◌, ℕ, ℤ, Bool, List, [], ◌∷◌, Option, Some, None}
use Rattle.lua_table.specs.Entries.{Contents}
use Rattle.lua_heap.specs.declared.library.Library.{Library}
use Rattle.lua_heap.specs.Value.{Value, Nil, Truth, Number, Text, Table, Closure, Builtin, Markup}
use Rattle.lua_heap.specs.Table.{Entries}
use Rattle.lua_heap.specs.Heap.{Closed, Function, Iterator, MarkupChild, ChildText, ChildNode, MarkupNode, Heap, Ref, tab, cel, clo, mar, Obj, TableObj, CellObj, ClosureObj, MarkupObj, look, IsShared}

-- which name of the second heap stands for a name of the first, and back; None outside of the domain and the image
pub record Map : Type 0 where
  pub to : Ref → Option Ref
  pub from : Ref → Option Ref

-- the map only grows
abbrev pub Grows : Map → Map → Type 0
Grows m n = (q r : Ref) → m.to q ≡ Some r → n.to q ≡ Some r

-- two lists of one length, related in each place
pub data Each {A B : Type 0} (R : A → B → Type 0) : List A → List B → Type 0 where
  none : Each R [] []
  more : (x : A) (y : B) (xs : List A) (ys : List B) → R x y → Each R xs ys → Each R (x ∷ xs) (y ∷ ys)

-- two options are related: neither holds a value, or both hold related ones
pub data SameOption {A B : Type 0} (R : A → B → Type 0) : Option A → Option B → Type 0 where
  neither : SameOption R None None
  both : (x : A) (y : B) → R x y → SameOption R (Some x) (Some y)

pub record SamePair {A B : Type 0} (R : A → B → Type 0) (a : A × A) (b : B × B) : Type 0 where
  pub key : R a.0 b.0
  pub value : R a.1 b.1

-- no two names go to one
abbrev pub OneToOne : Map → Type 0
OneToOne m = (p q r : Ref) → m.to p ≡ Some r → m.to q ≡ Some r → p ≡ q

-- the second value stands for the first
pub data Same (m : Map) : Value → Value → Type 0 where
  nil : Same m Nil Nil
  truth : (b : Bool) → Same m (Truth b) (Truth b)
  number : (n : ℤ) → Same m (Number n) (Number n)
  text : (bytes : List ℕ) → Same m (Text bytes) (Text bytes)
  table : (a b : ℕ) → m.to (tab a) ≡ Some (tab b) → Same m (Table a) (Table b)
  closure : (a b : ℕ) → m.to (clo a) ≡ Some (clo b) → Same m (Closure a) (Closure b)
  builtin : (which : Library) → Same m (Builtin which) (Builtin which)
  markup : (a b : ℕ) → m.to (mar a) ≡ Some (mar b) → Same m (Markup a) (Markup b)

abbrev pub SameCell : Map → ℕ → ℕ → Type 0
SameCell m a b = m.to (cel a) ≡ Some (cel b)

abbrev pub SameNodeId : Map → ℕ → ℕ → Type 0
SameNodeId m a b = m.to (mar a) ≡ Some (mar b)

abbrev pub SameEntry : Map → Value × Value → Value × Value → Type 0
SameEntry m a b = SamePair (Same m) a b

abbrev pub SameEntries : Map → Entries → Entries → Type 0
SameEntries m es fs = Each (SameEntry m) es fs

pub record SameTable (m : Map) (a b : Contents Value) : Type 0 where
  pub entries : SameEntries m a.entries b.entries
  pub meta : Same m a.meta b.meta
  pub frozen : a.frozen ≡ b.frozen

pub data SameClosed {X Y : Type 0} (R : Map → X → Y → Type 0) (m : Map) : Closed X → Closed Y → Type 0 where
  functions : (a : X) (b : Y) → R m a b → SameClosed R m (Function a) (Function b)
  iterators : (step : Library) (as_ bs : List ℕ) → Each (SameCell m) as_ bs → SameClosed R m (Iterator step as_) (Iterator step bs)

pub data SameChild (m : Map) : MarkupChild → MarkupChild → Type 0 where
  child_text : (bytes : List ℕ) → SameChild m (ChildText bytes) (ChildText bytes)
  child_node : (a b : ℕ) → SameNodeId m a b → SameChild m (ChildNode a) (ChildNode b)

pub record SameNode (m : Map) (a b : MarkupNode) : Type 0 where
  pub name : a.name ≡ b.name
  pub closed : a.closed ≡ b.closed
  pub parent : SameOption (SameNodeId m) a.parent b.parent
  pub attrs : a.attrs ≡ b.attrs
  pub styles : a.styles ≡ b.styles
  pub children : Each (SameChild m) a.children b.children

-- the name is of the object's kind
pub data Fits {X : Type 0} : Ref → Obj X → Type 0 where
  of_table : (n : ℕ) (t : Contents Value) → Fits (tab n) (TableObj t)
  of_cell : (n : ℕ) (v : Value) → Fits (cel n) (CellObj v)
  of_closure : (n : ℕ) (c : Closed X) → Fits (clo n) (ClosureObj c)
  of_markup : (n : ℕ) (node : MarkupNode) → Fits (mar n) (MarkupObj node)

-- the second object stands for the first
pub data SameObj {X Y : Type 0} (R : Map → X → Y → Type 0) (m : Map) : Obj X → Obj Y → Type 0 where
  tables : (a b : Contents Value) → SameTable m a b → SameObj R m (TableObj a) (TableObj b)
  cells : (a b : Value) → Same m a b → SameObj R m (CellObj a) (CellObj b)
  closures : (a : Closed X) (b : Closed Y) → SameClosed R m a b → SameObj R m (ClosureObj a) (ClosureObj b)
  nodes : (a b : MarkupNode) → SameNode m a b → SameObj R m (MarkupObj a) (MarkupObj b)

-- what R says stays true when the map grows
abbrev pub GrowsWith : {X Y : Type 0} → (Map → X → Y → Type 0) → Type 0
GrowsWith {X} {Y} R = (m n : Map) (a : X) (b : Y) → Grows m n → R m a b → R n a b

-- EACH OBJECT OF THE DOMAIN STANDS IN THE SECOND HEAP, with all that its contents name. The map is one to one.
pub record Stands {X Y : Type 0} (R : Map → X → Y → Type 0) (m : Map) (h : Heap X) (s : Heap Y) : Type 0 where
  pub forth : (q r : Ref) → m.to q ≡ Some r → m.from r ≡ Some q
  pub back : (q r : Ref) → m.from r ≡ Some q → m.to q ≡ Some r
  pub holds : (q r : Ref) → m.to q ≡ Some r → (a : Obj X) × (b : Obj Y) × (look h q ≡ Some a) × (look s r ≡ Some b) × SameObj R m a b

-- WHAT A CALL MAY DO, from the heaps h and s to the heaps i and t: the map grows, and what is new in it is new in both
-- heaps; nothing goes away; what is outside of the image, and each read-only table, is as it was; and no table becomes
-- read-only.
pub record Later {X Y : Type 0} (m n : Map) (h i : Heap X) (s t : Heap Y) : Type 0 where
  pub grows : (q r : Ref) → m.to q ≡ Some r → n.to q ≡ Some r
  pub news : (q r : Ref) → n.to q ≡ Some r → (m.to q ≡ Some r) ⊎ ((look h q ≡ None) × (look s r ≡ None))
  pub stays : (q : Ref) (a : Obj X) → look h q ≡ Some a → (c : Obj X) × (look i q ≡ Some c)
  pub lives : (r : Ref) (b : Obj Y) → look s r ≡ Some b → (c : Obj Y) × (look t r ≡ Some c)
  pub others : (r : Ref) (b : Obj Y) → look s r ≡ Some b → ((q : Ref) → m.to q ≡ Some r → ⊥) → look t r ≡ Some b
  pub shared : (r : Ref) (b : Obj Y) → look s r ≡ Some b → IsShared b → look t r ≡ Some b
  pub freezes_none : (r : Ref) (b : Obj Y) → look t r ≡ Some b → IsShared b → look s r ≡ Some b

-- the objects that only the first heap has are as they were
abbrev pub KeepsPrivate : {X : Type 0} → Map → Heap X → Heap X → Type 0
KeepsPrivate {X} m h i = (q : Ref) (a : Obj X) → look h q ≡ Some a → m.to q ≡ None → look i q ≡ Some a

-- the heap i stands in the store t, which came from h and s by a call that keeps to what stands
pub record Moved {X Y : Type 0} (R : Map → X → Y → Type 0) (m n : Map) (h i : Heap X) (s t : Heap Y) : Type 0 where
  pub later : Later m n h i s t
  pub stands : Stands R n i t
  pub private : KeepsPrivate m h i
