-- THE LAWS: what the library does to a heap, it does to each heap in which that one stands.
use Rattle.std.specs.Prelude.{◌≡◌, ℕ, true, false, List, length, Some}
use Rattle.lua_meaning.specs.MwFrameDeclaredSceneScene.{Scene}
use Rattle.lua_heap.specs.Value.{Value, Nil, Table}
use Rattle.lua_heap.specs.Heap.{Heap, tab, table_at, set_meta_in}
use Rattle.lua_heap.specs.Graph.{Graph, IsGraph, join, joined_root}
use Rattle.lua_heap.specs.Related.{Map, Grows, GrowsWith, Each, Same, Stands, Moved}
use Rattle.lua_heap.specs.declared.library.Library.{Library}
use Rattle.lua_meaning.specs.Scope.{Bytes}
use Rattle.lua_meaning.specs.World.{World}
use Rattle.lua_meaning.specs.Acts.{Frame, Parent}
use Rattle.lua_meaning.specs.Metatables.{field, metatable, handler, either_handler, common_handler}
use Rattle.lua_meaning.specs.Frames.{with_table, make_frame, new_frame}
use Rattle.lua_meaning.specs.Home.{home_heap}
use Rattle.lua_meaning.specs.Modules.{strict_meta}
use Rattle.lua_meaning.specs.Libraries.{form}
use Rattle.lua_library_agree.specs.Same.{SameFrame, SameForm}

-- the heap after `require('strict')`, where the table of the global variables has this number
abbrev pub strict_heap : {X : Type 0} → Heap X → ℕ → Heap X
strict_heap h globals = set_meta_in (with_table h strict_meta Nil) globals (Table (length h.tables))

module _ {X Y : Type 0} (R : Map → X → Y → Type 0) where
  -- EVERY FUNCTION OF THE LIBRARY, by its line in the table: from arguments and frames that stand for one another. Of the world such a
  -- function sees the page alone.
  abbrev pub LibraryAgrees : Type 0
  LibraryAgrees = GrowsWith R → (world other : World) → world.page ≡ other.page → (which : Library) (m : Map) (h : Heap X) (s : Heap Y)
      → Stands R m h s → (vs ws : List Value) → Each (Same m) vs ws → (fs gs : List Frame) → Each (SameFrame m) fs gs
      → SameForm R m h s (form world which vs h fs) (form other which ws s gs)

  -- HANDLERS
  abbrev pub FieldsAgree : Type 0
  FieldsAgree = (m : Map) (h : Heap X) (s : Heap Y) → Stands R m h s → (a b : Value) (name : Bytes) → Same m a b → Same m (field h a name) (field s b name)

  abbrev pub MetatablesAgree : Type 0
  MetatablesAgree = (m : Map) (h : Heap X) (s : Heap Y) → Stands R m h s → (a b : Value) → Same m a b → Same m (metatable h a) (metatable s b)

  abbrev pub HandlersAgree : Type 0
  HandlersAgree = (m : Map) (h : Heap X) (s : Heap Y) → Stands R m h s → (a b : Value) (event : Bytes) → Same m a b → Same m (handler h a event) (handler s b event)

  abbrev pub EitherHandlersAgree : Type 0
  EitherHandlersAgree = (m : Map) (h : Heap X) (s : Heap Y) → Stands R m h s → (a b c d : Value) (event : Bytes) → Same m a b → Same m c d
      → Same m (either_handler h a c event) (either_handler s b d event)

  abbrev pub CommonHandlersAgree : Type 0
  CommonHandlersAgree = (m : Map) (h : Heap X) (s : Heap Y) → Stands R m h s → (a b c d : Value) (event : Bytes) → Same m a b → Same m c d
      → Same m (common_handler h a c event) (common_handler s b d event)

  -- FRAMES: that of a scene is made
  abbrev pub MadeFramesAgree : Type 0
  MadeFramesAgree = GrowsWith R → (m : Map) (h : Heap X) (s : Heap Y) → Stands R m h s → (scene : Scene) (number : ℕ) (parent : Parent)
      → (n : Map) × Moved R m n h (make_frame scene number h) s (make_frame scene number s) × SameFrame n (new_frame h scene parent) (new_frame s scene parent)

  -- A FRESH ENVIRONMENT: that of a machine stands for that of the meaning, with the tables of the global variables and for strings
  abbrev pub HomesAgree : Type 0
  HomesAgree = (n : Map) × Stands R n home_heap home_heap × (n.to (tab 0) ≡ Some (tab 0)) × (n.to (tab 1) ≡ Some (tab 1))

  -- `require('strict')` gives the table of the global variables a new metatable, where that table can be written
  abbrev pub StrictAgrees : Type 0
  StrictAgrees = GrowsWith R → (m : Map) (h : Heap X) (s : Heap Y) → Stands R m h s → (a b : ℕ) → m.to (tab a) ≡ Some (tab b) → (table_at s b).frozen ≡ false
      → (n : Map) × Moved R m n h (strict_heap h a) s (strict_heap s b)

  -- THE TABLES OF A DATA MODULE: put into both heaps, read-only, each behind what was there
  abbrev pub GraphsJoin : Type 0
  GraphsJoin = GrowsWith R → (m : Map) (h : Heap X) (s : Heap Y) → Stands R m h s → (g : Graph) → IsGraph g
      → (n : Map) × Grows m n × Stands R n (join true g h) (join true g s) × Same n (joined_root h) (joined_root s)
