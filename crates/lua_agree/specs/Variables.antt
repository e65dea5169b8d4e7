-- HOW VARIABLES STAND, and a scope at a place of the text (manual 2.6). A run over names has a cell for each local variable, in a heap of
-- its own; a machine has a register, and a cell only where the variable is boxed.
use Rattle.std.specs.Prelude.{◌≡◌, ◌≢◌, ℕ, Bool, true, false, List, [], ◌∷◌, Option, Some, None, slice_get}
use Rattle.lua_heap.specs.Value.{Value}
use Rattle.lua_heap.specs.Heap.{Heap, cel, CellObj, look}
use Rattle.lua_heap.specs.Related.{Map, Each, Same}
use Rattle.lua_slots.specs.LuaMeaningScope.{Bytes, Function, Scope, cell_of, levels}
use Rattle.lua_slots.specs.Code.{Place, Reg, Box, Up}
use Rattle.lua_slots.specs.Sight.{Sight, Everywhere, Here}
use Rattle.lua_slots.specs.Slots.{Slot, Plain, Boxed, Activation, levels_at, newest_function}

-- VARIABLES that are open: the cell in the meaning's heap, and whether it has one in the store
pub record Var : Type 0 where
  pub cell : ℕ
  pub boxed : Bool

abbrev pub plain : ℕ → Var
plain c = record { cell = c; boxed = false }

abbrev pub boxed : ℕ → Var
boxed c = record { cell = c; boxed = true }

abbrev pub IsNew : ℕ → List Var → Type 0
IsNew c [] = Unit {0}
IsNew c (v ∷ vs) = (c ≢ v.cell) × IsNew c vs

-- Each register stands for its variable. A plain one holds what the variable's cell holds, which no other variable has and which stands
-- for nothing in the store; a boxed one names the cell that stands for the variable's.
pub data Vars (m : Map) (h : Heap Function) : List Var → List Slot → Type 0 where
  vnone : Vars m h [] []
  vplain : (c : ℕ) (v w : Value) (vars : List Var) (regs : List Slot) → look h (cel c) ≡ Some (CellObj v) → m.to (cel c) ≡ None → Same m v w
      → IsNew c vars → Vars m h vars regs → Vars m h (plain c ∷ vars) (Plain w ∷ regs)
  vboxed : (c r : ℕ) (vars : List Var) (regs : List Slot) → m.to (cel c) ≡ Some (cel r) → Vars m h vars regs → Vars m h (boxed c ∷ vars) (Boxed r ∷ regs)

-- more variables are open
pub data Opens : List Var → List Var → Type 0 where
  as_many : (vs : List Var) → Opens vs vs
  one_more : (v : Var) (vs ws : List Var) → Opens vs ws → Opens vs (v ∷ ws)

-- a local variable's cell, and the place where it stands, with these variables open and these cells captured
pub data SameVar (m : Map) (vars : List Var) (cells : List ℕ) : Place → Option ℕ → Type 0 where
  at_reg : (i c : ℕ) → slice_get vars i ≡ Some (plain c) → SameVar m vars cells (Reg i) (Some c)
  at_box : (i c : ℕ) → slice_get vars i ≡ Some (boxed c) → SameVar m vars cells (Box i) (Some c)
  at_up : (i c r : ℕ) → slice_get cells i ≡ Some r → m.to (cel c) ≡ Some (cel r) → SameVar m vars cells (Up i) (Some c)

-- each of these cells stands for one
abbrev pub HasCells : Map → List ℕ → Type 0
HasCells m [] = Unit {0}
HasCells m (r ∷ rs) = ((c : ℕ) × (m.to (cel c) ≡ Some (cel r))) × HasCells m rs

-- a function in progress: each cell that it captured stands for one, and each value of `...` for a value
pub record HeldFunction (m : Map) (a : Activation) : Type 0 where
  pub cells : HasCells m a.cells
  pub values : List Value
  pub dots : Each (Same m) values a.dots

-- A SCOPE, and what is seen at a place of the newest of these functions, where these variables are open
pub record Inside (m : Map) (vars : List Var) (fns : List Activation) (see : Sight) (scope : Scope) : Type 0 where
  pub locals : (x : Bytes) (p : Place) → see x ≡ Here p → SameVar m vars (newest_function fns).cells p (cell_of scope.names x)
  pub globals : (x : Bytes) → see x ≡ Everywhere → cell_of scope.names x ≡ None
  pub dots : Each (Same m) scope.dots (newest_function fns).dots
  pub levels : (line : ℕ) → levels scope line ≡ levels_at fns (Some line)
  pub source : scope.source ≡ (newest_function fns).source
