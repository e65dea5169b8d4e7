-- WHAT A MACHINE HOLDS beside the frames that wait: the store's heap with the state of the run, registers, and functions in progress.
use Rattle.std.specs.Prelude.{ℕ, Bool, true, false, List, [], ◌∷◌, length, drop, Option, Some, None, slice_get, slice_set, ◌-◌}
use Rattle.lua_meaning.specs.LuaHeapProc.{Proc}
use Rattle.lua_meaning.specs.LuaHeapValue.{Value, Nil, Closure as ClosureValue}
use Rattle.lua_meaning.specs.LuaHeapHeap.{Heap, Function as FunctionClosed, cell_at, set_cell_in, new_cell, new_closure}
use Rattle.lua_meaning.specs.Scope.{Bytes, Levels}
use Rattle.lua_meaning.specs.Titled.{ByTitle}
use Rattle.lua_meaning.specs.Values.{first, rest}
use Rattle.lua_meaning.specs.Acts.{Progress, Frame}
use Rattle.lua_meaning.specs.Home.{home, home_heap}
use Rattle.lua_slots.specs.Code.{Place, Reg, Box, Up}
use Rattle.lua_slots.specs.Sight.{newest}

-- a register holds the value of its variable, or the number of the cell that has it
pub data Slot : Type 0 where
  Plain : (value : Value) → Slot
  Boxed : (cell : ℕ) → Slot

-- A FUNCTION IN PROGRESS: the cells that it captured, its values of `...`, the title of its module, the line that called it,
-- if a place of the text did, and how many registers there were before its own
pub record Activation : Type 0 where
  pub cells : List ℕ
  pub dots : List Value
  pub source : Bytes
  pub called_at : Option ℕ
  pub base : ℕ

-- The state of the run is that of the meaning, with a heap in which a function holds its number and its cells: the tables of the
-- environment by their numbers in it; the modules that were required, and the tables of loaded data; the frames. Registers and
-- functions in progress stand with the newest first.
pub record Slots : Type 0 where
  pub heap : Heap Proc
  pub globals : ℕ
  pub strings : ℕ
  pub modules : ByTitle Progress
  pub data_ : ByTitle Value
  pub frames : List Frame
  pub regs : List Slot
  pub functions : List Activation

-- a fresh environment, where nothing is in progress
abbrev pub no_slots : Slots
no_slots = record { heap = home_heap; globals = home.globals; strings = home.strings; modules = []; data_ = []; frames = []; regs = []; functions = [] }

-- THE LEVELS of an error at a line of the newest function: its place, and those of the lines that called
abbrev pub levels_at : List Activation → Option ℕ → Levels
levels_at [] line = []
levels_at (a ∷ more) None = []
levels_at (a ∷ more) (Some line) = record { source = a.source; line = line } ∷ levels_at more a.called_at

abbrev pub no_activation : Activation
no_activation = record { cells = []; dots = []; source = []; called_at = None; base = 0 }

abbrev pub newest_function : List Activation → Activation
newest_function [] = no_activation
newest_function (a ∷ more) = a

abbrev pub function_of : Slots → Activation
function_of s = newest_function s.functions

-- PLACES
abbrev pub slot_value : Option Slot → Value
slot_value (Some (Plain v)) = v
slot_value _ = Nil

-- the cell at a place, where there is one. Each of these has an answer that code can give too.
abbrev pub slot_cell : Option Slot → Option ℕ
slot_cell (Some (Boxed c)) = Some c
slot_cell _ = None

abbrev pub place_cell : List Slot → List ℕ → Place → Option ℕ
place_cell regs cells (Reg i) = None
place_cell regs cells (Box i) = slot_cell (slice_get regs i)
place_cell regs cells (Up i) = slice_get cells i

abbrev pub cell_value : Heap Proc → Option ℕ → Value
cell_value h (Some c) = cell_at h c
cell_value h None = Nil

abbrev pub with_cell : Option ℕ → Value → Slots → Slots
with_cell (Some c) v s = record s { heap = set_cell_in s.heap c v }
with_cell None v s = s

abbrev pub read_place : Slots → Place → Value
read_place s (Reg i) = slot_value (slice_get s.regs i)
read_place s (Box i) = cell_value s.heap (place_cell s.regs (function_of s).cells (Box i))
read_place s (Up i) = cell_value s.heap (place_cell s.regs (function_of s).cells (Up i))

abbrev pub write_place : Slots → Place → Value → Slots
write_place s (Reg i) v = record s { regs = slice_set s.regs i (Plain v) }
write_place s (Box i) v = with_cell (place_cell s.regs (function_of s).cells (Box i)) v s
write_place s (Up i) v = with_cell (place_cell s.regs (function_of s).cells (Up i)) v s

-- the cells at these places
abbrev pub and_cell : Option ℕ → List ℕ → List ℕ
and_cell (Some c) cells = c ∷ cells
and_cell None cells = cells

abbrev pub cells_at : List Slot → List ℕ → List Place → List ℕ
cells_at regs cells [] = []
cells_at regs cells (p ∷ places) = and_cell (place_cell regs cells p) (cells_at regs cells places)

-- NEW VARIABLES: the heap and the registers with one more, and with more
abbrev pub with_one : Bool → Value → Heap Proc × List Slot → Heap Proc × List Slot
with_one true v x = ((new_cell x.0 v).0, Boxed (new_cell x.0 v).1 ∷ x.1)
with_one false v x = (x.0, Plain v ∷ x.1)

abbrev pub with_all : List Bool → List Value → Heap Proc × List Slot → Heap Proc × List Slot
with_all [] vs x = x
with_all (b ∷ bs) vs x = with_all bs (rest vs) (with_one b (first vs) x)

abbrev pub opened : Bool → Value → Slots → Slots
opened b v s = record s { heap = (with_one b v (s.heap, s.regs)).0; regs = (with_one b v (s.heap, s.regs)).1 }

abbrev pub all_opened : List Bool → List Value → Slots → Slots
all_opened flags vs s = record s { heap = (with_all flags vs (s.heap, s.regs)).0; regs = (with_all flags vs (s.heap, s.regs)).1 }

-- the oldest so many registers
abbrev pub cut_to : ℕ → List Slot → List Slot
cut_to d regs = drop (length regs - d) regs

abbrev pub cut : ℕ → Slots → Slots
cut d s = record s { regs = cut_to d s.regs }

-- A NEW CLOSURE of the running function's module
abbrev pub proc_of : ℕ → List Place → Slots → Proc
proc_of index places s = record { title = (function_of s).source; index = index; cells = cells_at s.regs (function_of s).cells places }

abbrev pub with_closure : Proc → Slots → Slots
with_closure p s = record s { heap = (new_closure s.heap (FunctionClosed p)).0 }

abbrev pub next_closure : Slots → Value
next_closure s = ClosureValue (length s.heap.closures)

-- a local function: its variable is there first, so that it can capture itself
abbrev pub with_named : Bool → ℕ → List Place → Slots → Slots
with_named boxed index places s = write_place (with_closure (proc_of index places s) s) (newest boxed) (next_closure s)

abbrev pub with_function_named : Bool → ℕ → List Place → Slots → Slots
with_function_named boxed index places s = with_named boxed index places (opened boxed Nil s)

abbrev pub with_heap : Heap Proc → Slots → Slots
with_heap h s = record s { heap = h }
