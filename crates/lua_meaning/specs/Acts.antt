-- A RUN OF LUA, and what parts of it are written with.
-- Each line of a `do` block is one step. `x ← part` names the value that a part gives; a line without a name is done for its effect.
-- Where a part jumps, by an error, a `return` or a `break`, the lines after it are passed over.
use Rattle.std.specs.Prelude.{ℕ, ℤ, Bool, true, false, List, [], ◌∷◌}
use Rattle.lua_syntax.specs.Tree.{Exp, Block}
use Rattle.page_run.specs.Run.{Run}
use Rattle.page_run.specs.Outcome.{Outcome, Act as ActOf, ◌>>=◌, ◌>>◌, give, jump, tick, count, see, change}
use Rattle.lua_walk.specs.LuaHeapDeclaredLibraryLibrary.{Library}
use Rattle.lua_walk.specs.LuaHeapValue.{Value, Closure as ClosureValue}
use Rattle.lua_walk.specs.LuaHeapHeap.{Heap, Function as FunctionClosed, cell_at, set_cell_in, new_table, new_cell, new_closure}
use Rattle.lua_meaning.specs.Charges.{node_charge, table_charge, closure_charge}
use Rattle.lua_meaning.specs.Scope.{Bytes, Scope, Function, Levels, with_name}
use Rattle.lua_meaning.specs.Titled.{ByTitle}
use Rattle.mw_frame.specs.declared.scene.Scene.{Scene}
use Rattle.mw_frame.specs.declared.question.Ask.{Ask}
use Rattle.lua_meaning.specs.Questions.{Answer}
use Rattle.lua_meaning.specs.Values.{first, rest}

-- JUMPS (manual 2.4.4 and 2.7): a `return` with its values, a `break`, and an error with its value
pub data Jump : Type 0 where
  Returned : (values : List Value) → Jump
  Broke : Jump
  Raised : (value : Value) → Jump

-- A FRAME of the run (Scribunto, Frame object): its scene, which never changes, its table, and its parent
pub data Parent : Type 0 where
  -- there is none
  Nobody : Parent
  -- it has not been asked for yet
  Unmade : (scene : Scene) → Parent
  -- it is the frame of that number
  Made : (number : ℕ) → Parent

pub record Frame : Type 0 where
  pub scene : Scene
  pub table : Value
  pub parent : Parent

-- A MODULE that was required: it is being run, or it gave its value (`require`)
pub data Progress : Type 0 where
  Running : Progress
  Finished : (value : Value) → Progress

-- THE STATE that a run sees and changes: the heap; the tables of the global variables and of the functions for strings, by their
-- numbers in it; by title the modules that were required, and the tables of the data modules that were loaded; and the frames,
-- in the order in which they were made
pub record State : Type 0 where
  pub heap : Heap Function
  pub globals : ℕ
  pub strings : ℕ
  pub modules : ByTitle Progress
  pub data_modules : ByTitle Value
  pub frames : List Frame

-- THINGS: what is no smaller part of the text that runs. Each costs a step to begin.
pub data Thing : Type 0 where
  -- another turn of a loop (manual 2.4.4 and 2.4.5)
  WhileTurn : (test : Exp) (body : Block) (scope : Scope) → Thing
  RepeatTurn : (body : Block) (test : Exp) (scope : Scope) → Thing
  CountTurn : (name : Bytes) (index limit step : ℤ) (body : Block) (scope : Scope) → Thing
  EachTurn : (names : List Bytes) (iterator state : Value) (results : List Value) (body : Block) (line : ℕ) (scope : Scope) → Thing
  -- a function of Lua is entered, or one of the library (manual 2.5.8)
  Body : (function : Function) (arguments : List Value) (callers : Levels) → Thing
  LibraryBody : (which : Library) (arguments : List Value) (callers : Levels) → Thing
  -- the text of a module is entered (manual 2.4.1)
  ChunkBody : (source : Bytes) (body : Block) → Thing
  -- from an object to its handler for an index, an assignment to an index or a call (manual 2.8)
  IndexLink : (object handler key : Value) (levels : Levels) → Thing
  SetLink : (object handler key value : Value) (levels : Levels) → Thing
  CallLink : (handler : Value) (arguments : List Value) (levels : Levels) → Thing

-- a run of Lua, which may not use the allowances of expansions
abbrev pub LuaRun : Type 0
LuaRun = Run ⊥ State Thing Ask Answer (Outcome (List Value) Jump)

-- a part of it that gives an X
abbrev pub Act : Type 0 → Type 0
Act X = ActOf LuaRun Jump X

-- a node of the tree begins: it is counted, and costs a step
abbrev pub node : Act (Unit {0})
node = tick node_charge >> count

-- AN ERROR, with its value
abbrev pub raise : {X : Type 0} → Value → Act X
raise v = jump (Raised v)

-- one branch or the other
abbrev pub choose : {X : Type 0} → Bool → Act X → Act X → Act X
choose true a b = a
choose false a b = b

-- the first of the values that a part gives, or nil
abbrev pub one : Act (List Value) → Act Value
one part = do
  vs ← part
  give (first vs)

-- THE HEAP
abbrev pub see_heap : Act (Heap Function)
see_heap = do
  s ← see
  give s.heap

abbrev pub change_heap : Heap Function → Act (Unit {0})
change_heap h = do
  s ← see
  change (record s { heap = h })

abbrev pub read_cell : ℕ → Act Value
read_cell cell = do
  h ← see_heap
  give (cell_at h cell)

abbrev pub write_cell : ℕ → Value → Act (Unit {0})
write_cell cell v = do
  h ← see_heap
  change_heap (set_cell_in h cell v)

abbrev pub make_cell : Value → Act ℕ
make_cell v = do
  h ← see_heap
  change_heap (new_cell h v).0
  give (new_cell h v).1

-- a new table, and a new closure
abbrev pub make_table : Act ℕ
make_table = do
  tick table_charge
  h ← see_heap
  change_heap (new_table h).0
  give (new_table h).1

abbrev pub make_closure : Function → Act Value
make_closure f = do
  tick closure_charge
  h ← see_heap
  change_heap (new_closure h (FunctionClosed f)).0
  give (ClosureValue (new_closure h (FunctionClosed f)).1)

-- new local variables, each with a cell of its own (manual 2.4.7)
abbrev pub declare : List Bytes → List Value → Scope → Act Scope
declare [] vs scope = give scope
declare (name ∷ names) vs scope = do
  cell ← make_cell (first vs)
  declare names (rest vs) (with_name name cell scope)
