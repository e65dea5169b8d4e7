-- FLAT CODE: the code of a function as a list of small operations over registers. What each does is said in `Does`; which code is flat
-- code of a resolved tree, in `IsFlat`. A count, a register, a constant and a charge are numbers below 2 ^ 32 wherever code is made: a debt
-- that grows is paid by `PayF`.
use Rattle.std.specs.Prelude.{ℕ, Bool, false, List, [], Option}
use Rattle.lua_slots.specs.LuaSyntaxDeclaredUnaryOp.{UnaryOp}
use Rattle.lua_slots.specs.LuaHeapValue.{Value}
use Rattle.lua_slots.specs.LuaMeaningScope.{Bytes}
use Rattle.lua_slots.specs.LuaMeaningOperators.{Operator}

-- WHAT IS READ: a register, counted from the base of its function; a value; or a text among the constants of the module
pub data Operand : Type 0 where
  RegisterO : (register : ℕ) → Operand
  ConstantO : (value : Value) → Operand
  TextO : (constant : ℕ) → Operand

-- HOW MANY VALUES: exactly so many, where what is absent is nil; or as many as there are, up to the top
pub data Wanted : Type 0 where
  Exactly : (count : ℕ) → Wanted
  Every : Wanted

-- where a new function finds a cell that it captures: by a register of the running function, or among the cells of that function
pub data Origin : Type 0 where
  InRegister : (register : ℕ) → Origin
  InCaptured : (number : ℕ) → Origin

-- OPERATIONS. `to` is the register for what it gives; a target is a place in the code.
pub data Op : Type 0 where
  -- nothing but its charge
  PayF : Op
  LoadF : (to : ℕ) (from : Operand) → Op
  NilsF : (to count : ℕ) → Op
  -- the values of `...`
  DotsF : (to : ℕ) (wanted : Wanted) → Op
  -- a new function; and one whose variable it may capture itself, which has a cell where it says so
  ClosureF : (to index : ℕ) (origins : List Origin) → Op
  NamedF : (boxed : Bool) (to index : ℕ) (origins : List Origin) → Op
  -- the values in these registers become variables, some of which have cells
  OpenF : (at : ℕ) (flags : List Bool) → Op
  GetCellF : (to cell : ℕ) → Op
  SetCellF : (cell : ℕ) (from : Operand) → Op
  GetUpF : (to captured : ℕ) → Op
  SetUpF : (captured : ℕ) (from : Operand) → Op
  GetGlobalF : (to name : ℕ) → Op
  SetGlobalF : (name : ℕ) (from : Operand) → Op
  IndexF : (to : ℕ) (of key : Operand) → Op
  SetIndexF : (of key from : Operand) → Op
  -- the function of that name comes to the register `to`, and the object behind it
  MethodF : (to : ℕ) (of : Operand) (name : ℕ) → Op
  -- constructors: a new table, an entry of it, and values from a register up to the top as entries from a place on
  TableF : (to : ℕ) → Op
  SetFieldF : (table : ℕ) (key from : Operand) → Op
  SetItemsF : (table place from : ℕ) → Op
  OperateF : (op : Operator) (to : ℕ) (a b : Operand) → Op
  UnaryF : (op : UnaryOp) (to : ℕ) (a : Operand) → Op
  -- jumps; where a value's truth is this one, and where a comparison's is
  JumpF : (target : ℕ) → Op
  TestF : (when : Bool) (a : Operand) (target : ℕ) → Op
  CompareF : (op : Operator) (a b : Operand) (when : Bool) (target : ℕ) → Op
  -- counting: three registers have the index, the limit and the step, and the fourth is the variable; to the target where it is over,
  -- and where it goes on
  CountBeginsF : (base target : ℕ) → Op
  CountGoesOnF : (base target : ℕ) → Op
  -- a generic loop: three registers have the iterator, the state and the value before, and behind them are the variables; the iterator is
  -- called; and then it goes on, or to the target where the first is nil
  EachCallsF : (base count : ℕ) → Op
  EachTestsF : (base target : ℕ) → Op
  -- the function is in the register `base`, and its arguments are behind it
  CallF : (to base : ℕ) (arguments results : Wanted) → Op
  ReturnF : (from : ℕ) (count : Wanted) → Op
  -- an assignment to what can't be assigned to
  RefuseF : Op

-- an operation, with the steps of the nodes and turns that began since the operation before
pub record Step : Type 0 where
  pub charge : ℕ
  pub op : Op

-- A FUNCTION: for each parameter whether it has a cell, and whether `...` follows them; how many registers it needs; its operations, and
-- beside them their lines
pub record FlatFunction : Type 0 where
  pub flags : List Bool
  pub dots : Bool
  pub registers : ℕ
  pub steps : List Step
  pub lines : List ℕ

-- the functions of all modules, by the texts of their titles and by their numbers
abbrev pub Codes : Type 0
Codes = Bytes → ℕ → Option FlatFunction

abbrev pub no_function : FlatFunction
no_function = record { flags = []; dots = false; registers = 0; steps = []; lines = [] }
