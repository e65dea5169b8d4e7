-- RESOLVED CODE: the tree of a function in which each name has become a place (manual 2.6: local variables, upvalues and globals).
-- It is plain data; what a function has inside stands in the list of the module's functions, and is named by its number there; and so
-- do texts and the names of global variables and methods among the module's constants.
use Rattle.std.specs.Prelude.{ℕ, Bool, List, Option, Result}
use Rattle.lua_meaning.specs.WkBaseDeclaredTitleTitle.{Title}
use Rattle.lua_meaning.specs.LuaSyntaxDeclaredUnaryOp.{UnaryOp}
use Rattle.lua_meaning.specs.LuaSyntaxDeclaredFaultFaultAt.{FaultAt}
use Rattle.lua_meaning.specs.LuaHeapValue.{Value}
use Rattle.lua_meaning.specs.Scope.{Bytes}
use Rattle.lua_meaning.specs.Operators.{Operator}

-- where a local variable stands: in a register, counted from the newest; in the cell that a register names; or in a captured cell
pub data Place : Type 0 where
  Reg : ℕ → Place
  Box : ℕ → Place
  Up : ℕ → Place

-- EXPRESSIONS (2.5); a line is given where an error may name it
mutual
  pub data CExp : Type 0 where
    -- nil, a truth or a number
    ConstantC : (value : Value) → CExp
    -- a text, by its number among the constants
    TextC : (constant : ℕ) → CExp
    DotsC : CExp
    -- a function of the module, and the places of what it captures
    FunctionC : (index : ℕ) (places : List Place) → CExp
    LocalC : (place : Place) → CExp
    -- the name is a constant, by its number
    GlobalC : (name : ℕ) (line : ℕ) → CExp
    IndexC : (of key : CExp) (line : ℕ) → CExp
    CallC : (function : CExp) (arguments : CExps) (line : ℕ) → CExp
    MethodC : (of : CExp) (name : ℕ) (arguments : CExps) (line : ℕ) → CExp
    TableC : (fields : CFields) (line : ℕ) → CExp
    AndC : (a b : CExp) → CExp
    OrC : (a b : CExp) → CExp
    -- the operators whose operands are both evaluated
    OperateC : (op : Operator) (a b : CExp) (line : ℕ) → CExp
    UnaryC : (op : UnaryOp) (a : CExp) (line : ℕ) → CExp
    ParenC : (a : CExp) → CExp

  pub data CExps : Type 0 where
    NoC : CExps
    MoreC : CExp → CExps → CExps

  -- fields of a constructor (2.5.7)
  pub data CFields : Type 0 where
    NoFieldC : CFields
    ItemC : (value : CExp) → CFields → CFields
    PairC : (key value : CExp) → CFields → CFields

-- TARGETS of an assignment (2.4.3). No chunk has another one than a name or an index, and it is refused.
pub data CTarget : Type 0 where
  PlaceC : (place : Place) → CTarget
  GlobalTargetC : (name : ℕ) (line : ℕ) → CTarget
  EntryC : (of key : CExp) (line : ℕ) → CTarget
  RefusedC : CTarget

-- STATEMENTS (2.4). A flag says that a variable has a cell.
mutual
  pub data CStat : Type 0 where
    AssignC : (targets : List CTarget) (values : CExps) → CStat
    CallStatC : CExp → CStat
    DoC : CBlock → CStat
    WhileC : (test : CExp) (body : CBlock) → CStat
    RepeatC : (body : CBlock) (test : CExp) → CStat
    IfC : (arms : CArms) → CStat
    IfElseC : (arms : CArms) (other : CBlock) → CStat
    CountC : (boxed : Bool) (from to : CExp) (body : CBlock) (line : ℕ) → CStat
    CountByC : (boxed : Bool) (from to by : CExp) (body : CBlock) (line : ℕ) → CStat
    EachC : (flags : List Bool) (values : CExps) (body : CBlock) (line : ℕ) → CStat
    ReturnC : (values : CExps) → CStat
    BreakC : CStat

  -- a declaration stands in its block, since what follows sees its variables
  pub data CBlock : Type 0 where
    EndC : CBlock
    DeclareC : (flags : List Bool) (values : CExps) (rest : CBlock) → CBlock
    LocalFunctionC : (boxed : Bool) (index : ℕ) (places : List Place) (rest : CBlock) → CBlock
    ThenC : CStat → CBlock → CBlock

  pub data CArms : Type 0 where
    NoArmC : CArms
    ArmC : (test : CExp) (body : CBlock) → CArms → CArms

-- A FUNCTION: for each parameter whether it has a cell; whether `...` follows them; its body
pub record CProto : Type 0 where
  pub flags : List Bool
  pub dots : Bool
  pub body : CBlock

-- THE CONSTANTS of a module, by their numbers: the texts and names in its code
abbrev pub Constants : Type 0
Constants = ℕ → Bytes

-- THE FUNCTIONS of a module, by their numbers (number 0 is its text), and its constants
pub record Protos : Type 0 where
  pub function : ℕ → Option CProto
  pub constant : Constants

-- A MODULE: the length of its text in bytes, and its functions or its first fault
pub record CModule : Type 0 where
  pub size : ℕ
  pub code : Result Protos FaultAt

-- THE WORLD of a machine, which nothing in it changes: the title of the page that is expanded, and the modules, by the texts of
-- their titles
pub record CWorld : Type 0 where
  pub page : Title
  pub modules : Bytes → Option CModule
