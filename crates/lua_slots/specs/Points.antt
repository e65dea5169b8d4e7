-- WHAT A MACHINE DOES NEXT, above the frames that wait; and its moves.
use Rattle.std.specs.Prelude.{ℕ, ℤ, Bool, List, Option}
use Rattle.lua_meaning.specs.MwFrameDeclaredQuestionAsk.{Ask}
use Rattle.lua_meaning.specs.LuaSyntaxDeclaredUnaryOp.{UnaryOp}
use Rattle.lua_meaning.specs.PageRunOutcome.{Outcome}
use Rattle.lua_meaning.specs.LuaHeapProc.{Proc}
use Rattle.lua_meaning.specs.LuaHeapValue.{Value}
use Rattle.lua_meaning.specs.LuaHeapDeclaredLibraryLibrary.{Library}
use Rattle.lua_meaning.specs.Scope.{Bytes}
use Rattle.lua_meaning.specs.Questions.{Asked}
use Rattle.lua_meaning.specs.Acts.{Jump}
use Rattle.lua_meaning.specs.Operators.{Operator}
use Rattle.lua_meaning.specs.Pending.{Pending}
use Rattle.lua_meaning.specs.Start.{Work}
use Rattle.lua_slots.specs.Code.{Place, CExp, CExps, CFields, CTarget, CBlock, CArms}
use Rattle.lua_slots.specs.Slots.{Slots}

-- A TARGET that is found (manual 2.4.3)
pub data STarget : Type 0 where
  PlaceS : (place : Place) → STarget
  GlobalS : (name : Bytes) (line : ℕ) → STarget
  EntryS : (of key : Value) (line : ℕ) → STarget

-- THINGS that begin, each at a step. Where a line is given, a place of the newest function's text asks for it.
pub data SThing : Type 0 where
  WhileTurnS : (test : CExp) (body : CBlock) → SThing
  RepeatTurnS : (body : CBlock) (test : CExp) → SThing
  CountTurnS : (boxed : Bool) (index limit step : ℤ) (body : CBlock) → SThing
  EachTurnS : (flags : List Bool) (iterator state : Value) (results : List Value) (body : CBlock) (line : ℕ) → SThing
  BodyS : (function : Proc) (arguments : List Value) (line : Option ℕ) → SThing
  LibraryS : (which : Library) (arguments : List Value) (line : Option ℕ) → SThing
  IndexLinkS : (object handler key : Value) (line : Option ℕ) → SThing
  SetLinkS : (object handler key value : Value) (line : Option ℕ) → SThing
  CallLinkS : (handler : Value) (arguments : List Value) (line : Option ℕ) → SThing

-- FRAMES: what waits for an outcome
pub data SFrame : Type 0 where
  -- the first value alone counts
  First : SFrame
  -- it is a truth, or its negation
  Verdict : (negated : Bool) → SFrame
  -- an index whose table, or whose key, is evaluated
  KeyNext : (key : CExp) (line : ℕ) → SFrame
  IndexNow : (of : Value) (line : ℕ) → SFrame
  -- operands: the second one only where the first does not decide, in which case this truth does; both; the only one
  DecideNext : (deciding : Bool) (b : CExp) → SFrame
  OperandNext : (op : Operator) (b : CExp) (line : ℕ) → SFrame
  OperateNow : (op : Operator) (a : Value) (line : ℕ) → SFrame
  UnaryNow : (op : UnaryOp) (line : ℕ) → SFrame
  -- calls
  ArgumentsNext : (arguments : CExps) (line : ℕ) → SFrame
  CallNow : (function : Value) (line : ℕ) → SFrame
  MethodNext : (name : Bytes) (arguments : CExps) (line : ℕ) → SFrame
  MethodNow : (object : Value) (arguments : CExps) (line : ℕ) → SFrame
  -- a list: what follows, and the values before
  MoreNext : (es : CExps) (before : List Value) → SFrame
  -- a constructor of this table, whose next item has this place: an item is evaluated, the key of a pair is, and its value; what
  -- follows one that is set; values that are still to be set
  ItemNow : (table place : ℕ) (fields : CFields) (line : ℕ) → SFrame
  PairNext : (table place : ℕ) (value : CExp) (fields : CFields) (line : ℕ) → SFrame
  PairNow : (table place : ℕ) (key : Value) (fields : CFields) (line : ℕ) → SFrame
  FieldsNext : (table place : ℕ) (fields : CFields) (line : ℕ) → SFrame
  ItemsNext : (table place : ℕ) (items : List Value) (line : ℕ) → SFrame
  -- an assignment: the key of a target; its entry; the values; what is still to be set
  TargetKey : (key : CExp) (line : ℕ) (more : List CTarget) (before : List STarget) (values : CExps) → SFrame
  TargetNow : (of : Value) (line : ℕ) (more : List CTarget) (before : List STarget) (values : CExps) → SFrame
  AssignNow : (targets : List STarget) → SFrame
  SetsNext : (pairs : List (STarget × Value)) → SFrame
  -- a declaration, and the statements behind one
  DeclareNow : (flags : List Bool) (rest : CBlock) → SFrame
  StatsNext : (rest : CBlock) → SFrame
  -- a test of an `if`, with what is done where it is true, and the branches behind it
  BranchNext : (body : CBlock) (arms : CArms) (other : Option CBlock) → SFrame
  -- the end of a block that has so many registers below it, of a function's body, of a function of the library
  BlockEnd : (depth : ℕ) → SFrame
  BodyEnd : SFrame
  LibraryEnd : SFrame
  -- loops: a test, and the end of a turn
  WhileTest : (test : CExp) (body : CBlock) → SFrame
  WhileEnd : (depth : ℕ) (test : CExp) (body : CBlock) → SFrame
  TestNext : (test : CExp) (depth : ℕ) (body : CBlock) → SFrame
  TestNow : (test : CExp) (depth : ℕ) (body : CBlock) → SFrame
  CountFrom : (boxed : Bool) (to : CExp) (by : Option CExp) (body : CBlock) (line : ℕ) → SFrame
  CountTo : (boxed : Bool) (from : Value) (by : Option CExp) (body : CBlock) (line : ℕ) → SFrame
  CountBy : (boxed : Bool) (from to : Value) (body : CBlock) (line : ℕ) → SFrame
  CountEnd : (depth : ℕ) (boxed : Bool) (index limit step : ℤ) (body : CBlock) → SFrame
  EachValues : (flags : List Bool) (body : CBlock) (line : ℕ) → SFrame
  EachNext : (flags : List Bool) (iterator state : Value) (body : CBlock) (line : ℕ) → SFrame
  EachEnd : (depth : ℕ) (flags : List Bool) (iterator state before : Value) (body : CBlock) (line : ℕ) → SFrame
  ReturnNow : SFrame
  -- a function of the library that waits for a call, or for the answer to a question; `line` is that of its own call
  Waits : (pending : Pending) (line : Option ℕ) → SFrame
  Hears : (asked : Asked) (line : Option ℕ) → SFrame
  -- a whole run: the module's value; the function's; what it gave; the text of one of these values, with those behind it and the
  -- text before; and the value of a data module
  ModuleFound : (function : Bytes) (frame : Value) → SFrame
  FunctionFound : (function : Bytes) (frame : Value) → SFrame
  AnswerNow : SFrame
  TextNow : (values : List Value) (before : Bytes) → SFrame
  DataNow : SFrame

-- POINTS
pub data Point : Type 0 where
  Gives : (outcome : Outcome (List Value) Jump) (frames : List SFrame) → Point
  Evals : (e : CExp) (frames : List SFrame) → Point
  Lists : (es : CExps) (before : List Value) (frames : List SFrame) → Point
  Finds : (targets : List CTarget) (before : List STarget) (values : CExps) (frames : List SFrame) → Point
  Sets : (pairs : List (STarget × Value)) (frames : List SFrame) → Point
  Runs : (b : CBlock) (frames : List SFrame) → Point
  Starts : (thing : SThing) (frames : List SFrame) → Point
  -- the texts of what an invoked function gave, behind the text before
  Texts : (values : List Value) (before : Bytes) (frames : List SFrame) → Point
  -- at a question, where these frames wait for what its answer tells
  Asking : (question : Ask) (frames : List SFrame) → Point
  -- before the first event of a run
  Works : (work : Work) → Point

-- A MOVE: its charges and what is counted, and then the next point with what the machine holds there. What is charged is charged
-- before anything changes.
pub data Move : Type 0 where
  -- so many steps are taken
  Costs : (steps : ℕ) → Move → Move
  -- a node, a turn of a loop or a function entered is counted
  Marks : Move → Move
  -- a function is entered, and left
  Enters : Move → Move
  Exits : Move → Move
  Now : Point → Slots → Move
