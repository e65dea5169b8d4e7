-- CODE OF STATEMENTS, FUNCTIONS AND MODULES, as the maker's functions promise it.
use Rattle.std.specs.Prelude.{◌≡◌, ◌≤◌, ◌<◌, ℕ, zero, suc, ◌+◌, Bool, List, [], ◌∷◌, ◌++◌, map, length, slice_get, Option, Some, None, option_map}
use Rattle.std.specs.declared.alloc.Global.{Global}
use Rattle.std.specs.declared.boxed.Box.{Box}
use Rattle.lua_flat.specs.LuaSlotsCode.{CProto, CExp, CExps, CStat, IfC, IfElseC, CountC, CountByC, CBlock, CArms}
use Rattle.lua_flat.specs.Operations.{FlatFunction, JumpF, CountBeginsF, CountGoesOnF, EachCallsF, EachTestsF}
use Rattle.lua_flat.specs.Locals.{Local, local_of, with_row}
use Rattle.lua_flat.specs.IsExpression.{Has, HasAt, IsExact, IsTest}
use Rattle.lua_flat.specs.IsStatement.{IsJoin, IsOpening, IsStat, IsBlock, IsArms, IsFlatFunction, IsFlatOption}
use Rattle.lua_code.specs.declared.expression.Expression.{Expression}
use Rattle.lua_code.specs.declared.statement.Statement.{Statement}
use Rattle.lua_code.specs.declared.statement.Branch.{Branch}
use Rattle.lua_code.specs.declared.proto.Proto.{Proto}
use Rattle.lua_code.specs.declared.proto.Protos.{Protos}
use Rattle.lua_code.specs.Seen.{expression_seen, block_seen, branch_seen, proto_seen, protos_seen}
use Rattle.lua_flat_code.specs.declared.operand.Constant.{Constant}
use Rattle.lua_flat_code.specs.declared.function.Function.{Function}
use Rattle.lua_flat_code.specs.declared.function.Functions.{Functions}
use Rattle.lua_flat_code.specs.Seen.{function_seen}
use Rattle.lua_flat_code.specs.Making.{State, empty, place, step_of, line_of, AllLead, Begins, Final, Later, Next, begun}
use Rattle.lua_flat_code.specs.Parts.{Keeps, Grows, AllBreak, BreaksGrow, StatSaid, BlockSoFar}

-- a statement that is begun already
abbrev pub BegunStat : ℕ → CStat → State → State → Type 0
BegunStat free st old t = (s : State) → old ≡ begun s → StatSaid free st s t

-- PARTS OF LOOPS in final code: a turn;
pub record TurnCode (f : Final) (away : Option ℕ) (flags : List Bool) (names : ℕ) (b : CBlock) (s t : State) : Type 0 where
  pub c : ℕ
  pub pc : ℕ
  pub locals : List Local
  pub free : ℕ
  pub opening : IsOpening f.code flags names s.owed (place s) c pc
  pub body : IsBlock f.code away (with_row names flags s.locals) (names + length flags) b c pc t.owed (place t) locals free

-- a counting loop behind its values;
pub record CountCode (f : Final) (boxed : Bool) (body : CBlock) (line base : ℕ) (ls : List Local) (at end : ℕ) : Type 0 where
  pub c : ℕ
  pub pc : ℕ
  pub last : ℕ
  pub owed : ℕ
  pub locals : List Local
  pub free : ℕ
  pub is_end : end ≡ last + 1
  pub room : base + 3 < f.code.registers
  pub begins : HasAt f.code at 0 line (CountBeginsF base (last + 1))
  pub opening : IsOpening f.code (boxed ∷ []) (base + 3) 1 (at + 1) c pc
  pub turn : IsBlock f.code (Some (last + 1)) (local_of boxed (base + 3) ∷ ls) (base + 4) body c pc owed last locals free
  pub goes_on : Has f.code last owed (CountGoesOnF base (at + 1))

-- and a generic one
pub record EachCode (f : Final) (flags : List Bool) (body : CBlock) (line base : ℕ) (ls : List Local) (at end : ℕ) : Type 0 where
  pub c : ℕ
  pub pc : ℕ
  pub last : ℕ
  pub owed : ℕ
  pub locals : List Local
  pub free : ℕ
  pub is_end : end ≡ last + 1
  pub some : 1 ≤ length flags
  pub room : base + 2 + length flags < f.code.registers
  pub calls : HasAt f.code at 0 line (EachCallsF base (length flags))
  pub tests : Has f.code (at + 1) 0 (EachTestsF base (last + 1))
  pub opening : IsOpening f.code flags (base + 3) 1 (at + 2) c pc
  pub turn : IsBlock f.code (Some (last + 1)) (with_row (base + 3) flags ls) (base + 3 + length flags) body c pc owed last locals free
  pub goes_on : Has f.code last owed (JumpF at)

-- and any that is begun already, in front of the statements that follow
abbrev pub BegunPart : ℕ → (CBlock → CBlock) → State → State → ℕ → Type 0
BegunPart free whole old t next = (s : State) (rest : CBlock) → old ≡ begun s → BlockSoFar free (whole rest) rest s t next

-- a block whose variables are closed behind it
pub record BlockSaid (free : ℕ) (b : CBlock) (s t : State) : Type 0 where
  pub next : Next s t
  pub locals : t.locals ≡ s.locals
  pub breaks : BreaksGrow s.breaks t.breaks
  pub code : (f : Final) → Later t f → (away : Option ℕ) → AllBreak f away t.breaks → (ls : List Local) × (end : ℕ) × IsBlock f.code away s.locals free b s.owed (place s) t.owed (place t) ls end

-- CHOICES. An `else` is a block, if it is there.
abbrev pub other_seen : Option (List Statement) → Option CBlock
other_seen other = option_map block_seen other

abbrev pub if_of : CArms → Option CBlock → CStat
if_of arms None = IfC arms
if_of arms (Some b) = IfElseC arms b

-- a branch that jumps to the end, and what follows it
pub record ArmSaid (free : ℕ) (arm : CArms → CArms) (old new : List ℕ) (s t : State) : Type 0 where
  pub locals : t.locals ≡ s.locals
  pub next : Next s t
  pub breaks : BreaksGrow s.breaks t.breaks
  pub grows : Grows old new
  pub code : (f : Final) → Later t f → (away : Option ℕ) → AllBreak f away t.breaks → (end : ℕ) → AllLead f.code new end
      → (arms : CArms) (other : Option CBlock) → IsArms f.code away s.locals free arms other t.owed (place t) end → IsArms f.code away s.locals free (arm arms) other s.owed (place s) end

-- branches in front of others; and what some of them leave, where what is left has some code, and then the whole has it
abbrev pub arms_then : List Branch → CArms → CArms
arms_then [] rest = rest
arms_then (b ∷ more) rest = branch_seen b (arms_then more rest)

pub record ArmsSaid (free : ℕ) (front : CArms → CArms) (left : List Branch) (old new : List ℕ) (s t : State) : Type 0 where
  pub locals : t.locals ≡ s.locals
  pub next : Next s t
  pub breaks : BreaksGrow s.breaks t.breaks
  pub grows : Grows old new
  pub code : (f : Final) → Later t f → (away : Option ℕ) → AllBreak f away t.breaks → (end : ℕ) → AllLead f.code new end
      → (arms : CArms) (other : Option CBlock) → IsArms f.code away s.locals free (arms_then left arms) other t.owed (place t) end → IsArms f.code away s.locals free (front arms) other s.owed (place s) end

-- the last branches, which go on at the end
pub record ArmsEndSaid (free : ℕ) (arms : CArms) (other : Option CBlock) (s t : State) : Type 0 where
  pub locals : t.locals ≡ s.locals
  pub next : Next s t
  pub breaks : BreaksGrow s.breaks t.breaks
  pub paid : t.owed ≡ 0
  pub code : (f : Final) → Later t f → (away : Option ℕ) → AllBreak f away t.breaks → IsArms f.code away s.locals free arms other s.owed (place s) (place t)

-- LOOPS. The test of `repeat` leads on, or to the top.
pub record UntilSaid (free : ℕ) (e : CExp) (top : ℕ) (s t : State) : Type 0 where
  pub keeps : Keeps s t
  pub paid : t.owed ≡ 0
  pub code : (f : Final) → Later t f → IsTest f.code s.locals free e s.owed (place s) (place t) 0 top 0

-- the body of a loop with its variables, which are closed behind it
pub record TurnSaid (flags : List Bool) (names : ℕ) (b : CBlock) (s t : State) : Type 0 where
  pub locals : t.locals ≡ s.locals
  pub next : Next s t
  pub breaks : BreaksGrow s.breaks t.breaks
  pub room : (f : Final) → Later t f → names + length flags ≤ f.code.registers
  pub code : (f : Final) → Later t f → (away : Option ℕ) → AllBreak f away t.breaks → TurnCode f away flags names b s t

-- a counting loop: the index, the limit and the step, which is 1 where none is given
abbrev pub step_seen : Option (Box Expression Global) → Option CExp
step_seen by = option_map (λ e. expression_seen e.value) by

abbrev pub count_of : Bool → CExp → CExp → Option CExp → CBlock → ℕ → CStat
count_of boxed from to None body line = CountC boxed from to body line
count_of boxed from to (Some by) body line = CountByC boxed from to by body line

pub record CountSaid (free : ℕ) (from to : CExp) (by : Option CExp) (old t : State) : Type 0 where
  pub keeps : Keeps old t
  pub paid : t.owed ≡ 0
  pub code : (f : Final) → Later t f → (s : State) → old ≡ begun s → (away : Option ℕ) (boxed : Bool) (body : CBlock) (line end : ℕ) → CountCode f boxed body line free s.locals (place t) end
      → IsStat f.code away s.locals free (count_of boxed from to by body line) s.owed (place s) 0 end

pub record CountLoopSaid (boxed : Bool) (body : CBlock) (line base : ℕ) (s t : State) : Type 0 where
  pub locals : t.locals ≡ s.locals
  pub next : Next s t
  pub breaks : t.breaks ≡ s.breaks
  pub paid : t.owed ≡ 0
  pub code : (f : Final) → Later t f → s.owed ≡ 0 → CountCode f boxed body line base s.locals (place s) (place t)

-- a generic loop: the iterator, the state and the value before
pub record EachSaid (free : ℕ) (values : CExps) (s t : State) : Type 0 where
  pub keeps : Keeps s t
  pub paid : t.owed ≡ 0
  pub code : (f : Final) → Later t f → (c1 : ℕ) × (pc1 : ℕ) × IsExact f.code s.locals free values 3 s.owed (place s) c1 pc1 × IsJoin f.code c1 pc1 (place t)

pub record EachLoopSaid (flags : List Bool) (body : CBlock) (line base : ℕ) (s t : State) : Type 0 where
  pub locals : t.locals ≡ s.locals
  pub next : Next s t
  pub breaks : t.breaks ≡ s.breaks
  pub paid : t.owed ≡ 0
  pub code : (f : Final) → Later t f → s.owed ≡ 0 → EachCode f flags body line base s.locals (place s) (place t)

-- FUNCTIONS: all code of one is made, where nothing was;
pub record CodeSaid (p : CProto) (s t : State) : Type 0 where
  pub constants : Begins Constant s.constants t.constants
  pub texts : t.texts ≡ s.texts
  pub breaks : t.breaks ≡ []
  pub code : s ≡ empty s.texts s.constants [] → (f : Final) → Later t f → f.code.flags ≡ p.flags → f.code.dots ≡ p.dots → IsFlatFunction p f.code

-- it is copied;
pub record Finished (p : CProto) (s : State) (g : Function) : Type 0 where
  pub flags : g.flags ≡ p.flags
  pub dots : g.dots ≡ p.dots
  pub registers : g.registers ≡ s.registers
  pub steps : g.steps ≡ map step_of s.steps
  pub lines : g.lines ≡ map line_of s.steps
  pub cells : g.cells ≡ s.cells
  pub origins : g.origins ≡ s.origins

-- and it is flat code, whatever constants other functions add
abbrev pub IsFlatIn : ℕ → List Constant → Proto → Function → Type 0
IsFlatIn texts new p g = (constants : List Constant) → Begins Constant new constants → IsFlatFunction (proto_seen p) (function_seen texts constants g)

pub record FunctionSaid (p : Proto) (s t : State) (g : Function) : Type 0 where
  pub constants : Begins Constant s.constants t.constants
  pub texts : t.texts ≡ s.texts
  pub breaks : t.breaks ≡ []
  pub code : s.breaks ≡ [] → IsFlatIn s.texts t.constants p g

-- functions in their order
abbrev pub AllFlat : ℕ → List Constant → List Proto → List Function → Type 0
AllFlat texts new [] [] = Unit {0}
AllFlat texts new (p ∷ ps) (g ∷ gs) = IsFlatIn texts new p g × AllFlat texts new ps gs
AllFlat texts new ps gs = ⊥

-- some are made, and then all are if the rest is
pub record FunctionsSoFar (ps left : List Proto) (s t : State) (gs : List Function) : Type 0 where
  pub constants : Begins Constant s.constants t.constants
  pub texts : t.texts ≡ s.texts
  pub breaks : s.breaks ≡ [] → t.breaks ≡ []
  pub code : s.breaks ≡ [] → (new : List Constant) → Begins Constant t.constants new → (hs : List Function) → AllFlat s.texts new left hs → AllFlat s.texts new ps (gs ++ hs)

pub record FunctionsSaid (ps : List Proto) (s t : State) (gs : List Function) : Type 0 where
  pub constants : Begins Constant s.constants t.constants
  pub texts : t.texts ≡ s.texts
  pub breaks : s.breaks ≡ [] → t.breaks ≡ []
  pub code : s.breaks ≡ [] → AllFlat s.texts t.constants ps gs

-- THE FUNCTIONS of a module: number 0 is the text, and the others follow
abbrev pub flat_in : ℕ → List Constant → Function → List Function → ℕ → Option FlatFunction
flat_in texts constants text functions zero = Some (function_seen texts constants text)
flat_in texts constants text functions (suc i) = option_map (function_seen texts constants) (slice_get functions i)

abbrev pub functions_seen : Functions → ℕ → Option FlatFunction
functions_seen fs = flat_in (length fs.texts) fs.constants fs.text fs.functions

-- what `make` gives: each function has flat code, no other has, and texts keep their numbers
pub record IsMade (ps : Protos) (fs : Functions) : Type 0 where
  pub code : (index : ℕ) → IsFlatOption ((protos_seen ps).function index) (functions_seen fs index)
  pub texts : fs.texts ≡ ps.constants
