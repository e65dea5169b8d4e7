-- CODE OF PARTS of a function, as the maker's functions promise it: from one state to the next, in every function that the latter may
-- become.
use Rattle.std.specs.Prelude.{◌≡◌, ◌≤◌, ◌<◌, ℕ, ◌+◌, Bool, true, false, List, [], ◌∷◌, ◌++◌, length, Option, Some, None}
use Rattle.lua_heap.specs.Value.{Value, is_true}
use Rattle.lua_flat.specs.LuaSlotsCode.{Place, CExp, ConstantC, DotsC, CallC, MethodC, AndC, OrC, CExps, CFields, CStat, CBlock}
use Rattle.lua_flat.specs.Operations as flat
use Rattle.lua_flat.specs.Locals.{Local, with_row}
use Rattle.lua_flat.specs.IsExpression.{HasAt, one_more, IsThere, IsOrigins, IsOperand, IsValue, IsMany, IsRow, IsFields, IsExact, IsTest}
use Rattle.lua_flat.specs.IsStatement.{IsOpening, IsStat, IsBlock}
use Rattle.lua_flat_code.specs.declared.operand.Operand.{Operand}
use Rattle.lua_flat_code.specs.declared.operand.Wanted.{Wanted}
use Rattle.lua_flat_code.specs.Seen.{operand_seen, wanted_seen, cells_seen, origins_seen}
use Rattle.lua_flat_code.specs.Making.{State, place, Final, Later, Next, Leads, AllLead}

-- what code of expressions leaves: nothing that was made is lost, and no variable comes or goes
pub record Keeps (s t : State) : Type 0 where
  pub next : Next s t
  pub locals : t.locals ≡ s.locals
  pub breaks : t.breaks ≡ s.breaks

abbrev pub is_many : CExp → Bool
is_many DotsC = true
is_many (CallC f es line) = true
is_many (MethodC of name es line) = true
is_many e = false

-- where an expression must have one value, it is no call and no `...`
abbrev pub Fits : Bool → CExp → Type 0
Fits single e = single ≡ true → is_many e ≡ false

-- WHAT IS READ WHERE IT STANDS: nothing is owed for it yet, and no operation is made
pub record ThereSaid (s t : State) (e : CExp) (o : Operand) : Type 0 where
  pub next : Next s t
  pub same : t ≡ record s { constants = t.constants }
  pub code : (f : Final) → Later t f → IsThere s.locals e (operand_seen f.tables o)

-- or nothing has happened, where it is not read where it stands
abbrev pub ThereOrNot : CExp → State → State → Option Operand → Type 0
ThereOrNot e s t None = t ≡ s
ThereOrNot e s t (Some o) = ThereSaid s t e o

-- `and`, whose first operand stays where it is false; `or`, where it is true
abbrev pub either_of : Bool → CExp → CExp → CExp
either_of false a b = AndC a b
either_of true a b = OrC a b

pub record OperandSaid (free : ℕ) (e : CExp) (s t : State) (o : Operand) (free' : ℕ) : Type 0 where
  pub keeps : Keeps s t
  pub code : (f : Final) (single : Bool) → Later t f → Fits single e → IsOperand f.code s.locals single free e s.owed (operand_seen f.tables o) (place s) t.owed (place t) free'

pub record ValueSaid (free : ℕ) (e : CExp) (to : ℕ) (s t : State) : Type 0 where
  pub keeps : Keeps s t
  pub paid : t.owed ≡ 0
  pub code : (f : Final) (single : Bool) → Later t f → Fits single e → IsValue f.code s.locals single free e s.owed to (place s) (place t)

pub record ManySaid (free : ℕ) (e : CExp) (to : ℕ) (wanted : Wanted) (s t : State) : Type 0 where
  pub keeps : Keeps s t
  pub paid : t.owed ≡ 0
  pub code : (f : Final) → Later t f → IsMany f.code s.locals free e s.owed to (wanted_seen wanted) (place s) (place t)

pub record RowSaid (r : ℕ) (es : CExps) (s t : State) (count : Wanted) : Type 0 where
  pub keeps : Keeps s t
  pub code : (f : Final) → Later t f → IsRow f.code s.locals r es s.owed (place s) t.owed (place t) (wanted_seen count)

-- the function of a method and its object stand in two registers, and arguments may follow from `next` on
pub record MethodSaid (free : ℕ) (of : CExp) (name line : ℕ) (s t : State) (next : ℕ) : Type 0 where
  pub is : next ≡ free + 2
  pub keeps : Keeps s t
  pub paid : t.owed ≡ 0
  pub code : (f : Final) → Later t f → (es : CExps) (arguments wanted : flat.Wanted) (to c' pc' : ℕ) → IsRow f.code s.locals (free + 2) es 0 (place t) c' pc' arguments
      → HasAt f.code pc' c' line (flat.CallF to free (one_more arguments) wanted) → IsMany f.code s.locals free (MethodC of name es line) s.owed to wanted (place s) (pc' + 1)

-- so many more
abbrev pub more : ℕ → flat.Wanted → flat.Wanted
more n flat.Every = flat.Every
more n (flat.Exactly count) = flat.Exactly (count + n)

-- what is left has some code, and then the whole has it behind the code so far
pub record RowSoFar (r at : ℕ) (whole left : CExps) (s t : State) : Type 0 where
  pub keeps : Keeps s t
  pub done : ℕ
  pub counted : at ≡ r + done
  pub code : (f : Final) → Later t f → (c' pc' : ℕ) (count : flat.Wanted) → IsRow f.code s.locals at left t.owed (place t) c' pc' count → IsRow f.code s.locals r whole s.owed (place s) c' pc' (more done count)

-- the last of a list, if it is there, behind so many values
pub record RowEndSaid (at before : ℕ) (es : CExps) (s t : State) (count : Wanted) : Type 0 where
  pub keeps : Keeps s t
  pub last : flat.Wanted
  pub counted : wanted_seen count ≡ more before last
  pub code : (f : Final) → Later t f → IsRow f.code s.locals at es s.owed (place s) t.owed (place t) last

-- a field behind code that owes nothing
pub record FieldsStep (free table n line : ℕ) (whole left : CFields) (s t : State) (n' : ℕ) : Type 0 where
  pub keeps : Keeps s t
  pub paid : t.owed ≡ 0
  pub code : (f : Final) → Later t f → s.owed ≡ 0 → (end : ℕ) → IsFields f.code s.locals free left table n' line (place t) end → IsFields f.code s.locals free whole table n line (place s) end

pub record FieldsSoFar (free table n line : ℕ) (whole left : CFields) (s t : State) (n' : ℕ) : Type 0 where
  pub keeps : Keeps s t
  pub paid : s.owed ≡ 0 → t.owed ≡ 0
  pub code : (f : Final) → Later t f → s.owed ≡ 0 → (end : ℕ) → IsFields f.code s.locals free left table n' line (place t) end → IsFields f.code s.locals free whole table n line (place s) end

pub record ExactSaid (r : ℕ) (es : CExps) (n : ℕ) (s t : State) : Type 0 where
  pub keeps : Keeps s t
  pub code : (f : Final) → Later t f → IsExact f.code s.locals r es n s.owed (place s) t.owed (place t)

pub record ExactSoFar (r n at missing : ℕ) (whole left : CExps) (s t : State) : Type 0 where
  pub keeps : Keeps s t
  pub code : (f : Final) → Later t f → (c' pc' : ℕ) → IsExact f.code s.locals at left missing t.owed (place t) c' pc' → IsExact f.code s.locals r whole n s.owed (place s) c' pc'

-- a constant is among the constants, whatever others come
pub record ConstantSaid (v : Value) (o : Operand) (s t : State) : Type 0 where
  pub next : Next s t
  pub same : t ≡ record s { constants = t.constants }
  pub code : (f : Final) → Later t f → operand_seen f.tables o ≡ flat.ConstantO v

pub record CellsSaid (flags : List Bool) (s t : State) (first count : ℕ) : Type 0 where
  pub next : Next s t
  pub same : t ≡ record s { cells = t.cells }
  pub code : (f : Final) → Later t f → cells_seen f.tables first count ≡ flags

pub record OriginsSaid (places : List Place) (s t : State) (first count : ℕ) : Type 0 where
  pub next : Next s t
  pub same : t ≡ record s { origins = t.origins }
  pub code : (f : Final) → Later t f → IsOrigins s.locals places (origins_seen f.tables first count)

-- A TEST: its jumps are put into two lists, and lead to where its truth is followed. It goes on where its truth is `goes_on`.
-- it goes on behind its operation, or jumps
abbrev pub IsBranch : flat.FlatFunction → List Local → ℕ → CExp → Bool → ℕ → ℕ → ℕ → ℕ → Type 0
IsBranch g locals free e false c pc behind target = IsTest g locals free e c pc behind 0 target 0
IsBranch g locals free e true c pc behind target = IsTest g locals free e c pc target 0 behind 0

-- jumps that are put into a list: where all of them lead, those before do
abbrev pub Grows : List ℕ → List ℕ → Type 0
Grows old new = (f : Final) (target : ℕ) → AllLead f.code new target → AllLead f.code old target

pub record TestSaid (free : ℕ) (e : CExp) (goes_on : Bool) (hits hits' misses misses' : List ℕ) (s t : State) : Type 0 where
  pub keeps : Keeps s t
  pub paid : t.owed ≡ 0
  pub hits_grow : Grows hits hits'
  pub misses_grow : Grows misses misses'
  pub code : (f : Final) → Later t f → (hit miss : ℕ) → AllLead f.code hits' hit → AllLead f.code misses' miss → (goes_on ≡ true → hit ≡ place t) → (goes_on ≡ false → miss ≡ place t)
      → IsTest f.code s.locals free e s.owed (place s) hit 0 miss 0

-- a constant that is true
abbrev pub IsTrueConstant : CExp → Type 0
IsTrueConstant e = (v : Value) × (e ≡ ConstantC v) × (is_true v ≡ true)

-- a test by one operation, which jumps from this place where its truth is `when`
pub record BranchSaid (free : ℕ) (e : CExp) (when : Bool) (s t : State) (jump : ℕ) : Type 0 where
  pub keeps : Keeps s t
  pub paid : t.owed ≡ 0
  pub code : (f : Final) → Later t f → (target : ℕ) → Leads f.code jump target → IsBranch f.code s.locals free e when s.owed (place s) (place t) target

-- the test of a statement, which goes on where it is true
pub record ConditionSaid (free : ℕ) (e : CExp) (misses misses' : List ℕ) (s t : State) : Type 0 where
  pub keeps : Keeps s t
  pub misses_grow : Grows misses misses'
  pub code : (f : Final) → Later t f → (miss : ℕ) → AllLead f.code misses' miss → IsTest f.code s.locals free e s.owed (place s) (place t) t.owed miss 0

-- VARIABLES are opened: an operation where some have cells
pub record OpenSaid (flags : List Bool) (at : ℕ) (s t : State) : Type 0 where
  pub keeps : Keeps s t
  pub code : (f : Final) → Later t f → IsOpening f.code flags at s.owed (place s) t.owed (place t)

-- and they are there, in registers of their own
pub record RowDeclared (register : ℕ) (flags : List Bool) (s t : State) (next : ℕ) : Type 0 where
  pub behind : next ≡ register + length flags
  pub same : t ≡ record s { registers = t.registers; locals = with_row register flags s.locals }
  pub more : s.registers ≤ t.registers
  pub enough : next ≤ t.registers

-- some of them are, and then all are if the rest is
pub record RowDeclaredSoFar (register : ℕ) (flags left : List Bool) (s t : State) (at : ℕ) : Type 0 where
  pub behind : at + length left ≡ register + length flags
  pub same : t ≡ record s { registers = t.registers; locals = t.locals }
  pub locals : with_row at left t.locals ≡ with_row register flags s.locals
  pub more : s.registers ≤ t.registers
  pub enough : at ≤ t.registers

-- STATEMENTS. Jumps out of the innermost loop lead to where `break` leads; outside of loops there are none.
abbrev pub AllBreak : Final → Option ℕ → List ℕ → Type 0
AllBreak f None jumps = jumps ≡ []
AllBreak f (Some target) jumps = AllLead f.code jumps target

abbrev pub BreaksGrow : List ℕ → List ℕ → Type 0
BreaksGrow old new = (f : Final) (away : Option ℕ) → AllBreak f away new → AllBreak f away old

-- a statement that opens no variable
pub record StatSaid (free : ℕ) (st : CStat) (s t : State) : Type 0 where
  pub next : Next s t
  pub locals : t.locals ≡ s.locals
  pub breaks : BreaksGrow s.breaks t.breaks
  pub code : (f : Final) → Later t f → (away : Option ℕ) → AllBreak f away t.breaks → IsStat f.code away s.locals free st s.owed (place s) t.owed (place t)

-- statements up to some place: what is left has some code, and then the whole has it
pub record BlockSoFar (free : ℕ) (whole left : CBlock) (s t : State) (free' : ℕ) : Type 0 where
  pub opened : List Local
  pub locals : t.locals ≡ opened ++ s.locals
  pub next : Next s t
  pub breaks : BreaksGrow s.breaks t.breaks
  pub code : (f : Final) → Later t f → (away : Option ℕ) → AllBreak f away t.breaks → (c' pc' : ℕ) (locals' : List Local) (free'' : ℕ)
      → IsBlock f.code away t.locals free' left t.owed (place t) c' pc' locals' free'' → IsBlock f.code away s.locals free whole s.owed (place s) c' pc' locals' free''
