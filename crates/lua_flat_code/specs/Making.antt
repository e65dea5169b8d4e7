-- A FUNCTION WHILE ITS FLAT CODE IS MADE, and all functions that it may become. Operations are put at the end; a jump may be open, and gets
-- its target later on. So what is said of code so far is said of every final code that keeps it, but for the targets of open jumps.
use Rattle.std.specs.Prelude.{◌≡◌, ◌≤◌, ℕ, ◌+◌, ◌-◌, ◌^◌, Bool, true, false, List, [], ◌∷◌, ◌++◌, map, reverse, length, drop, slice_get, Option, Some, None, nat_eq}
use Rattle.std.specs.List.{AllByRecursion}
use Rattle.lua_flat.specs.Operations as flat
use Rattle.lua_flat.specs.Operations.{FlatFunction, JumpF, TestF, CompareF, CountBeginsF, EachTestsF}
use Rattle.lua_flat.specs.Locals as locals
use Rattle.lua_flat.specs.LuaSlotsCode.{Place}
use Rattle.lua_flat.specs.IsExpression.{HasAt, IsOrigins}
use Rattle.lua_flat_code.specs.declared.operand.Constant.{Constant}
use Rattle.lua_flat_code.specs.declared.operand.Origin.{Origin}
use Rattle.lua_flat_code.specs.declared.op.Op.{Op}
use Rattle.lua_flat_code.specs.declared.op.Op.TheVariants as op
use Rattle.lua_flat_code.specs.declared.op.Step.{Step}
use Rattle.lua_flat_code.specs.declared.maker.Lined.{Lined}
use Rattle.lua_flat_code.specs.declared.maker.Local.{Local}
use Rattle.lua_flat_code.specs.declared.maker.Local.TheVariants as local
use Rattle.lua_flat_code.specs.declared.maker.Maker.{Maker}
use Rattle.lua_flat_code.specs.Seen.{Tables, op_seen, origin_seen}

abbrev pub local_seen : Local → locals.Local
local_seen (local.Plain r) = locals.PlainL r
local_seen (local.Cell r) = locals.CellL r

-- WHAT IS MADE SO FAR; local variables stand with the newest first
pub record State : Type 0 where
  pub texts : ℕ
  pub constants : List Constant
  pub steps : List Lined
  pub cells : List Bool
  pub origins : List Origin
  pub owed : ℕ
  pub registers : ℕ
  pub locals : List locals.Local
  pub breaks : List ℕ

abbrev pub state_of : Maker → State
state_of m = record {
  texts = m.texts;
  constants = m.constants;
  steps = m.steps.items;
  cells = m.cells.items;
  origins = m.origins.items;
  owed = m.owed;
  registers = m.registers;
  locals = reverse (map local_seen m.locals.items);
  breaks = m.breaks;
}

-- nothing is made, in a module with these constants
abbrev pub empty : ℕ → List Constant → List ℕ → State
empty texts constants jumps = record { texts = texts; constants = constants; steps = []; cells = []; origins = []; owed = 0; registers = 0; locals = []; breaks = jumps }

-- the place of the next operation
abbrev pub place : State → ℕ
place s = length s.steps

-- OPEN JUMPS
abbrev pub aim_when : Bool → ℕ → ℕ → ℕ
aim_when true to target = to
aim_when false to target = target

abbrev pub aim : ℕ → ℕ → ℕ
aim to target = aim_when (nat_eq target (2 ^ 32 - 1)) to target

-- an operation, whose target is this one if it was open
abbrev pub aimed : ℕ → Op → Op
aimed to (op.Jump target) = op.Jump (aim to target)
aimed to (op.Test when a target) = op.Test when a (aim to target)
aimed to (op.Compare which a b when target) = op.Compare which a b when (aim to target)
aimed to (op.CountBegins base target) = op.CountBegins base (aim to target)
aimed to (op.EachTests base target) = op.EachTests base (aim to target)
aimed to o = o

-- where an operation jumps to
abbrev pub target_of : flat.Op → Option ℕ
target_of (JumpF target) = Some target
target_of (TestF when a target) = Some target
target_of (CompareF which a b when target) = Some target
target_of (CountBeginsF base target) = Some target
target_of (EachTestsF base target) = Some target
target_of o = None

-- what stands at a place jumps there
abbrev pub Leads : FlatFunction → ℕ → ℕ → Type 0
Leads g at target = (s : flat.Step) → slice_get g.steps at ≡ Some s → target_of s.op ≡ Some target

abbrev pub AllLead : FlatFunction → List ℕ → ℕ → Type 0
AllLead g jumps target = AllByRecursion (λ at. Leads g at target) jumps

-- WHAT A FUNCTION BECOMES: its code, and the lists beside it
pub record Final : Type 0 where
  pub tables : Tables
  pub code : FlatFunction

abbrev pub Begins : (A : Type 0) → List A → List A → Type 0
Begins A some all = (rest : List A) × (all ≡ some ++ rest)

-- an operation stands there with its charge and its line, and if its target was open with some target
pub record Stands (f : Final) (at : ℕ) (l : Lined) : Type 0 where
  pub to : ℕ
  pub has : HasAt f.code at l.charge l.line (op_seen f.tables (aimed to l.op))

-- a function that what is made so far may become
pub record Later (s : State) (f : Final) : Type 0 where
  pub texts : f.tables.texts ≡ s.texts
  pub constants : Begins Constant s.constants f.tables.constants
  pub cells : Begins Bool s.cells f.tables.cells
  pub origins : Begins Origin s.origins f.tables.origins
  pub steps : (at : ℕ) (l : Lined) → slice_get s.steps at ≡ Some l → Stands f at l
  pub registers : s.registers ≤ f.code.registers

-- what the second may become, the first may become
abbrev pub Next : State → State → Type 0
Next s t = (f : Final) → Later t f → Later s f

-- CHANGES
abbrev pub begun : State → State
begun s = record s { owed = s.owed + 1 }

abbrev pub lined : Op → ℕ → State → Lined
lined o line s = record { charge = s.owed; op = o; line = line }

abbrev pub emitted : Op → ℕ → State → State
emitted o line s = record s { steps = s.steps ++ lined o line s ∷ []; owed = 0 }

abbrev pub declared : locals.Local → State → State
declared l s = record s { locals = l ∷ s.locals }

abbrev pub with_breaks : List ℕ → State → State
with_breaks jumps s = record s { breaks = jumps }

-- only the oldest so many local variables are left
abbrev pub closed : ℕ → State → State
closed n s = record s { locals = drop (length s.locals - n) s.locals }

-- what is owed may have been paid
pub data Relieved (s : State) : State → Type 0 where
  as_was : Relieved s s
  relieves : {t : State} → t ≡ emitted op.Pay 0 s → Relieved s t

-- nothing is owed: it is paid where it was
pub data Settled (s : State) : State → Type 0 where
  settled : s.owed ≡ 0 → Settled s s
  pays : {t : State} → t ≡ emitted op.Pay 0 s → Settled s t

-- an open jump, and the same with its target
pub record IsAimed (to : ℕ) (l m : Lined) : Type 0 where
  pub aims : m ≡ record { charge = l.charge; op = aimed to l.op; line = l.line }
  pub leads : (k : Tables) (again : ℕ) → target_of (op_seen k (aimed again m.op)) ≡ Some to

-- there are at least so many registers
pub record Reached (n : ℕ) (s t : State) : Type 0 where
  pub same : t ≡ record s { registers = t.registers }
  pub more : s.registers ≤ t.registers
  pub enough : n ≤ t.registers

-- an open jump has its target now
pub record Led (at target : ℕ) (s t : State) : Type 0 where
  pub same : t ≡ record s { steps = t.steps }
  pub place : length t.steps ≡ length s.steps
  pub next : Next s t
  pub leads : (f : Final) → Later t f → Leads f.code at target

pub record AllLed (jumps : List ℕ) (target : ℕ) (s t : State) : Type 0 where
  pub same : t ≡ record s { steps = t.steps }
  pub place : length t.steps ≡ length s.steps
  pub next : Next s t
  pub lead : (f : Final) → Later t f → AllLead f.code jumps target

-- some of them have it, and then all have if the rest has
pub record LedSoFar (jumps left : List ℕ) (target : ℕ) (s t : State) : Type 0 where
  pub same : t ≡ record s { steps = t.steps }
  pub place : length t.steps ≡ length s.steps
  pub next : Next s t
  pub lead : (f : Final) → Later t f → AllLead f.code left target → AllLead f.code jumps target

-- WHERE CELLS ARE CAPTURED FROM: the origins behind those that were there
pub record Captured (p : Place) (s t : State) : Type 0 where
  pub more : List Origin
  pub same : t ≡ record s { origins = s.origins ++ more }
  pub origins : (places : List Place) (os : List flat.Origin) → IsOrigins s.locals places os → IsOrigins s.locals (p ∷ places) (map origin_seen more ++ os)

-- where cells are captured from so far, and then from all places if the rest is
pub record OriginsSoFar (places left : List Place) (s t : State) : Type 0 where
  pub more : List Origin
  pub same : t ≡ record s { origins = s.origins ++ more }
  pub origins : (os : List flat.Origin) → IsOrigins s.locals left os → IsOrigins s.locals places (map origin_seen more ++ os)

-- a function's step without its line, and that
abbrev pub step_of : Lined → Step
step_of l = record { charge = l.charge; op = l.op }

abbrev pub line_of : Lined → ℕ
line_of l = l.line
