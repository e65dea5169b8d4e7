-- The flat code (`lua_flat`) that each type of this crate is seen as: variant for variant. Numbers of constants name texts of the module
-- first, and then what the list of others has; parts of lists stand beside the code.
use Rattle.std.specs.Prelude.{ℕ, ◌-◌, ◌^◌, pos, Bool, List, map, take, drop, slice_get, Option, Some, None, if◌then◌else◌, nat_lt, nat_eq}
use Rattle.lua_heap.specs.Value.{Value}
use Rattle.lua_heap.specs.Value as value
use Rattle.lua_code.specs.Seen.{operator_seen}
use Rattle.lua_flat.specs.Operations as flat
use Rattle.lua_flat.specs.Operations.{RegisterO, ConstantO, TextO, Exactly, Every, InRegister, InCaptured, FlatFunction}
use Rattle.lua_flat_code.specs.declared.operand.Operand.{Operand}
use Rattle.lua_flat_code.specs.declared.operand.Wanted.{Wanted}
use Rattle.lua_flat_code.specs.declared.operand.Constant.{Constant}
use Rattle.lua_flat_code.specs.declared.operand.Constant.TheVariants as constant
use Rattle.lua_flat_code.specs.declared.operand.Origin.{Origin}
use Rattle.lua_flat_code.specs.declared.operand.Origin.TheVariants as origin
use Rattle.lua_flat_code.specs.declared.op.Op.{Op}
use Rattle.lua_flat_code.specs.declared.op.Op.TheVariants as op
use Rattle.lua_flat_code.specs.declared.op.Step.{Step}
use Rattle.lua_flat_code.specs.declared.function.Function.{Function}

abbrev pub constant_seen : Constant → Value
constant_seen constant.Nil = value.Nil
constant_seen (constant.Truth b) = value.Truth b
constant_seen (constant.Number z) = value.Number z

abbrev pub origin_seen : Origin → flat.Origin
origin_seen (origin.Register r) = InRegister r
origin_seen (origin.Captured n) = InCaptured n

-- HOW MANY: the largest number is as many as there are
abbrev pub wanted_seen : Wanted → flat.Wanted
wanted_seen w = if nat_eq w.code (2 ^ 32 - 1) then Every else Exactly w.code

-- LISTS of which operations name parts: how many texts the module has, and its other constants; which new variables have cells; and where
-- captured cells come from
pub record Tables : Type 0 where
  pub texts : ℕ
  pub constants : List Constant
  pub cells : List Bool
  pub origins : List Origin

-- a constant that isn't there is nil
abbrev pub or_nil : Option Constant → Value
or_nil None = value.Nil
or_nil (Some c) = constant_seen c

abbrev pub numbered : Tables → ℕ → flat.Operand
numbered k n = if nat_lt n k.texts then TextO n else ConstantO (or_nil (slice_get k.constants (n - k.texts)))

abbrev pub operand_seen : Tables → Operand → flat.Operand
operand_seen k o = if nat_lt o.code (2 ^ 31) then RegisterO o.code else numbered k (o.code - 2 ^ 31)

abbrev pub cells_seen : Tables → ℕ → ℕ → List Bool
cells_seen k first count = take count (drop first k.cells)

abbrev pub origins_seen : Tables → ℕ → ℕ → List flat.Origin
origins_seen k first count = map origin_seen (take count (drop first k.origins))

abbrev pub op_seen : Tables → Op → flat.Op
op_seen k op.Pay = flat.PayF
op_seen k (op.Load to from) = flat.LoadF to (operand_seen k from)
op_seen k (op.Nils to count) = flat.NilsF to count
op_seen k (op.Dots to wanted) = flat.DotsF to (wanted_seen wanted)
op_seen k (op.Closure to index first count) = flat.ClosureF to index (origins_seen k first count)
op_seen k (op.Named boxed to index first count) = flat.NamedF boxed to index (origins_seen k first count)
op_seen k (op.Open at first count) = flat.OpenF at (cells_seen k first count)
op_seen k (op.GetCell to cell) = flat.GetCellF to cell
op_seen k (op.SetCell cell from) = flat.SetCellF cell (operand_seen k from)
op_seen k (op.GetUp to captured) = flat.GetUpF to captured
op_seen k (op.SetUp captured from) = flat.SetUpF captured (operand_seen k from)
op_seen k (op.GetGlobal to name) = flat.GetGlobalF to name
op_seen k (op.SetGlobal name from) = flat.SetGlobalF name (operand_seen k from)
op_seen k (op.Index to of key) = flat.IndexF to (operand_seen k of) (operand_seen k key)
op_seen k (op.SetIndex of key from) = flat.SetIndexF (operand_seen k of) (operand_seen k key) (operand_seen k from)
op_seen k (op.Method to of name) = flat.MethodF to (operand_seen k of) name
op_seen k (op.Table to) = flat.TableF to
op_seen k (op.SetField table key from) = flat.SetFieldF table (operand_seen k key) (operand_seen k from)
op_seen k (op.SetItem table place from) = flat.SetFieldF table (ConstantO (value.Number (pos place))) (operand_seen k from)
op_seen k (op.SetItems table place from) = flat.SetItemsF table place from
op_seen k (op.Operate which to a b) = flat.OperateF (operator_seen which) to (operand_seen k a) (operand_seen k b)
op_seen k (op.Unary which to a) = flat.UnaryF which to (operand_seen k a)
op_seen k (op.Jump target) = flat.JumpF target
op_seen k (op.Test when a target) = flat.TestF when (operand_seen k a) target
op_seen k (op.Compare which a b when target) = flat.CompareF (operator_seen which) (operand_seen k a) (operand_seen k b) when target
op_seen k (op.CountBegins base target) = flat.CountBeginsF base target
op_seen k (op.CountGoesOn base target) = flat.CountGoesOnF base target
op_seen k (op.EachCalls base count) = flat.EachCallsF base count
op_seen k (op.EachTests base target) = flat.EachTestsF base target
op_seen k (op.Call to base arguments results) = flat.CallF to base (wanted_seen arguments) (wanted_seen results)
op_seen k (op.Return from count) = flat.ReturnF from (wanted_seen count)
op_seen k op.Refuse = flat.RefuseF

abbrev pub step_seen : Tables → Step → flat.Step
step_seen k s = record { charge = s.charge; op = op_seen k s.op }

-- FUNCTIONS
abbrev pub function_seen : ℕ → List Constant → Function → FlatFunction
function_seen texts constants f = record {
  flags = f.flags;
  dots = f.dots;
  registers = f.registers;
  steps = map (step_seen (record { texts = texts; constants = constants; cells = f.cells; origins = f.origins })) f.steps;
  lines = f.lines;
}
