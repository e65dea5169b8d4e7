-- The plain code (`lua_slots`) that each type of this crate is seen as: variant for variant, with what each child is seen as in its
-- place. A list of statements is a block, in which a declaration stands in front of what follows it.
use Rattle.std.specs.Prelude.{ℕ, zero, suc, List, [], ◌∷◌, map, slice_get, Option, Some, None, option_map}
use Rattle.lua_slots.specs.LuaHeapValue as value
use Rattle.lua_slots.specs.LuaMeaningOperators as plain
use Rattle.lua_slots.specs.LuaMeaningScope.{Bytes}
use Rattle.lua_slots.specs.Code.{Place as PlaceC', Reg, Box as BoxP, Up, CExp, ConstantC, TextC, DotsC, FunctionC, LocalC, GlobalC, IndexC, CallC, MethodC, TableC, AndC, OrC, OperateC, UnaryC, ParenC}
use Rattle.lua_slots.specs.Code.{CExps, NoC, MoreC, CFields, NoFieldC, ItemC, PairC, CTarget, PlaceC, GlobalTargetC, EntryC, RefusedC}
use Rattle.lua_slots.specs.Code.{AssignC, CallStatC, DoC, WhileC, RepeatC, IfC, IfElseC, CountC, CountByC, EachC, ReturnC, BreakC, CBlock, EndC, DeclareC, LocalFunctionC, ThenC, CArms, NoArmC, ArmC}
use Rattle.lua_slots.specs.Code.{CProto, Protos as PlainProtos}
use Rattle.lua_code.specs.declared.place.Place.{Place}
use Rattle.lua_code.specs.declared.place.Place.TheVariants as place
use Rattle.lua_code.specs.declared.operator.Arithmetic.{Arithmetic}
use Rattle.lua_code.specs.declared.operator.Arithmetic.TheVariants.{Plus, Minus, Times, Divide, Modulo, Power}
use Rattle.lua_code.specs.declared.operator.Operator.{Operator}
use Rattle.lua_code.specs.declared.operator.Operator.TheVariants as operator
use Rattle.lua_code.specs.declared.expression.Expression.{Expression}
use Rattle.lua_code.specs.declared.expression.Entry.{Entry}
use Rattle.lua_code.specs.declared.expression.Entry.TheOpen.{Expression-F, Nil, Truth, Number, Text, Dots, Function, Local, Global, Index, Call, Method, Table, And, Or, Operate, Unary, Paren, Entry-F, Item, Pair}
use Rattle.lua_code.specs.declared.expression.Entry.TheFolds.{fold-Expression, fold-Entry}
use Rattle.lua_code.specs.declared.statement.Target.{Target}
use Rattle.lua_code.specs.declared.statement.Target.TheVariants as target
use Rattle.lua_code.specs.declared.statement.Statement.{Statement}
use Rattle.lua_code.specs.declared.statement.Branch.{Branch}
use Rattle.lua_code.specs.declared.statement.Statement.TheOpen.{Statement-F, Branch-F, Assign, Call as CallStat, Do, While, Repeat, If, Count, Each, Return, Break, Declare, LocalFunction}
use Rattle.lua_code.specs.declared.statement.Statement.TheFolds.{fold-Statement, fold-Branch}
use Rattle.lua_code.specs.declared.proto.Proto.{Proto}
use Rattle.lua_code.specs.declared.proto.Protos.{Protos}

abbrev pub place_seen : Place → PlaceC'
place_seen (place.Register i) = Reg i
place_seen (place.Cell i) = BoxP i
place_seen (place.Captured i) = Up i

abbrev pub arithmetic_seen : Arithmetic → plain.Arithmetic
arithmetic_seen Plus = plain.Add
arithmetic_seen Minus = plain.Sub
arithmetic_seen Times = plain.Mul
arithmetic_seen Divide = plain.Div
arithmetic_seen Modulo = plain.Mod
arithmetic_seen Power = plain.Pow

abbrev pub operator_seen : Operator → plain.Operator
operator_seen operator.Less = plain.Less
operator_seen operator.Greater = plain.Greater
operator_seen operator.AtMost = plain.AtMost
operator_seen operator.AtLeast = plain.AtLeast
operator_seen operator.Equal = plain.Equal
operator_seen operator.Unequal = plain.Unequal
operator_seen operator.Concatenate = plain.Concatenate
operator_seen (operator.Calculate a) = plain.Calculate (arithmetic_seen a)

-- EXPRESSIONS
abbrev pub codes_of : List CExp → CExps
codes_of [] = NoC
codes_of (e ∷ es) = MoreC e (codes_of es)

-- an entry, as what it puts before the rest
abbrev pub entries_of : List (CFields → CFields) → CFields
entries_of [] = NoFieldC
entries_of (e ∷ es) = e (entries_of es)

-- one level, with what each child is seen as in its place
abbrev pub expression_step : Expression-F (CFields → CFields) CExp → CExp
expression_step Nil = ConstantC value.Nil
expression_step (Truth b) = ConstantC (value.Truth b)
expression_step (Number z) = ConstantC (value.Number z)
expression_step (Text n) = TextC n
expression_step Dots = DotsC
expression_step (Function index places) = FunctionC index (map place_seen places)
expression_step (Local p) = LocalC (place_seen p)
expression_step (Global name line) = GlobalC name line
expression_step (Index of key line) = IndexC of.value key.value line
expression_step (Call f args line) = CallC f.value (codes_of args) line
expression_step (Method of name args line) = MethodC of.value name (codes_of args) line
expression_step (Table entries line) = TableC (entries_of entries) line
expression_step (And a b) = AndC a.value b.value
expression_step (Or a b) = OrC a.value b.value
expression_step (Operate op a b line) = OperateC (operator_seen op) a.value b.value line
expression_step (Unary op a line) = UnaryC op a.value line
expression_step (Paren a) = ParenC a.value

abbrev pub entry_step : Entry-F (CFields → CFields) CExp → CFields → CFields
entry_step (Item e) rest = ItemC e rest
entry_step (Pair k e) rest = PairC k e rest

unfoldable pub expression_seen : Expression → CExp
expression_seen = fold-Expression _ _ entry_step expression_step

unfoldable pub entry_seen : Entry → CFields → CFields
entry_seen = fold-Entry _ _ entry_step expression_step

abbrev pub expressions_seen : List Expression → CExps
expressions_seen [] = NoC
expressions_seen (e ∷ es) = MoreC (expression_seen e) (expressions_seen es)

abbrev pub entries_seen : List Entry → CFields
entries_seen [] = NoFieldC
entries_seen (e ∷ es) = entry_seen e (entries_seen es)

-- STATEMENTS
abbrev pub target_seen : Target → CTarget
target_seen (target.Variable p) = PlaceC (place_seen p)
target_seen (target.Global name line) = GlobalTargetC name line
target_seen (target.At of key line) = EntryC (expression_seen of) (expression_seen key) line
target_seen target.Refused = RefusedC

-- a statement and an arm, as what they put before the rest
abbrev pub block_of : List (CBlock → CBlock) → CBlock
block_of [] = EndC
block_of (s ∷ ss) = s (block_of ss)

abbrev pub arms_of : List (CArms → CArms) → CArms
arms_of [] = NoArmC
arms_of (a ∷ more) = a (arms_of more)

abbrev pub statement_step : Statement-F (CBlock → CBlock) (CArms → CArms) → CBlock → CBlock
statement_step (Assign targets values) rest = ThenC (AssignC (map target_seen targets) (expressions_seen values)) rest
statement_step (CallStat e) rest = ThenC (CallStatC (expression_seen e)) rest
statement_step (Do b) rest = ThenC (DoC (block_of b)) rest
statement_step (While e b) rest = ThenC (WhileC (expression_seen e) (block_of b)) rest
statement_step (Repeat b e) rest = ThenC (RepeatC (block_of b) (expression_seen e)) rest
statement_step (If arms None) rest = ThenC (IfC (arms_of arms)) rest
statement_step (If arms (Some b)) rest = ThenC (IfElseC (arms_of arms) (block_of b)) rest
statement_step (Count boxed from to None b line) rest = ThenC (CountC boxed (expression_seen from.value) (expression_seen to.value) (block_of b) line) rest
statement_step (Count boxed from to (Some by) b line) rest = ThenC (CountByC boxed (expression_seen from.value) (expression_seen to.value) (expression_seen by.value) (block_of b) line) rest
statement_step (Each flags values b line) rest = ThenC (EachC flags (expressions_seen values) (block_of b) line) rest
statement_step (Return values) rest = ThenC (ReturnC (expressions_seen values)) rest
statement_step Break rest = ThenC BreakC rest
statement_step (Declare flags values) rest = DeclareC flags (expressions_seen values) rest
statement_step (LocalFunction boxed index places) rest = LocalFunctionC boxed index (map place_seen places) rest

abbrev pub branch_step : Branch-F (CBlock → CBlock) (CArms → CArms) → CArms → CArms
branch_step a rest = ArmC (expression_seen a.test) (block_of a.body) rest

unfoldable pub statement_seen : Statement → CBlock → CBlock
statement_seen = fold-Statement _ _ statement_step branch_step

unfoldable pub branch_seen : Branch → CArms → CArms
branch_seen = fold-Branch _ _ statement_step branch_step

-- a list of statements as a block
abbrev pub block_seen : List Statement → CBlock
block_seen [] = EndC
block_seen (s ∷ ss) = statement_seen s (block_seen ss)

abbrev pub branches_seen : List Branch → CArms
branches_seen [] = NoArmC
branches_seen (a ∷ more) = branch_seen a (branches_seen more)

-- FUNCTIONS
abbrev pub proto_seen : Proto → CProto
proto_seen p = record { flags = p.flags; dots = p.dots; body = block_seen p.body }

-- number 0 is the text, and the others follow
abbrev pub function_in : Proto → List Proto → ℕ → Option CProto
function_in text functions zero = Some (proto_seen text)
function_in text functions (suc i) = option_map proto_seen (slice_get functions i)

-- a constant that is not there is empty
abbrev pub or_empty : Option Bytes → Bytes
or_empty None = []
or_empty (Some t) = t

abbrev pub protos_seen : Protos → PlainProtos
protos_seen ps = record { function = function_in ps.text ps.functions; constant = λ n. or_empty (slice_get ps.constants n) }
