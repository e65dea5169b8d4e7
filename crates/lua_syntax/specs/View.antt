-- The plain tree for which a tree of `lua_syntax` stands: variant for variant, with each child's plain tree in its place.
use Rattle.std.specs.Prelude.{ℕ, List, [], ◌∷◌, Some, None}
use Rattle.lua_syntax.specs.declared.Block.{Block as BlockNode}
use Rattle.lua_syntax.specs.declared.Stat.{Stat as StatNode}
use Rattle.lua_syntax.specs.declared.StatKind.{StatKind}
use Rattle.lua_syntax.specs.declared.Arm.{Arm as ArmNode}
use Rattle.lua_syntax.specs.declared.Expr.{Expr}
use Rattle.lua_syntax.specs.declared.ExprKind.{ExprKind}
use Rattle.lua_syntax.specs.declared.Function.{Function as FunctionNode}
use Rattle.lua_syntax.specs.declared.Field.{Field}
use Rattle.lua_syntax.specs.declared.Chunk.{Chunk}
use Rattle.lua_syntax.specs.declared.ExprKind.TheOpen.{ExprKind-F, Nil, True, False, Number, Text, Dots, Function, Name, Index, ExprKind::Call, Method, Table, Binary, Unary, Paren, Field-F, Item as ItemField, Pair as PairField, StatKind-F, Assign, StatKind::Call, Do, While, Repeat, If, Count, Each, LocalFunction, Local, Return, Break, Arm-F, Block-F, Expr-F, Function-F, Stat-F}
use Rattle.lua_syntax.specs.declared.ExprKind.TheFolds.{fold-ExprKind, fold-Field, fold-StatKind, fold-Arm, fold-Block, fold-Expr, fold-Function, fold-Stat}
use Rattle.lua_syntax.specs.Tree.{Exp, Exps, Fields, Fun, Block, Arms, Stat, NilE, TrueE, FalseE, NumberE, TextE, DotsE, FunctionE, NameE, IndexE, CallE, MethodE, TableE, BinaryE, UnaryE, ParenE, NoExp, MoreExp, NoField, Item, Pair, Lambda, NoStat, MoreStat, NoArm, Arm, AssignS, CallS, DoS, WhileS, RepeatS, IfS, IfElseS, CountS, CountByS, EachS, LocalFunctionS, LocalS, ReturnS, BreakS}

abbrev pub exps_of : List Exp → Exps
exps_of [] = NoExp
exps_of (e ∷ es) = MoreExp e (exps_of es)

-- A field and an arm, as what they put before the rest.
abbrev pub fields_of : List (Fields → Fields) → Fields
fields_of [] = NoField
fields_of (f ∷ fs) = f (fields_of fs)

abbrev pub arms_of : List (Arms → Arms) → Arms
arms_of [] = NoArm
arms_of (a ∷ as') = a (arms_of as')

abbrev pub stats_of : List Stat → Block
stats_of [] = NoStat
stats_of (s ∷ ss) = MoreStat s (stats_of ss)

-- One level of a type of the tree, with each child's plain tree in its place. The kind of an expression or statement wants the
-- line of its node; a field and an arm want what comes after them.
abbrev pub Level : (Type 0 → Type 0 → Type 0 → Type 0 → Type 0 → Type 0 → Type 0 → Type 0 → Type 0) → Type 0
Level F = F (ℕ → Exp) (Fields → Fields) (ℕ → Stat) (Arms → Arms) Block Exp Fun Stat

abbrev pub kind_step : Level ExprKind-F → ℕ → Exp
kind_step Nil line = NilE line
kind_step True line = TrueE line
kind_step False line = FalseE line
kind_step (Number n) line = NumberE line n
kind_step (Text t) line = TextE line t
kind_step Dots line = DotsE line
kind_step (Function f) line = FunctionE line f
kind_step (Name n) line = NameE line n
kind_step (Index of at) line = IndexE line of.value at.value
kind_step (ExprKind::Call f args) line = CallE line f.value (exps_of args)
kind_step (Method of name args) line = MethodE line of.value name (exps_of args)
kind_step (Table fields) line = TableE line (fields_of fields)
kind_step (Binary op a b) line = BinaryE line op a.value b.value
kind_step (Unary op a) line = UnaryE line op a.value
kind_step (Paren a) line = ParenE line a.value

abbrev pub field_step : Level Field-F → Fields → Fields
field_step (ItemField e) rest = Item e rest
field_step (PairField k v) rest = Pair k v rest

abbrev pub stat_step : Level StatKind-F → ℕ → Stat
stat_step (Assign targets values) line = AssignS line (exps_of targets) (exps_of values)
stat_step (StatKind::Call e) line = CallS line e
stat_step (Do b) line = DoS line b
stat_step (While e b) line = WhileS line e b
stat_step (Repeat b e) line = RepeatS line b e
stat_step (If arms None) line = IfS line (arms_of arms)
stat_step (If arms (Some b)) line = IfElseS line (arms_of arms) b
stat_step (Count name from to None body) line = CountS line name from to body
stat_step (Count name from to (Some by) body) line = CountByS line name from to by body
stat_step (Each names values body) line = EachS line names (exps_of values) body
stat_step (LocalFunction name f) line = LocalFunctionS line name f
stat_step (Local names values) line = LocalS line names (exps_of values)
stat_step (Return values) line = ReturnS line (exps_of values)
stat_step Break line = BreakS line

-- A fold, with the step of each type.
abbrev pub with_steps : {R : Type 0} → ((Level ExprKind-F → ℕ → Exp) → (Level Field-F → Fields → Fields) → (Level StatKind-F → ℕ → Stat) → (Level Arm-F → Arms → Arms) → (Level Block-F → Block) → (Level Expr-F → Exp) → (Level Function-F → Fun) → (Level Stat-F → Stat) → R) → R
with_steps fold = fold kind_step field_step stat_step (λ a rest. Arm a.test a.body rest) (λ b. stats_of b.stats) (λ e. e.kind e.line) (λ f. Lambda f.params f.dots f.body) (λ s. s.kind s.line)

unfoldable pub kind_view : ExprKind → ℕ → Exp
kind_view = with_steps (fold-ExprKind _ _ _ _ _ _ _ _)

unfoldable pub field_view : Field → Fields → Fields
field_view = with_steps (fold-Field _ _ _ _ _ _ _ _)

unfoldable pub stat_kind_view : StatKind → ℕ → Stat
stat_kind_view = with_steps (fold-StatKind _ _ _ _ _ _ _ _)

unfoldable pub arm_view : ArmNode → Arms → Arms
arm_view = with_steps (fold-Arm _ _ _ _ _ _ _ _)

unfoldable pub block_view : BlockNode → Block
block_view = with_steps (fold-Block _ _ _ _ _ _ _ _)

unfoldable pub expr_view : Expr → Exp
expr_view = with_steps (fold-Expr _ _ _ _ _ _ _ _)

unfoldable pub function_view : FunctionNode → Fun
function_view = with_steps (fold-Function _ _ _ _ _ _ _ _)

unfoldable pub stat_view : StatNode → Stat
stat_view = with_steps (fold-Stat _ _ _ _ _ _ _ _)

-- Lists of trees.
abbrev pub exprs_view : List Expr → Exps
exprs_view [] = NoExp
exprs_view (e ∷ es) = MoreExp (expr_view e) (exprs_view es)

abbrev pub fields_view : List Field → Fields
fields_view [] = NoField
fields_view (f ∷ fs) = field_view f (fields_view fs)

abbrev pub arms_view : List ArmNode → Arms
arms_view [] = NoArm
arms_view (a ∷ rest) = arm_view a (arms_view rest)

abbrev pub stats_view : List StatNode → Block
stats_view [] = NoStat
stats_view (s ∷ ss) = MoreStat (stat_view s) (stats_view ss)

-- The plain tree of a chunk.
abbrev pub chunk_view : Chunk → Block
chunk_view c = block_view c.body
