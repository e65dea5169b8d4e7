-- THE MEANING OF THE TREE (manual 2.4 and 2.5): one line for each form, by recursion on the plain tree of a chunk. The forms are
-- explained in `Expressions`, `Constructors`, `Statements` and `Loops`; each gets the meanings of its parts, and its line.
use Rattle.std.specs.Prelude.{Bool, true, false, List, [], ◌∷◌, Some, None}
use Rattle.lua_syntax.specs.Tree.{Exp, NilE, TrueE, FalseE, NumberE, TextE, DotsE, FunctionE, NameE, IndexE, CallE, MethodE, TableE, BinaryE, UnaryE, ParenE}
use Rattle.lua_syntax.specs.Tree.{Exps, NoExp, MoreExp, Fields, NoField, Item, Pair, Fun, Lambda, Block, NoStat, MoreStat, Arms, NoArm, Arm}
use Rattle.lua_syntax.specs.Tree.{Stat, AssignS, CallS, DoS, WhileS, RepeatS, IfS, IfElseS, CountS, CountByS, EachS, LocalFunctionS, LocalS, ReturnS, BreakS}
use Rattle.page_run.specs.Outcome.{give}
use Rattle.lua_walk.specs.LuaHeapValue.{Nil, Truth, Number, Text}
use Rattle.lua_meaning.specs.Scope.{Bytes, cell_of, levels}
use Rattle.lua_meaning.specs.Acts.{raise}
use Rattle.lua_meaning.specs.Messages.{no_target}
use Rattle.lua_meaning.specs.Parts.{Expression, Targeted, Statement, Branch, FieldMeaning, ItemOf, PairOf, ExpPart, BlockPart}
use Rattle.lua_meaning.specs.Expressions.{constant, dots, name, index_expression, function, call_expression, method, paren, binary, unary, name_target, index_target}
use Rattle.lua_meaning.specs.Constructors.{table_constructor}
use Rattle.lua_meaning.specs.Statements.{in_order, at_end, do_block, assign, local, local_function, call_statement, conditional, return, break}
use Rattle.lua_meaning.specs.Loops.{while_loop, repeat_loop, counting_loop, generic_loop}

-- EXPRESSIONS
abbrev mutual
  pub expression : Exp → Expression
  expression (NilE line) = constant Nil
  expression (TrueE line) = constant (Truth true)
  expression (FalseE line) = constant (Truth false)
  expression (NumberE line z) = constant (Number z)
  expression (TextE line t) = constant (Text t)
  expression (DotsE line) = dots
  expression (FunctionE line f) = function f
  expression (NameE line x) = name x line
  expression (IndexE line of key) = index_expression (expression of) (expression key) line
  expression (CallE line f args) = call_expression (expression f) (expressions args) line
  expression (MethodE line of x args) = method (expression of) x (expressions args) line
  expression (TableE line fields) = table_constructor (fields_of fields) line
  expression (BinaryE line o a b) = binary o (expression a) (expression b) line
  expression (UnaryE line o a) = unary o (expression a) line
  expression (ParenE line a) = paren (expression a)

  pub expressions : Exps → List Expression
  expressions NoExp = []
  expressions (MoreExp e more) = expression e ∷ expressions more

  pub fields_of : Fields → List FieldMeaning
  fields_of NoField = []
  fields_of (Item e more) = ItemOf (expression e) ∷ fields_of more
  fields_of (Pair key e more) = PairOf (expression key) (expression e) ∷ fields_of more

-- TARGETS: a target is a name or an index. No chunk has another one, and it is refused.
abbrev pub target : Exp → Targeted
target (NameE line x) scope = give (name_target (cell_of scope.names x) x (levels scope line))
target (IndexE line of key) scope = index_target (expression of) (expression key) line scope
target _ scope = raise (Text no_target)

abbrev pub targets_of : Exps → List Targeted
targets_of NoExp = []
targets_of (MoreExp e more) = target e ∷ targets_of more

-- STATEMENTS
abbrev mutual
  pub statement : Stat → Statement
  statement (AssignS line left right) = assign (targets_of left) (expressions right)
  statement (CallS line e) = call_statement (expression e)
  statement (DoS line b) = do_block (block b)
  statement (WhileS line test b) = while_loop (record { tree = test; meaning = expression test }) (record { tree = b; meaning = block b })
  statement (RepeatS line b test) = repeat_loop (record { tree = b; meaning = block b }) (record { tree = test; meaning = expression test })
  statement (IfS line arms) = conditional (branches_of arms) None
  statement (IfElseS line arms other) = conditional (branches_of arms) (Some (block other))
  statement (CountS line x from to b) = counting_loop x (expression from) (expression to) None (record { tree = b; meaning = block b }) line
  statement (CountByS line x from to by b) = counting_loop x (expression from) (expression to) (Some (expression by)) (record { tree = b; meaning = block b }) line
  statement (EachS line names right b) = generic_loop names (expressions right) (record { tree = b; meaning = block b }) line
  statement (LocalFunctionS line x f) = local_function x f
  statement (LocalS line names right) = local names (expressions right)
  statement (ReturnS line right) = return (expressions right)
  statement (BreakS line) = break

  pub block : Block → Statement
  block NoStat = at_end
  block (MoreStat s more) = in_order (statement s) (block more)

  pub branches_of : Arms → List Branch
  branches_of NoArm = []
  branches_of (Arm test b more) = record { test = expression test; body = block b } ∷ branches_of more

-- FUNCTIONS: their parameters, whether these end with `...`, and their bodies
abbrev pub params_of : Fun → List Bytes
params_of (Lambda params vararg b) = params

abbrev pub has_dots : Fun → Bool
has_dots (Lambda params vararg b) = vararg

abbrev pub body_of : Fun → Statement
body_of (Lambda params vararg b) = block b

-- a part of the tree beside its meaning
abbrev pub exp_part : Exp → ExpPart
exp_part e = record { tree = e; meaning = expression e }

abbrev pub block_part : Block → BlockPart
block_part b = record { tree = b; meaning = block b }
