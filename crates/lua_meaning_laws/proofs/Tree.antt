-- The forms of the tree: one line for each, by recursion on the tree.
use Rattle.std.specs.Prelude.{true, false, Some, None}
use Rattle.lua_meaning.specs.LuaSyntaxTree.{Exp, NilE, TrueE, FalseE, NumberE, TextE, DotsE, FunctionE, NameE, IndexE, CallE, MethodE, TableE, BinaryE, UnaryE, ParenE}
use Rattle.lua_meaning.specs.LuaSyntaxTree.{Exps, NoExp, MoreExp, Fields, NoField, Item, Pair, Fun, Lambda, Block, NoStat, MoreStat, Arms, NoArm, Arm}
use Rattle.lua_meaning.specs.LuaSyntaxTree.{Stat, AssignS, CallS, DoS, WhileS, RepeatS, IfS, IfElseS, CountS, CountByS, EachS, LocalFunctionS, LocalS, ReturnS, BreakS}
use Rattle.lua_meaning.specs.LuaHeapValue.{Nil, Truth, Number, Text}
use Rattle.lua_meaning.specs.Scope.{Scope}
use Rattle.lua_meaning.specs.Meaning as tree
use Rattle.lua_meaning_laws.proofs.OnlyData.{Quiet, Everywhere, Each, give, raise}
use Rattle.lua_meaning_laws.proofs.Expressions.{EachField, constant, dots, name, index_expression, function, call_expression, method, paren, binary, unary, index_target, table_constructor}
use Rattle.lua_meaning_laws.proofs.Statements.{EachBranch, in_order, at_end, do_block, assign, local, local_function, call_statement, conditional, return, break}
use Rattle.lua_meaning_laws.proofs.Loops.{while_loop, repeat_loop, counting_loop, generic_loop}

mutual
  pub expression : (e : Exp) → Everywhere (tree.expression e)
  expression (NilE line) = record { at = constant Nil }
  expression (TrueE line) = record { at = constant (Truth true) }
  expression (FalseE line) = record { at = constant (Truth false) }
  expression (NumberE line z) = record { at = constant (Number z) }
  expression (TextE line t) = record { at = constant (Text t) }
  expression (DotsE line) = record { at = dots }
  expression (FunctionE line f) = record { at = function f }
  expression (NameE line x) = record { at = name x line }
  expression (IndexE line of key) = record { at = index_expression (expression of) (expression key) line }
  expression (CallE line f args) = record { at = call_expression (tree.expressions args) (expression f) (expressions args) line }
  expression (MethodE line of x args) = record { at = method x (tree.expressions args) (expression of) (expressions args) line }
  expression (TableE line fields) = record { at = table_constructor (tree.fields_of fields) (fields_of fields) line }
  expression (BinaryE line o a b) = record { at = binary o (expression a) (expression b) line }
  expression (UnaryE line o a) = record { at = unary o (expression a) line }
  expression (ParenE line a) = record { at = paren (expression a) }

  pub expressions : (es : Exps) → Each (tree.expressions es)
  expressions NoExp = tt
  expressions (MoreExp e more) = (expression e, expressions more)

  fields_of : (fields : Fields) → EachField (tree.fields_of fields)
  fields_of NoField = tt
  fields_of (Item e more) = (expression e, fields_of more)
  fields_of (Pair key e more) = (expression key, expression e, fields_of more)

target : (e : Exp) (scope : Scope) → Quiet (tree.target e scope)
target (NameE line x) scope = give _
target (IndexE line of key) scope = index_target (expression of) (expression key) line scope
target _ scope = raise _

targets_of : (es : Exps) → Each (tree.targets_of es)
targets_of NoExp = tt
targets_of (MoreExp e more) = (record { at = target e }, targets_of more)

mutual
  statement : (s : Stat) → Everywhere (tree.statement s)
  statement (AssignS line left right) = record { at = assign (tree.targets_of left) (tree.expressions right) (targets_of left) (expressions right) }
  statement (CallS line e) = record { at = call_statement (expression e) }
  statement (DoS line b) = record { at = do_block (block b) }
  statement (WhileS line test b) = record { at = while_loop (tree.exp_part test) (tree.block_part b) (expression test) }
  statement (RepeatS line b test) = record { at = repeat_loop (tree.block_part b) (tree.exp_part test) }
  statement (IfS line arms) = record { at = conditional (tree.branches_of arms) None (branches_of arms) tt }
  statement (IfElseS line arms other) = record { at = conditional (tree.branches_of arms) (Some (tree.block other)) (branches_of arms) (block other) }
  statement (CountS line x from to b) = record { at = counting_loop x None (tree.block_part b) (expression from) (expression to) tt line }
  statement (CountByS line x from to by b) = record { at = counting_loop x (Some (tree.expression by)) (tree.block_part b) (expression from) (expression to) (expression by) line }
  statement (EachS line names right b) = record { at = generic_loop names (tree.expressions right) (tree.block_part b) (expressions right) line }
  statement (LocalFunctionS line x f) = record { at = local_function x f }
  statement (LocalS line names right) = record { at = local names (tree.expressions right) (expressions right) }
  statement (ReturnS line right) = record { at = return (tree.expressions right) (expressions right) }
  statement (BreakS line) = record { at = break }

  pub block : (b : Block) → Everywhere (tree.block b)
  block NoStat = record { at = at_end }
  block (MoreStat s more) = record { at = in_order (statement s) (block more) }

  branches_of : (arms : Arms) → EachBranch (tree.branches_of arms)
  branches_of NoArm = tt
  branches_of (Arm test b more) = (expression test, block b, branches_of more)

pub body_of : (f : Fun) → Everywhere (tree.body_of f)
body_of (Lambda params vararg b) = block b
