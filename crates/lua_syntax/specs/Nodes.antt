-- The lines of the nodes of a plain tree, in order of the text: a statement before what is in it, and an expression before its
-- parts. A node is a statement or an expression.
use Rattle.std.specs.Prelude.{ℕ, List, [], ◌∷◌, ◌++◌}
use Rattle.lua_syntax.specs.Tree.{Exp, Exps, Fields, Fun, Block, Arms, Stat, NilE, TrueE, FalseE, NumberE, TextE, DotsE, FunctionE, NameE, IndexE, CallE, MethodE, TableE, BinaryE, UnaryE, ParenE, NoExp, MoreExp, NoField, Item, Pair, Lambda, NoStat, MoreStat, NoArm, Arm, AssignS, CallS, DoS, WhileS, RepeatS, IfS, IfElseS, CountS, CountByS, EachS, LocalFunctionS, LocalS, ReturnS, BreakS}

abbrev mutual
  pub expr_lines : Exp → List ℕ
  expr_lines (NilE line) = line ∷ []
  expr_lines (TrueE line) = line ∷ []
  expr_lines (FalseE line) = line ∷ []
  expr_lines (NumberE line n) = line ∷ []
  expr_lines (TextE line text) = line ∷ []
  expr_lines (DotsE line) = line ∷ []
  expr_lines (FunctionE line f) = line ∷ function_lines f
  expr_lines (NameE line name) = line ∷ []
  expr_lines (IndexE line of at) = line ∷ (expr_lines of ++ expr_lines at)
  expr_lines (CallE line f args) = line ∷ (expr_lines f ++ exprs_lines args)
  expr_lines (MethodE line of name args) = line ∷ (expr_lines of ++ exprs_lines args)
  expr_lines (TableE line fields) = line ∷ fields_lines fields
  expr_lines (BinaryE line op a b) = line ∷ (expr_lines a ++ expr_lines b)
  expr_lines (UnaryE line op a) = line ∷ expr_lines a
  expr_lines (ParenE line a) = line ∷ expr_lines a

  pub exprs_lines : Exps → List ℕ
  exprs_lines NoExp = []
  exprs_lines (MoreExp e rest) = expr_lines e ++ exprs_lines rest

  pub fields_lines : Fields → List ℕ
  fields_lines NoField = []
  fields_lines (Item e rest) = expr_lines e ++ fields_lines rest
  fields_lines (Pair k v rest) = expr_lines k ++ (expr_lines v ++ fields_lines rest)

  pub function_lines : Fun → List ℕ
  function_lines (Lambda params dots body) = block_lines body

  pub block_lines : Block → List ℕ
  block_lines NoStat = []
  block_lines (MoreStat s rest) = stat_lines s ++ block_lines rest

  pub arms_lines : Arms → List ℕ
  arms_lines NoArm = []
  arms_lines (Arm test body rest) = expr_lines test ++ (block_lines body ++ arms_lines rest)

  pub stat_lines : Stat → List ℕ
  stat_lines (AssignS line targets values) = line ∷ (exprs_lines targets ++ exprs_lines values)
  stat_lines (CallS line e) = line ∷ expr_lines e
  stat_lines (DoS line body) = line ∷ block_lines body
  stat_lines (WhileS line test body) = line ∷ (expr_lines test ++ block_lines body)
  stat_lines (RepeatS line body test) = line ∷ (block_lines body ++ expr_lines test)
  stat_lines (IfS line arms) = line ∷ arms_lines arms
  stat_lines (IfElseS line arms other) = line ∷ (arms_lines arms ++ block_lines other)
  stat_lines (CountS line name from to body) = line ∷ (expr_lines from ++ (expr_lines to ++ block_lines body))
  stat_lines (CountByS line name from to by body) = line ∷ (expr_lines from ++ (expr_lines to ++ (expr_lines by ++ block_lines body)))
  stat_lines (EachS line names values body) = line ∷ (exprs_lines values ++ block_lines body)
  stat_lines (LocalFunctionS line name f) = line ∷ function_lines f
  stat_lines (LocalS line names values) = line ∷ exprs_lines values
  stat_lines (ReturnS line values) = line ∷ exprs_lines values
  stat_lines (BreakS line) = line ∷ []
