-- The functions of a plain tree, in the order in which they begin in the text, so that an outer function comes before those inside
-- it. A function is what a `function .. end` writes, in an expression or in a `local function` (manual 2.5.9); the text as a whole,
-- which is a function too, is not among them.
use Rattle.std.specs.Prelude.{List, [], ◌∷◌, ◌++◌}
use Rattle.lua_syntax.specs.Tree.{Exp, Exps, Fields, Fun, Block, Arms, Stat, NilE, TrueE, FalseE, NumberE, TextE, DotsE, FunctionE, NameE, IndexE, CallE, MethodE, TableE, BinaryE, UnaryE, ParenE, NoExp, MoreExp, NoField, Item, Pair, Lambda, NoStat, MoreStat, NoArm, Arm, AssignS, CallS, DoS, WhileS, RepeatS, IfS, IfElseS, CountS, CountByS, EachS, LocalFunctionS, LocalS, ReturnS, BreakS}

abbrev mutual
  pub expr_functions : Exp → List Fun
  expr_functions (NilE line) = []
  expr_functions (TrueE line) = []
  expr_functions (FalseE line) = []
  expr_functions (NumberE line n) = []
  expr_functions (TextE line text) = []
  expr_functions (DotsE line) = []
  expr_functions (FunctionE line f) = f ∷ inner_functions f
  expr_functions (NameE line name) = []
  expr_functions (IndexE line of at) = expr_functions of ++ expr_functions at
  expr_functions (CallE line f args) = expr_functions f ++ exprs_functions args
  expr_functions (MethodE line of name args) = expr_functions of ++ exprs_functions args
  expr_functions (TableE line fields) = fields_functions fields
  expr_functions (BinaryE line op a b) = expr_functions a ++ expr_functions b
  expr_functions (UnaryE line op a) = expr_functions a
  expr_functions (ParenE line a) = expr_functions a

  pub exprs_functions : Exps → List Fun
  exprs_functions NoExp = []
  exprs_functions (MoreExp e rest) = expr_functions e ++ exprs_functions rest

  pub fields_functions : Fields → List Fun
  fields_functions NoField = []
  fields_functions (Item e rest) = expr_functions e ++ fields_functions rest
  fields_functions (Pair k v rest) = expr_functions k ++ (expr_functions v ++ fields_functions rest)

  -- the functions inside a function
  pub inner_functions : Fun → List Fun
  inner_functions (Lambda params dots body) = block_functions body

  pub block_functions : Block → List Fun
  block_functions NoStat = []
  block_functions (MoreStat s rest) = stat_functions s ++ block_functions rest

  pub arms_functions : Arms → List Fun
  arms_functions NoArm = []
  arms_functions (Arm test body rest) = expr_functions test ++ (block_functions body ++ arms_functions rest)

  pub stat_functions : Stat → List Fun
  stat_functions (AssignS line targets values) = exprs_functions targets ++ exprs_functions values
  stat_functions (CallS line e) = expr_functions e
  stat_functions (DoS line body) = block_functions body
  stat_functions (WhileS line test body) = expr_functions test ++ block_functions body
  stat_functions (RepeatS line body test) = block_functions body ++ expr_functions test
  stat_functions (IfS line arms) = arms_functions arms
  stat_functions (IfElseS line arms other) = arms_functions arms ++ block_functions other
  stat_functions (CountS line name from to body) = expr_functions from ++ (expr_functions to ++ block_functions body)
  stat_functions (CountByS line name from to by body) = expr_functions from ++ (expr_functions to ++ (expr_functions by ++ block_functions body))
  stat_functions (EachS line names values body) = exprs_functions values ++ block_functions body
  stat_functions (LocalFunctionS line name f) = f ∷ inner_functions f
  stat_functions (LocalS line names values) = exprs_functions values
  stat_functions (ReturnS line values) = exprs_functions values
  stat_functions (BreakS line) = []
