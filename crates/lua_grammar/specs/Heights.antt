-- How many levels of nodes a plain tree has. Expressions and statements are nodes; lists, blocks and functions are none.
use Rattle.std.specs.Prelude.{ℕ, suc, max}
use Rattle.lua_lexer.specs.LuaSyntaxTree.{Exp, Exps, Fields, Fun, Block, Arms, Stat, NilE, TrueE, FalseE, NumberE, TextE, DotsE, FunctionE, NameE, IndexE, CallE, MethodE, TableE, BinaryE, UnaryE, ParenE, NoExp, MoreExp, NoField, Item, Pair, Lambda, NoStat, MoreStat, NoArm, Arm, AssignS, CallS, DoS, WhileS, RepeatS, IfS, IfElseS, CountS, CountByS, EachS, LocalFunctionS, LocalS, ReturnS, BreakS}

unfoldable mutual
  pub exp_height : Exp → ℕ
  exp_height (NilE line) = 1
  exp_height (TrueE line) = 1
  exp_height (FalseE line) = 1
  exp_height (NumberE line n) = 1
  exp_height (TextE line bytes) = 1
  exp_height (DotsE line) = 1
  exp_height (FunctionE line f) = suc (fun_height f)
  exp_height (NameE line n) = 1
  exp_height (IndexE line t k) = suc (max (exp_height t) (exp_height k))
  exp_height (CallE line f es) = suc (max (exp_height f) (exps_height es))
  exp_height (MethodE line o n es) = suc (max (exp_height o) (exps_height es))
  exp_height (TableE line fs) = suc (fields_height fs)
  exp_height (BinaryE line op a b) = suc (max (exp_height a) (exp_height b))
  exp_height (UnaryE line op e) = suc (exp_height e)
  exp_height (ParenE line e) = suc (exp_height e)

  pub exps_height : Exps → ℕ
  exps_height NoExp = 0
  exps_height (MoreExp e es) = max (exp_height e) (exps_height es)

  pub fields_height : Fields → ℕ
  fields_height NoField = 0
  fields_height (Item e fs) = max (exp_height e) (fields_height fs)
  fields_height (Pair k e fs) = max (exp_height k) (max (exp_height e) (fields_height fs))

  pub fun_height : Fun → ℕ
  fun_height (Lambda ps dots b) = block_height b

  pub block_height : Block → ℕ
  block_height NoStat = 0
  block_height (MoreStat s b) = max (stat_height s) (block_height b)

  pub arms_height : Arms → ℕ
  arms_height NoArm = 0
  arms_height (Arm e b arms) = max (exp_height e) (max (block_height b) (arms_height arms))

  pub stat_height : Stat → ℕ
  stat_height (AssignS line ts es) = suc (max (exps_height ts) (exps_height es))
  stat_height (CallS line e) = suc (exp_height e)
  stat_height (DoS line b) = suc (block_height b)
  stat_height (WhileS line e b) = suc (max (exp_height e) (block_height b))
  stat_height (RepeatS line b e) = suc (max (block_height b) (exp_height e))
  stat_height (IfS line arms) = suc (arms_height arms)
  stat_height (IfElseS line arms b) = suc (max (arms_height arms) (block_height b))
  stat_height (CountS line n from to b) = suc (max (exp_height from) (max (exp_height to) (block_height b)))
  stat_height (CountByS line n from to by b) = suc (max (exp_height from) (max (exp_height to) (max (exp_height by) (block_height b))))
  stat_height (EachS line ns es b) = suc (max (exps_height es) (block_height b))
  stat_height (LocalFunctionS line n f) = suc (fun_height f)
  stat_height (LocalS line ns es) = suc (exps_height es)
  stat_height (ReturnS line es) = suc (exps_height es)
  stat_height (BreakS line) = 1
