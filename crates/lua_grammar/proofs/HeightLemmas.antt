-- A tree that fits somewhere is low enough for it.
use Rattle.std.proofs.Common.{ℕ, suc, ◌+◌, ◌≤◌, max, arith}
use Rattle.lua_grammar.specs.declared.Context.{Context}
use Rattle.lua_grammar.specs.Grammar.{under, in_loop, in_function}
use Rattle.lua_grammar.specs.Facts.{IsShallow, FitsExp, FitsExps, FitsFields, FitsFun, FitsBlock, FitsArms, FitsStat}
use Rattle.lua_grammar.specs.Heights.{exp_height, exps_height, fields_height, fun_height, block_height, arms_height, stat_height}
use Rattle.lua_lexer.specs.LuaSyntaxTree.{Exp, Exps, Fields, Fun, Block, Arms, Stat, NilE, TrueE, FalseE, NumberE, TextE, DotsE, FunctionE, NameE, IndexE, CallE, MethodE, TableE, BinaryE, UnaryE, ParenE, NoExp, MoreExp, NoField, Item, Pair, Lambda, NoStat, MoreStat, NoArm, Arm, AssignS, CallS, DoS, WhileS, RepeatS, IfS, IfElseS, CountS, CountByS, EachS, LocalFunctionS, LocalS, ReturnS, BreakS}

-- So much may stand below a nodes.
abbrev Room : ℕ → ℕ → Type 0
Room a h = a + h ≤ 201

leaf : (a : ℕ) → a ≤ 200 → Room a 1
leaf a le = omega (arith, le)

node : (a h : ℕ) → Room (suc a) h → Room a (suc h)
node a h x = omega (arith, x)

join : (a h k : ℕ) → Room a h → Room a k → Room a (max h k)
join a h k x y = omega (arith, x, y)

empty : (a : ℕ) → a ≤ 201 → Room a 0
empty a le = omega (arith, le)

deeper : (a : ℕ) → a ≤ 200 → suc a ≤ 201
deeper a le = omega (arith, le)

mutual
  unfolding FitsExp exp_height

  pub exp : (w : Context) (e : Exp) → FitsExp w e → Room w.above (exp_height e)
  exp w (NilE line) h = leaf w.above h
  exp w (TrueE line) h = leaf w.above h
  exp w (FalseE line) h = leaf w.above h
  exp w (NumberE line n) h = leaf w.above h.0
  exp w (TextE line bytes) h = leaf w.above h
  exp w (DotsE line) h = leaf w.above h.0
  exp w (FunctionE line f) h = node w.above _ (fun (under w) f h.1 (deeper w.above h.0))
  exp w (NameE line n) h = leaf w.above h
  exp w (IndexE line t k) h = node w.above _ (join _ _ _ (exp (under w) t h.1) (exp (under w) k h.2))
  exp w (CallE line f es) h = node w.above _ (join _ _ _ (exp (under w) f h.1) (exps (under w) es h.2 (deeper w.above h.0)))
  exp w (MethodE line o n es) h = node w.above _ (join _ _ _ (exp (under w) o h.1) (exps (under w) es h.2 (deeper w.above h.0)))
  exp w (TableE line fs) h = node w.above _ (fields (under w) fs h.1 (deeper w.above h.0))
  exp w (BinaryE line op a b) h = node w.above _ (join _ _ _ (exp (under w) a h.1) (exp (under w) b h.2))
  exp w (UnaryE line op e) h = node w.above _ (exp (under w) e h.1)
  exp w (ParenE line e) h = node w.above _ (exp (under w) e h.1)

  pub exps : (w : Context) (es : Exps) → FitsExps w es → w.above ≤ 201 → Room w.above (exps_height es)
  exps w NoExp h le = empty w.above le
  exps w (MoreExp e es) h le = join _ _ _ (exp w e h.0) (exps w es h.1 le)

  pub fields : (w : Context) (fs : Fields) → FitsFields w fs → w.above ≤ 201 → Room w.above (fields_height fs)
  fields w NoField h le = empty w.above le
  fields w (Item e fs) h le = join _ _ _ (exp w e h.0) (fields w fs h.1 le)
  fields w (Pair k e fs) h le = join _ _ _ (exp w k h.0) (join _ _ _ (exp w e h.1) (fields w fs h.2 le))

  pub fun : (w : Context) (f : Fun) → FitsFun w f → w.above ≤ 201 → Room w.above (fun_height f)
  fun w (Lambda ps dots b) h le = block (in_function dots w) b h le

  pub block : (w : Context) (b : Block) → FitsBlock w b → w.above ≤ 201 → Room w.above (block_height b)
  block w NoStat h le = empty w.above le
  block w (MoreStat s b) h le = join _ _ _ (stat w s h.0) (block w b h.2 le)

  pub arms : (w : Context) (a : Arms) → FitsArms w a → w.above ≤ 201 → Room w.above (arms_height a)
  arms w NoArm h le = empty w.above le
  arms w (Arm e b a) h le = join _ _ _ (exp w e h.0) (join _ _ _ (block w b h.1 le) (arms w a h.2 le))

  pub stat : (w : Context) (s : Stat) → FitsStat w s → Room w.above (stat_height s)
  stat w (AssignS line ts es) h = node w.above _ (join _ _ _ (exps (under w) ts h.4 (deeper w.above h.0)) (exps (under w) es h.5 (deeper w.above h.0)))
  stat w (CallS line e) h = node w.above _ (exp (under w) e h.2)
  stat w (DoS line b) h = node w.above _ (block (under w) b h.1 (deeper w.above h.0))
  stat w (WhileS line e b) h = node w.above _ (join _ _ _ (exp (under w) e h.1) (block (in_loop w) b h.2 (deeper w.above h.0)))
  stat w (RepeatS line b e) h = node w.above _ (join _ _ _ (block (in_loop w) b h.1 (deeper w.above h.0)) (exp (under w) e h.2))
  stat w (IfS line a) h = node w.above _ (arms (under w) a h.2 (deeper w.above h.0))
  stat w (IfElseS line a b) h = node w.above _ (join _ _ _ (arms (under w) a h.2 (deeper w.above h.0)) (block (under w) b h.3 (deeper w.above h.0)))
  stat w (CountS line n from to b) h = node w.above _
      (join _ _ _ (exp (under w) from h.1) (join _ _ _ (exp (under w) to h.2) (block (in_loop w) b h.3 (deeper w.above h.0))))
  stat w (CountByS line n from to by b) h = node w.above _
      (join _ _ _ (exp (under w) from h.1) (join _ _ _ (exp (under w) to h.2) (join _ _ _ (exp (under w) by h.3) (block (in_loop w) b h.4 (deeper w.above h.0)))))
  stat w (EachS line ns es b) h = node w.above _ (join _ _ _ (exps (under w) es h.3 (deeper w.above h.0)) (block (in_loop w) b h.4 (deeper w.above h.0)))
  stat w (LocalFunctionS line n f) h = node w.above _ (fun (under w) f h.1 (deeper w.above h.0))
  stat w (LocalS line ns es) h = node w.above _ (exps (under w) es h.2 (deeper w.above h.0))
  stat w (ReturnS line es) h = node w.above _ (exps (under w) es h.1 (deeper w.above h.0))
  stat w (BreakS line) h = leaf w.above h.0

-- ---- the node at the top

pub exp-shallow : (w : Context) (e : Exp) → FitsExp w e → IsShallow w
unfolding FitsExp
exp-shallow w (NilE line) h = h
exp-shallow w (TrueE line) h = h
exp-shallow w (FalseE line) h = h
exp-shallow w (NumberE line n) h = h.0
exp-shallow w (TextE line bytes) h = h
exp-shallow w (DotsE line) h = h.0
exp-shallow w (FunctionE line f) h = h.0
exp-shallow w (NameE line n) h = h
exp-shallow w (IndexE line t k) h = h.0
exp-shallow w (CallE line f es) h = h.0
exp-shallow w (MethodE line o n es) h = h.0
exp-shallow w (TableE line fs) h = h.0
exp-shallow w (BinaryE line op a b) h = h.0
exp-shallow w (UnaryE line op e) h = h.0
exp-shallow w (ParenE line e) h = h.0

pub stat-shallow : (w : Context) (s : Stat) → FitsStat w s → IsShallow w
unfolding FitsExp
stat-shallow w (AssignS line ts es) h = h.0
stat-shallow w (CallS line e) h = h.0
stat-shallow w (DoS line b) h = h.0
stat-shallow w (WhileS line e b) h = h.0
stat-shallow w (RepeatS line b e) h = h.0
stat-shallow w (IfS line a) h = h.0
stat-shallow w (IfElseS line a b) h = h.0
stat-shallow w (CountS line n from to b) h = h.0
stat-shallow w (CountByS line n from to by b) h = h.0
stat-shallow w (EachS line ns es b) h = h.0
stat-shallow w (LocalFunctionS line n f) h = h.0
stat-shallow w (LocalS line ns es) h = h.0
stat-shallow w (ReturnS line es) h = h.0
stat-shallow w (BreakS line) h = h.0
