-- What a tree has under each rule by itself, it has under all of them.
use Rattle.std.proofs.Common.{ℕ, refl}
use Rattle.lua_grammar.specs.declared.Context.{Context}
use Rattle.lua_grammar.specs.Grammar.{under, in_loop, in_function}
use Rattle.lua_grammar.specs.Facts.{FitsExp, FitsExps, FitsFields, FitsFun, FitsBlock, FitsArms, FitsStat}
use Rattle.lua_grammar.proofs.Rules.{RuledExp, RuledExps, RuledFields, RuledFun, RuledBlock, RuledArms, RuledStat}
use Rattle.lua_lexer.specs.LuaSyntaxTree.{Exp, Exps, Fields, Fun, Block, Arms, Stat, NilE, TrueE, FalseE, NumberE, TextE, DotsE, FunctionE, NameE, IndexE, CallE, MethodE, TableE, BinaryE, UnaryE, ParenE, NoExp, MoreExp, NoField, Item, Pair, Lambda, NoStat, MoreStat, NoArm, Arm, AssignS, CallS, DoS, WhileS, RepeatS, IfS, IfElseS, CountS, CountByS, EachS, LocalFunctionS, LocalS, ReturnS, BreakS}

mutual
  unfolding FitsExp RuledExp

  pub exp : (w : Context) (e : Exp) → ((rule : ℕ) → RuledExp rule w e) → FitsExp w e
  exp w (NilE line) h = h 7 refl
  exp w (TrueE line) h = h 7 refl
  exp w (FalseE line) h = h 7 refl
  exp w (NumberE line n) h = ((h 7).0 refl, (h 6).1 refl)
  exp w (TextE line bytes) h = h 7 refl
  exp w (DotsE line) h = ((h 7).0 refl, (h 10).1 refl)
  exp w (FunctionE line f) h = ((h 7).0 refl, fun (under w) f (λ r. (h r).1))
  exp w (NameE line n) h = h 7 refl
  exp w (IndexE line t k) h = ((h 7).0 refl, exp (under w) t (λ r. (h r).1.0), exp (under w) k (λ r. (h r).1.1))
  exp w (CallE line f es) h = ((h 7).0 refl, exp (under w) f (λ r. (h r).1.0), exps (under w) es (λ r. (h r).1.1))
  exp w (MethodE line o n es) h = ((h 7).0 refl, exp (under w) o (λ r. (h r).1.0), exps (under w) es (λ r. (h r).1.1))
  exp w (TableE line fs) h = ((h 7).0 refl, fields (under w) fs (λ r. (h r).1))
  exp w (BinaryE line op a b) h = ((h 7).0 refl, exp (under w) a (λ r. (h r).1.0), exp (under w) b (λ r. (h r).1.1))
  exp w (UnaryE line op e) h = ((h 7).0 refl, exp (under w) e (λ r. (h r).1))
  exp w (ParenE line e) h = ((h 7).0 refl, exp (under w) e (λ r. (h r).1))

  pub exps : (w : Context) (es : Exps) → ((rule : ℕ) → RuledExps rule w es) → FitsExps w es
  exps w NoExp h = tt
  exps w (MoreExp e es) h = (exp w e (λ r. (h r).0), exps w es (λ r. (h r).1))

  pub fields : (w : Context) (fs : Fields) → ((rule : ℕ) → RuledFields rule w fs) → FitsFields w fs
  fields w NoField h = tt
  fields w (Item e fs) h = (exp w e (λ r. (h r).0), fields w fs (λ r. (h r).1))
  fields w (Pair k e fs) h = (exp w k (λ r. (h r).0), exp w e (λ r. (h r).1.0), fields w fs (λ r. (h r).1.1))

  pub fun : (w : Context) (f : Fun) → ((rule : ℕ) → RuledFun rule w f) → FitsFun w f
  fun w (Lambda ps dots b) h = block (in_function dots w) b h

  pub block : (w : Context) (b : Block) → ((rule : ℕ) → RuledBlock rule w b) → FitsBlock w b
  block w NoStat h = tt
  block w (MoreStat s b) h = (stat w s (λ r. (h r).0), (h 5).1.0, block w b (λ r. (h r).1.1))

  pub arms : (w : Context) (a : Arms) → ((rule : ℕ) → RuledArms rule w a) → FitsArms w a
  arms w NoArm h = tt
  arms w (Arm e b a) h = (exp w e (λ r. (h r).0), block w b (λ r. (h r).1.0), arms w a (λ r. (h r).1.1))

  pub stat : (w : Context) (s : Stat) → ((rule : ℕ) → RuledStat rule w s) → FitsStat w s
  stat w (AssignS line ts es) h =
      ((h 7).0 refl, (h 5).1.0, (h 5).1.1.0.0, (h 5).1.1.1.0, exps (under w) ts (λ r. (h r).1.1.0.1), exps (under w) es (λ r. (h r).1.1.1.1))
  stat w (CallS line e) h = ((h 7).0 refl, (h 5).1.0, exp (under w) e (λ r. (h r).1.1))
  stat w (DoS line b) h = ((h 7).0 refl, block (under w) b (λ r. (h r).1))
  stat w (WhileS line e b) h = ((h 7).0 refl, exp (under w) e (λ r. (h r).1.0), block (in_loop w) b (λ r. (h r).1.1))
  stat w (RepeatS line b e) h = ((h 7).0 refl, block (in_loop w) b (λ r. (h r).1.0), exp (under w) e (λ r. (h r).1.1))
  stat w (IfS line a) h = ((h 7).0 refl, (h 5).1.0, arms (under w) a (λ r. (h r).1.1))
  stat w (IfElseS line a b) h = ((h 7).0 refl, (h 5).1.0.0, arms (under w) a (λ r. (h r).1.0.1), block (under w) b (λ r. (h r).1.1))
  stat w (CountS line n from to b) h =
      ((h 7).0 refl, exp (under w) from (λ r. (h r).1.0), exp (under w) to (λ r. (h r).1.1.0), block (in_loop w) b (λ r. (h r).1.1.1))
  stat w (CountByS line n from to by b) h =
      ((h 7).0 refl, exp (under w) from (λ r. (h r).1.0), exp (under w) to (λ r. (h r).1.1.0), exp (under w) by (λ r. (h r).1.1.1.0), block (in_loop w) b (λ r. (h r).1.1.1.1))
  stat w (EachS line ns es b) h = ((h 7).0 refl, (h 5).1.0, (h 5).1.1.0.0, exps (under w) es (λ r. (h r).1.1.0.1), block (in_loop w) b (λ r. (h r).1.1.1))
  stat w (LocalFunctionS line n f) h = ((h 7).0 refl, fun (under w) f (λ r. (h r).1))
  stat w (LocalS line ns es) h = ((h 7).0 refl, (h 5).1.0, exps (under w) es (λ r. (h r).1.1))
  stat w (ReturnS line es) h = ((h 7).0 refl, exps (under w) es (λ r. (h r).1))
  stat w (BreakS line) h = ((h 7).0 refl, (h 8).1 refl)
