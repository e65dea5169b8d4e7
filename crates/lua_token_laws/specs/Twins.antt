-- TWINS: tokens that differ in places and lines alone; and trees that differ in lines alone.
use Rattle.std.specs.Prelude.{◌≡◌, ◌≢◌, ℕ, pred, ◌<◌, List, length}
use Rattle.lua_lexer.specs.declared.token.Token.{Token}
use Rattle.lua_grammar.specs.declared.TokenClass.TheVariants.{Eof}
use Rattle.lua_grammar.specs.Tokens.{class_at, tok_at}
use Rattle.lua_grammar.specs.Grammar.{IsChunk}
use Rattle.lua_syntax.specs.Tree.{Exp, Exps, Fields, Fun, Block, Arms, Stat, NilE, TrueE, FalseE, NumberE, TextE, DotsE, FunctionE, NameE, IndexE, CallE, MethodE, TableE, BinaryE, UnaryE, ParenE, NoExp, MoreExp, NoField, Item, Pair, Lambda, NoStat, MoreStat, NoArm, Arm, AssignS, CallS, DoS, WhileS, RepeatS, IfS, IfElseS, CountS, CountByS, EachS, LocalFunctionS, LocalS, ReturnS, BreakS}

-- The same tree, where each line l is line f l.
abbrev mutual
  pub relined_exp : (ℕ → ℕ) → Exp → Exp
  relined_exp f (NilE l) = NilE (f l)
  relined_exp f (TrueE l) = TrueE (f l)
  relined_exp f (FalseE l) = FalseE (f l)
  relined_exp f (NumberE l n) = NumberE (f l) n
  relined_exp f (TextE l t) = TextE (f l) t
  relined_exp f (DotsE l) = DotsE (f l)
  relined_exp f (FunctionE l fn) = FunctionE (f l) (relined_fun f fn)
  relined_exp f (NameE l n) = NameE (f l) n
  relined_exp f (IndexE l t k) = IndexE (f l) (relined_exp f t) (relined_exp f k)
  relined_exp f (CallE l fn es) = CallE (f l) (relined_exp f fn) (relined_exps f es)
  relined_exp f (MethodE l o n es) = MethodE (f l) (relined_exp f o) n (relined_exps f es)
  relined_exp f (TableE l fs) = TableE (f l) (relined_fields f fs)
  relined_exp f (BinaryE l op a b) = BinaryE (f l) op (relined_exp f a) (relined_exp f b)
  relined_exp f (UnaryE l op e) = UnaryE (f l) op (relined_exp f e)
  relined_exp f (ParenE l e) = ParenE (f l) (relined_exp f e)

  pub relined_exps : (ℕ → ℕ) → Exps → Exps
  relined_exps f NoExp = NoExp
  relined_exps f (MoreExp e es) = MoreExp (relined_exp f e) (relined_exps f es)

  pub relined_fields : (ℕ → ℕ) → Fields → Fields
  relined_fields f NoField = NoField
  relined_fields f (Item e fs) = Item (relined_exp f e) (relined_fields f fs)
  relined_fields f (Pair k e fs) = Pair (relined_exp f k) (relined_exp f e) (relined_fields f fs)

  pub relined_fun : (ℕ → ℕ) → Fun → Fun
  relined_fun f (Lambda ps dots b) = Lambda ps dots (relined f b)

  pub relined : (ℕ → ℕ) → Block → Block
  relined f NoStat = NoStat
  relined f (MoreStat s b) = MoreStat (relined_stat f s) (relined f b)

  pub relined_arms : (ℕ → ℕ) → Arms → Arms
  relined_arms f NoArm = NoArm
  relined_arms f (Arm e b more) = Arm (relined_exp f e) (relined f b) (relined_arms f more)

  pub relined_stat : (ℕ → ℕ) → Stat → Stat
  relined_stat f (AssignS l ts es) = AssignS (f l) (relined_exps f ts) (relined_exps f es)
  relined_stat f (CallS l e) = CallS (f l) (relined_exp f e)
  relined_stat f (DoS l b) = DoS (f l) (relined f b)
  relined_stat f (WhileS l e b) = WhileS (f l) (relined_exp f e) (relined f b)
  relined_stat f (RepeatS l b e) = RepeatS (f l) (relined f b) (relined_exp f e)
  relined_stat f (IfS l a) = IfS (f l) (relined_arms f a)
  relined_stat f (IfElseS l a b) = IfElseS (f l) (relined_arms f a) (relined f b)
  relined_stat f (CountS l n from to b) = CountS (f l) n (relined_exp f from) (relined_exp f to) (relined f b)
  relined_stat f (CountByS l n from to by b) = CountByS (f l) n (relined_exp f from) (relined_exp f to) (relined_exp f by) (relined f b)
  relined_stat f (EachS l ns es b) = EachS (f l) ns (relined_exps f es) (relined f b)
  relined_stat f (LocalFunctionS l n fn) = LocalFunctionS (f l) n (relined_fun f fn)
  relined_stat f (LocalS l ns es) = LocalS (f l) ns (relined_exps f es)
  relined_stat f (ReturnS l es) = ReturnS (f l) (relined_exps f es)
  relined_stat f (BreakS l) = BreakS (f l)

-- Tokens of the same kinds, where line l of the ones is line f l of the others, and what stood on the line where the token before it ends
-- still does. Nothing is asked of the line of the end.
pub record AreTwins (f : ℕ → ℕ) (ts us : List Token) : Type 0 where
  pub size : length us ≡ length ts
  pub kinds : (i : ℕ) → i < length ts → (tok_at us i).kind ≡ (tok_at ts i).kind
  pub lines : (i : ℕ) → i < length ts → class_at ts i ≢ Eof → (tok_at us i).line ≡ f (tok_at ts i).line
  pub beside : (i : ℕ) → i < length ts → class_at ts i ≢ Eof → (tok_at ts i).line ≡ (tok_at ts (pred i)).end_line → (tok_at us i).line ≡ (tok_at us (pred i)).end_line

-- TWINS SPELL THE SAME CHUNK, lines aside.
abbrev pub TwinsSpell : Type 0
TwinsSpell = (f : ℕ → ℕ) (ts us : List Token) (b : Block) → AreTwins f ts us → IsChunk ts b → IsChunk us (relined f b)
