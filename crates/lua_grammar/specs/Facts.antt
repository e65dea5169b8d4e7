-- What holds of the plain tree of every chunk, by cases on the tree alone: no token is named here.
--
-- `Fits w t` says that the tree t may stand where w says: so many nodes above it, in a loop of its function or not, in a function
-- with `...` or not. The words are those of the grammar: `under`, `in_loop`, `in_function`, and `outside` for a chunk.
use Rattle.std.specs.Prelude.{◌≡◌, ℕ, ◌≤◌, true, List, [], ◌∷◌, ℤ, pos, negsuc}
use Rattle.lua_grammar.specs.declared.Context.{Context}
use Rattle.lua_grammar.specs.Grammar.{AreVars, IsCall, IsLast, IsEmpty, under, in_loop, in_function, outside}
use Rattle.lua_lexer.specs.LuaSyntaxTree.{Exp, Exps, Fields, Fun, Block, Arms, Stat, NilE, TrueE, FalseE, NumberE, TextE, DotsE, FunctionE, NameE, IndexE, CallE, MethodE, TableE, BinaryE, UnaryE, ParenE, NoExp, MoreExp, NoField, Item, Pair, Lambda, NoStat, MoreStat, NoArm, Arm, AssignS, CallS, DoS, WhileS, RepeatS, IfS, IfElseS, CountS, CountByS, EachS, LocalFunctionS, LocalS, ReturnS, BreakS}

-- A node here has not too many nodes above it.
abbrev pub IsShallow : Context → Type 0
IsShallow w = w.above ≤ 200

-- the value of a numeral: a whole number below 2^63
abbrev pub IsNumeral : ℤ → Type 0
IsNumeral (pos n) = n ≤ 9223372036854775807
IsNumeral (negsuc n) = ⊥

abbrev pub HasExp : Exps → Type 0
HasExp NoExp = ⊥
HasExp (MoreExp e es) = Unit {0}

abbrev pub HasName : List (List ℕ) → Type 0
HasName [] = ⊥
HasName (n ∷ ns) = Unit {0}

abbrev pub HasArm : Arms → Type 0
HasArm NoArm = ⊥
HasArm (Arm e b arms) = Unit {0}

unfoldable mutual
  -- an expression
  pub FitsExp : Context → Exp → Type 0
  FitsExp w (NilE line) = IsShallow w
  FitsExp w (TrueE line) = IsShallow w
  FitsExp w (FalseE line) = IsShallow w
  FitsExp w (NumberE line n) = IsShallow w × IsNumeral n
  FitsExp w (TextE line bytes) = IsShallow w
  FitsExp w (DotsE line) = IsShallow w × (w.vararg ≡ true)
  FitsExp w (FunctionE line f) = IsShallow w × FitsFun (under w) f
  FitsExp w (NameE line n) = IsShallow w
  FitsExp w (IndexE line t k) = IsShallow w × FitsExp (under w) t × FitsExp (under w) k
  FitsExp w (CallE line f es) = IsShallow w × FitsExp (under w) f × FitsExps (under w) es
  FitsExp w (MethodE line o n es) = IsShallow w × FitsExp (under w) o × FitsExps (under w) es
  FitsExp w (TableE line fs) = IsShallow w × FitsFields (under w) fs
  FitsExp w (BinaryE line op a b) = IsShallow w × FitsExp (under w) a × FitsExp (under w) b
  FitsExp w (UnaryE line op e) = IsShallow w × FitsExp (under w) e
  FitsExp w (ParenE line e) = IsShallow w × FitsExp (under w) e

  -- expressions behind one another
  pub FitsExps : Context → Exps → Type 0
  FitsExps w NoExp = Unit {0}
  FitsExps w (MoreExp e es) = FitsExp w e × FitsExps w es

  -- the fields of a table
  pub FitsFields : Context → Fields → Type 0
  FitsFields w NoField = Unit {0}
  FitsFields w (Item e fs) = FitsExp w e × FitsFields w fs
  FitsFields w (Pair k e fs) = FitsExp w k × FitsExp w e × FitsFields w fs

  -- A function's body is in no loop yet, and has `...` where its parameters end with it.
  pub FitsFun : Context → Fun → Type 0
  FitsFun w (Lambda ps dots b) = FitsBlock (in_function dots w) b

  -- statements behind one another: `return` and `break` end them
  pub FitsBlock : Context → Block → Type 0
  FitsBlock w NoStat = Unit {0}
  FitsBlock w (MoreStat s b) = FitsStat w s × (IsLast s → IsEmpty b) × FitsBlock w b

  -- the tests of an `if`, each with its block
  pub FitsArms : Context → Arms → Type 0
  FitsArms w NoArm = Unit {0}
  FitsArms w (Arm e b arms) = FitsExp w e × FitsBlock w b × FitsArms w arms

  -- a statement
  pub FitsStat : Context → Stat → Type 0
  FitsStat w (AssignS line ts es) = IsShallow w × AreVars ts × HasExp ts × HasExp es × FitsExps (under w) ts × FitsExps (under w) es
  FitsStat w (CallS line e) = IsShallow w × IsCall e × FitsExp (under w) e
  FitsStat w (DoS line b) = IsShallow w × FitsBlock (under w) b
  FitsStat w (WhileS line e b) = IsShallow w × FitsExp (under w) e × FitsBlock (in_loop w) b
  FitsStat w (RepeatS line b e) = IsShallow w × FitsBlock (in_loop w) b × FitsExp (under w) e
  FitsStat w (IfS line arms) = IsShallow w × HasArm arms × FitsArms (under w) arms
  FitsStat w (IfElseS line arms b) = IsShallow w × HasArm arms × FitsArms (under w) arms × FitsBlock (under w) b
  FitsStat w (CountS line n from to b) = IsShallow w × FitsExp (under w) from × FitsExp (under w) to × FitsBlock (in_loop w) b
  FitsStat w (CountByS line n from to by b) = IsShallow w × FitsExp (under w) from × FitsExp (under w) to × FitsExp (under w) by × FitsBlock (in_loop w) b
  FitsStat w (EachS line ns es b) = IsShallow w × HasName ns × HasExp es × FitsExps (under w) es × FitsBlock (in_loop w) b
  FitsStat w (LocalFunctionS line n f) = IsShallow w × FitsFun (under w) f
  FitsStat w (LocalS line ns es) = IsShallow w × HasName ns × FitsExps (under w) es
  FitsStat w (ReturnS line es) = IsShallow w × FitsExps (under w) es
  FitsStat w (BreakS line) = IsShallow w × (w.inside_loop ≡ true)

-- The block of a chunk.
abbrev pub FitsChunk : Block → Type 0
FitsChunk b = FitsBlock outside b
