-- Lua's grammar (manual 8) by cases on the tree.
--
-- A place is the number of a token, from 0. A tree stands from i to j where the tokens from place i up to place j, j itself left
-- out, spell it. Only the first `given` tokens are there: a place from `given` on is open, and whatever is asked of it holds. So
-- the same cases say what a whole text is, where all of its tokens are given, and how a text may begin, where fewer are.
use Rattle.std.specs.Prelude.{◌≡◌, ℕ, pred, suc, ◌<◌, ◌≤◌, ◌⊎◌, Bool, true, false, List, [], ◌∷◌, length, ℤ, Option, Some, None, nat_lt, cond, if◌then◌else◌, codes}
use Rattle.lua_lexer.specs.LuaSyntaxDeclaredBinaryOp.{BinaryOp}
use Rattle.lua_lexer.specs.LuaSyntaxDeclaredBinaryOpTheVariants.{Or as OrOp, And as AndOp, Lt, Gt, Le, Ge, Ne, Eq, Concat, Add, Sub, Mul, Div, Mod, Pow}
use Rattle.lua_lexer.specs.LuaSyntaxDeclaredUnaryOp.{UnaryOp}
use Rattle.lua_lexer.specs.LuaSyntaxDeclaredUnaryOpTheVariants.{Not as NotOp, Len, Minus as MinusOp}
use Rattle.lua_lexer.specs.declared.token.Token.{Token}
use Rattle.lua_number.specs.Numerals.{read_numeral_of}
use Rattle.lua_grammar.specs.declared.TokenClass.{TokenClass}
use Rattle.lua_grammar.specs.declared.TokenClass.TheVariants.{Name, Number, Text, Eof, And, Break, Do, Else, Elseif, End, False, For, Function, If, In, Local, Nil, Not, Or, Repeat, Return, Then, True, Until, While, Plus, Minus, Star, Slash, Percent, Caret, Hash, EqEq, NotEq, LessEq, MoreEq, Less, More, Assign, LeftParen, RightParen, LeftBrace, RightBrace, LeftBracket, RightBracket, Semicolon, Colon, Comma, Dot, DotDot, Dots}
use Rattle.lua_grammar.specs.declared.Context.{Context}
use Rattle.lua_grammar.specs.Tokens.{class_of, bytes_of, tok_at}
use Rattle.lua_lexer.specs.LuaSyntaxTree.{Exp, Exps, Fields, Fun, Block, Arms, Stat, NilE, TrueE, FalseE, NumberE, TextE, DotsE, FunctionE, NameE, IndexE, CallE, MethodE, TableE, BinaryE, UnaryE, ParenE, NoExp, MoreExp, NoField, Item, Pair, Lambda, NoStat, MoreStat, NoArm, Arm, AssignS, CallS, DoS, WhileS, RepeatS, IfS, IfElseS, CountS, CountByS, EachS, LocalFunctionS, LocalS, ReturnS, BreakS}

-- The tokens, how many of them are given, and the number of the one fault that the tree must be free of: 6 to 10, where 5 asks for
-- the grammar alone.
pub record GivenTokens : Type 0 where
  pub tokens : List Token
  pub given : ℕ
  pub free_of : ℕ

abbrev pub token : GivenTokens → ℕ → Token
token g i = tok_at g.tokens i

-- A fact about the token at i, which an open place is free of.
abbrev pub At : GivenTokens → ℕ → (Token → Type 0) → Type 0
At g i P = i < g.given → P (token g i)

-- The token at i is of this class.
abbrev pub Is : GivenTokens → ℕ → TokenClass → Type 0
Is g i s = At g i (λ t. class_of t ≡ s)

-- What fault k forbids, said at the token where it would show.
abbrev pub Free : GivenTokens → ℕ → ℕ → Type 0 → Type 0
Free g k i P = g.free_of ≡ k → i < g.given → P

-- What stands from one place to another.
abbrev pub Span : Type 1
Span = ℕ → ℕ → Type 0

-- one thing behind another
infixr 4 ◌⨟◌
abbrev pub ◌⨟◌ : Span → Span → Span
(A ⨟ B) i j = (m : ℕ) × A i m × B m j

-- one thing or another
infixr 3 ◌∣◌
abbrev pub ◌∣◌ : Span → Span → Span
(A ∣ B) i j = A i j ⊎ B i j

-- nothing
abbrev pub none : Span
none i j = i ≡ j

-- nothing, where this holds
abbrev pub where' : Type 0 → Span
where' P i j = P × (i ≡ j)

-- one token of this class
abbrev pub word : GivenTokens → TokenClass → Span
word g s i j = Is g i s × (j ≡ suc i)

-- a name or a string with these bytes
abbrev pub text : GivenTokens → TokenClass → List ℕ → Span
text g s bytes i j = At g i (λ t. (class_of t ≡ s) × (bytes_of t ≡ bytes)) × (j ≡ suc i)

-- A node comes into being here: its line is the next token's, and it has not too many nodes above it.
abbrev pub node : GivenTokens → Context → ℕ → Span
node g w line i j = (line ≡ (token g i).line) × Free g 7 i (w.above ≤ 200) × (i ≡ j)

-- The value is this one, if there is one.
abbrev pub Agrees : Option ℤ → ℤ → Type 0
Agrees None v = Unit {0}
Agrees (Some u) v = v ≡ u

-- A numeral with this value; where none is asked for it may have none.
abbrev pub valued : GivenTokens → ℤ → Span
valued g v i j =
    At g i (λ t. (class_of t ≡ Number) × Agrees (read_numeral_of (bytes_of t)) v) × Free g 6 i (read_numeral_of (bytes_of (token g i)) ≡ Some v) × (j ≡ suc i)

-- A word that stands only where this holds, or fault k is there.
abbrev pub word_if : GivenTokens → TokenClass → ℕ → Type 0 → Span
word_if g s k P i j = Is g i s × Free g k i P × (j ≡ suc i)

-- The `(` of a call, which stands on the line where the token before it ends.
abbrev pub opens : GivenTokens → Span
opens g i j = Is g i LeftParen × Free g 9 i ((token g i).line ≡ (token g (pred i)).end_line) × (j ≡ suc i)

-- What goes on with a prefix expression.
abbrev pub suffix_goes : TokenClass → Bool
suffix_goes LeftParen = true
suffix_goes Dot = true
suffix_goes LeftBracket = true
suffix_goes Colon = true
suffix_goes LeftBrace = true
suffix_goes Text = true
suffix_goes s = false

-- A token that can go on with a prefix expression always does, a `(` too: where the expression ends, none stands. At level 10 it
-- goes on.
abbrev pub ends : GivenTokens → ℕ → Span
ends g l i j = (l ≤ 9 → At g i (λ t. suffix_goes (class_of t) ≡ false)) × (i ≡ j)

-- a separator of fields
abbrev pub separator : GivenTokens → Span
separator g i j = At g i (λ t. (class_of t ≡ Comma) ⊎ (class_of t ≡ Semicolon)) × (j ≡ suc i)

-- One more node above, for what stands behind the place where that node comes into being.
abbrev pub under : Context → Context
under w = record { above = suc w.above; inside_loop = w.inside_loop; vararg = w.vararg }

-- The same for what stands before that place: it counts once its token is given.
abbrev pub before : GivenTokens → ℕ → Context → Context
before g i w = cond (nat_lt i g.given) (under w) w

abbrev pub in_loop : Context → Context
in_loop w = record { above = suc w.above; inside_loop = true; vararg = w.vararg }

abbrev pub in_function : Bool → Context → Context
in_function dots w = record { above = w.above; inside_loop = false; vararg = dots }

-- The class of each operator, how tightly it binds, and how tightly its sides must (manual 2.5.6).
abbrev pub mark_of : BinaryOp → TokenClass
mark_of OrOp = Or
mark_of AndOp = And
mark_of Lt = Less
mark_of Gt = More
mark_of Le = LessEq
mark_of Ge = MoreEq
mark_of Ne = NotEq
mark_of Eq = EqEq
mark_of Concat = DotDot
mark_of Add = Plus
mark_of Sub = Minus
mark_of Mul = Star
mark_of Div = Slash
mark_of Mod = Percent
mark_of Pow = Caret

abbrev pub level : BinaryOp → ℕ
level OrOp = 1
level AndOp = 2
level Lt = 3
level Gt = 3
level Le = 3
level Ge = 3
level Ne = 3
level Eq = 3
level Concat = 4
level Add = 5
level Sub = 5
level Mul = 6
level Div = 6
level Mod = 6
level Pow = 7

-- `..` and `^` group to the right, the others to the left.
abbrev pub groups_right : BinaryOp → Bool
groups_right Concat = true
groups_right Pow = true
groups_right op = false

-- On the side to which an operator groups stands what binds as tightly as itself, on the other side what binds more tightly. A
-- unary operator binds at 7 as `^` does, so that one stands to the right of `^` and none to its left. All else binds at 9, and 10
-- is for a prefix expression that something goes on with: an index, a call or a method.
abbrev pub left_level : BinaryOp → ℕ
left_level op = if groups_right op then suc (level op) else level op

abbrev pub right_level : BinaryOp → ℕ
right_level op = if groups_right op then level op else suc (level op)

abbrev pub sign_of : UnaryOp → TokenClass
sign_of NotOp = Not
sign_of Len = Hash
sign_of MinusOp = Minus

-- prefixexp
abbrev pub IsPrefix : Exp → Type 0
IsPrefix (NameE l n) = Unit {0}
IsPrefix (IndexE l t k) = Unit {0}
IsPrefix (CallE l f es) = Unit {0}
IsPrefix (MethodE l o m es) = Unit {0}
IsPrefix (ParenE l e) = Unit {0}
IsPrefix e = ⊥

-- var
abbrev pub IsVar : Exp → Type 0
IsVar (NameE l n) = Unit {0}
IsVar (IndexE l t k) = Unit {0}
IsVar e = ⊥

abbrev pub AreVars : Exps → Type 0
AreVars NoExp = Unit {0}
AreVars (MoreExp e es) = IsVar e × AreVars es

-- functioncall
abbrev pub IsCall : Exp → Type 0
IsCall (CallE l f es) = Unit {0}
IsCall (MethodE l o m es) = Unit {0}
IsCall e = ⊥

-- `return` and `break` end their block.
abbrev pub IsLast : Stat → Type 0
IsLast (ReturnS l es) = Unit {0}
IsLast (BreakS l) = Unit {0}
IsLast s = ⊥

abbrev pub IsEmpty : Block → Type 0
IsEmpty NoStat = Unit {0}
IsEmpty (MoreStat s b) = ⊥

abbrev pub HasNone : Exps → Type 0
HasNone NoExp = Unit {0}
HasNone (MoreExp e es) = ⊥

-- a string or a table as the only argument
abbrev pub IsAlone : Exp → Exps → Type 0
IsAlone (TextE line bytes) NoExp = Unit {0}
IsAlone (TableE line fs) NoExp = Unit {0}
IsAlone e es = ⊥

abbrev pub NoneLeft : Fields → Type 0
NoneLeft NoField = Unit {0}
NoneLeft f = ⊥

-- Names behind one another, with a comma before each but the first.
abbrev pub MoreNames : GivenTokens → List (List ℕ) → Span
MoreNames g [] = none
MoreNames g (n ∷ ns) = word g Comma ⨟ text g Name n ⨟ MoreNames g ns

-- namelist
abbrev pub Names : GivenTokens → List (List ℕ) → Span
Names g [] = where' ⊥
Names g (n ∷ ns) = text g Name n ⨟ MoreNames g ns

-- parlist ::= namelist [',' '...'] | '...', or nothing
abbrev pub Params : GivenTokens → List (List ℕ) → Bool → Span
Params g [] false = none
Params g [] true = word g Dots
Params g (n ∷ ns) false = Names g (n ∷ ns)
Params g (n ∷ ns) true = Names g (n ∷ ns) ⨟ word g Comma ⨟ word g Dots

-- '.' Name, where the name is a text
abbrev pub SpellsDot : GivenTokens → Context → Exp → Span
SpellsDot g w (TextE line n) = word g Dot ⨟ node g w line ⨟ text g Name n
SpellsDot g w k = where' ⊥

-- a Name that is a text
abbrev pub SpellsName : GivenTokens → Context → Exp → Span
SpellsName g w (TextE line n) = node g w line ⨟ text g Name n
SpellsName g w k = where' ⊥

-- Name {'.' Name}
unfoldable pub SpellsPath : GivenTokens → Context → Exp → Span
SpellsPath g w (NameE line n) i j = (node g w line ⨟ text g Name n) i j
SpellsPath g w (IndexE line t k) i j = (m : ℕ) × SpellsPath g (before g m w) t i m × (node g w line ⨟ SpellsDot g (under w) k) m j
SpellsPath g w e i j = ⊥

abbrev pub IsPath : GivenTokens → Context → Exps → Span
IsPath g w (MoreExp e NoExp) = SpellsPath g w e
IsPath g w es = where' ⊥

-- Name {'.' Name} ':' Name
abbrev pub IsMethodPath : GivenTokens → Context → Exps → Span
IsMethodPath g w (MoreExp (IndexE line t k) NoExp) i j =
    (m : ℕ) × SpellsPath g (before g m w) t i m × (node g w line ⨟ word g Colon ⨟ SpellsName g (under w) k) m j
IsMethodPath g w es i j = ⊥

-- Each function below says how a tree of its kind stands from one place to another.
unfoldable mutual
  -- exp, one that binds at least so tightly
  pub Spells : GivenTokens → Context → ℕ → Exp → Span
  Spells g w l (NilE line) i j = (node g w line ⨟ word g Nil) i j
  Spells g w l (TrueE line) i j = (node g w line ⨟ word g True) i j
  Spells g w l (FalseE line) i j = (node g w line ⨟ word g False) i j
  Spells g w l (NumberE line n) i j = (node g w line ⨟ valued g n) i j
  Spells g w l (TextE line bytes) i j = (node g w line ⨟ text g Text bytes) i j
  Spells g w l (DotsE line) i j = (node g w line ⨟ word_if g Dots 10 (w.vararg ≡ true)) i j
  Spells g w l (FunctionE line f) i j = (node g w line ⨟ word g Function ⨟ SpellsFun g (under w) f) i j
  Spells g w l (TableE line fs) i j = (node g w line ⨟ word g LeftBrace ⨟ SpellsFields g (under w) fs ⨟ word g RightBrace) i j
  Spells g w l (UnaryE line op e) i j = (l ≤ 7) × (node g w line ⨟ word g (sign_of op) ⨟ Spells g (under w) 7 e) i j
  Spells g w l (BinaryE line op a b) i j =
      (m : ℕ) × Spells g (before g m w) (left_level op) a i m
      × (l ≤ level op) × (node g w line ⨟ word g (mark_of op) ⨟ Spells g (under w) (right_level op) b) m j
  -- prefixexp
  Spells g w l (NameE line n) i j = (node g w line ⨟ text g Name n ⨟ ends g l) i j
  Spells g w l (ParenE line e) i j = (node g w line ⨟ word g LeftParen ⨟ Spells g (under w) 1 e ⨟ word g RightParen ⨟ ends g l) i j
  Spells g w l (IndexE line t k) i j =
      (m : ℕ) × Spells g (before g m w) 10 t i m
      × IsPrefix t × (node g w line ⨟ (SpellsDot g (under w) k ∣ (word g LeftBracket ⨟ Spells g (under w) 1 k ⨟ word g RightBracket)) ⨟ ends g l) m j
  Spells g w l (CallE line f es) i j =
      (m : ℕ) × Spells g (before g m w) 10 f i m × IsPrefix f × (node g w line ⨟ SpellsArgs g (under w) es ⨟ ends g l) m j
  Spells g w l (MethodE line o n es) i j =
      (m : ℕ) × Spells g (before g m w) 10 o i m
      × IsPrefix o × (node g w line ⨟ word g Colon ⨟ text g Name n ⨟ SpellsArgs g (under w) es ⨟ ends g l) m j

  -- args ::= '(' [explist] ')' | tableconstructor | String
  pub SpellsArgs : GivenTokens → Context → Exps → Span
  SpellsArgs g w NoExp i j = (opens g ⨟ word g RightParen) i j
  SpellsArgs g w (MoreExp e es) i j =
      ((opens g ⨟ Spells g w 1 e ⨟ MoreExps g w es ⨟ word g RightParen) ∣ (where' (IsAlone e es) ⨟ Spells g w 9 e)) i j

  -- explist
  pub SpellsAll : GivenTokens → Context → Exps → Span
  SpellsAll g w NoExp i j = ⊥
  SpellsAll g w (MoreExp e es) i j = (Spells g w 1 e ⨟ MoreExps g w es) i j

  -- {',' exp}
  pub MoreExps : GivenTokens → Context → Exps → Span
  MoreExps g w NoExp i j = i ≡ j
  MoreExps g w (MoreExp e es) i j = (word g Comma ⨟ Spells g w 1 e ⨟ MoreExps g w es) i j

  -- [field {sep field} [sep]]
  pub SpellsFields : GivenTokens → Context → Fields → Span
  SpellsFields g w NoField i j = i ≡ j
  SpellsFields g w (Item e fs) i j = (Spells g w 1 e ⨟ (where' (NoneLeft fs) ∣ (separator g ⨟ SpellsFields g w fs))) i j
  SpellsFields g w (Pair k e fs) i j =
      ((SpellsName g w k ∣ (word g LeftBracket ⨟ Spells g w 1 k ⨟ word g RightBracket))
      ⨟ word g Assign ⨟ Spells g w 1 e ⨟ (where' (NoneLeft fs) ∣ (separator g ⨟ SpellsFields g w fs))) i j

  -- funcbody
  pub SpellsFun : GivenTokens → Context → Fun → Span
  SpellsFun g w (Lambda ps dots b) i j =
      (word g LeftParen ⨟ Params g ps dots ⨟ word g RightParen ⨟ SpellsBlock g (in_function dots w) b ⨟ word g End) i j

  -- funcbody after a ':', with `self` before its parameters
  pub SpellsMethod : GivenTokens → Context → Fun → Span
  SpellsMethod g w (Lambda [] dots b) i j = ⊥
  SpellsMethod g w (Lambda (p ∷ ps) dots b) i j =
      (where' (p ≡ codes "self") ⨟ word g LeftParen ⨟ Params g ps dots ⨟ word g RightParen ⨟ SpellsBlock g (in_function dots w) b ⨟ word g End) i j

  -- function funcname funcbody, which is an assignment of one function
  pub SpellsNamed : GivenTokens → Context → Exps → Exps → Span
  SpellsNamed g w ts (MoreExp (FunctionE line f) NoExp) i j =
      (node g w line ⨟ word g Function ⨟ ((IsPath g w ts ⨟ SpellsFun g (under w) f) ∣ (IsMethodPath g w ts ⨟ SpellsMethod g (under w) f))) i j
  SpellsNamed g w ts es i j = ⊥

  -- {stat [';']} [laststat [';']]
  pub SpellsBlock : GivenTokens → Context → Block → Span
  SpellsBlock g w NoStat i j = i ≡ j
  SpellsBlock g w (MoreStat s b) i j =
      (SpellsStat g w s ⨟ where' (IsLast s → IsEmpty b) ⨟ (none ∣ word g Semicolon) ⨟ SpellsBlock g w b) i j

  -- exp then block {elseif exp then block}
  pub SpellsArms : GivenTokens → Context → Arms → Span
  SpellsArms g w NoArm i j = ⊥
  SpellsArms g w (Arm e b arms) i j = (Spells g w 1 e ⨟ word g Then ⨟ SpellsBlock g w b ⨟ MoreArms g w arms) i j

  pub MoreArms : GivenTokens → Context → Arms → Span
  MoreArms g w NoArm i j = i ≡ j
  MoreArms g w (Arm e b arms) i j = (word g Elseif ⨟ Spells g w 1 e ⨟ word g Then ⨟ SpellsBlock g w b ⨟ MoreArms g w arms) i j

  -- stat and laststat
  pub SpellsStat : GivenTokens → Context → Stat → Span
  SpellsStat g w (AssignS line ts es) i j =
      (node g w line ⨟ ((where' (AreVars ts) ⨟ SpellsAll g (under w) ts ⨟ word g Assign ⨟ SpellsAll g (under w) es) ∣ SpellsNamed g (under w) ts es)) i j
  SpellsStat g w (CallS line e) i j = IsCall e × (node g w line ⨟ Spells g (under w) 9 e) i j
  SpellsStat g w (DoS line b) i j = (node g w line ⨟ word g Do ⨟ SpellsBlock g (under w) b ⨟ word g End) i j
  SpellsStat g w (WhileS line e b) i j =
      (node g w line ⨟ word g While ⨟ Spells g (under w) 1 e ⨟ word g Do ⨟ SpellsBlock g (in_loop w) b ⨟ word g End) i j
  SpellsStat g w (RepeatS line b e) i j = (node g w line ⨟ word g Repeat ⨟ SpellsBlock g (in_loop w) b ⨟ word g Until ⨟ Spells g (under w) 1 e) i j
  SpellsStat g w (IfS line arms) i j = (node g w line ⨟ word g If ⨟ SpellsArms g (under w) arms ⨟ word g End) i j
  SpellsStat g w (IfElseS line arms b) i j =
      (node g w line ⨟ word g If ⨟ SpellsArms g (under w) arms ⨟ word g Else ⨟ SpellsBlock g (under w) b ⨟ word g End) i j
  SpellsStat g w (CountS line n a b c) i j =
      (node g w line ⨟ word g For ⨟ text g Name n ⨟ word g Assign ⨟ Spells g (under w) 1 a ⨟ word g Comma ⨟ Spells g (under w) 1 b
      ⨟ word g Do ⨟ SpellsBlock g (in_loop w) c ⨟ word g End) i j
  SpellsStat g w (CountByS line n a b by c) i j =
      (node g w line ⨟ word g For ⨟ text g Name n ⨟ word g Assign ⨟ Spells g (under w) 1 a ⨟ word g Comma ⨟ Spells g (under w) 1 b
      ⨟ word g Comma ⨟ Spells g (under w) 1 by ⨟ word g Do ⨟ SpellsBlock g (in_loop w) c ⨟ word g End) i j
  SpellsStat g w (EachS line ns es b) i j =
      (node g w line ⨟ word g For ⨟ Names g ns ⨟ word g In ⨟ SpellsAll g (under w) es ⨟ word g Do ⨟ SpellsBlock g (in_loop w) b ⨟ word g End) i j
  SpellsStat g w (LocalFunctionS line n f) i j = (node g w line ⨟ word g Local ⨟ word g Function ⨟ text g Name n ⨟ SpellsFun g (under w) f) i j
  SpellsStat g w (LocalS line ns es) i j =
      (node g w line ⨟ word g Local ⨟ Names g ns ⨟ (where' (HasNone es) ∣ (word g Assign ⨟ SpellsAll g (under w) es))) i j
  SpellsStat g w (ReturnS line es) i j = (node g w line ⨟ word g Return ⨟ (where' (HasNone es) ∣ SpellsAll g (under w) es)) i j
  SpellsStat g w (BreakS line) i j = (node g w line ⨟ word_if g Break 8 (w.inside_loop ≡ true)) i j

-- A chunk is the block of a function with `...`, and the end behind it.
abbrev pub outside : Context
outside = record { above = 0; inside_loop = false; vararg = true }

unfoldable pub SpellsChunk : GivenTokens → Block → ℕ → Type 0
SpellsChunk g b n = (SpellsBlock g outside b ⨟ word g Eof) 0 n

abbrev pub given_tokens : List Token → ℕ → ℕ → GivenTokens
given_tokens ts n f = record { tokens = ts; given = n; free_of = f }

-- All the tokens spell this chunk, and no fault is in it.
unfoldable pub IsChunk : List Token → Block → Type 0
IsChunk tokens b = (k : ℕ) → SpellsChunk (given_tokens tokens (length tokens) k) b (length tokens)

-- The first n tokens begin a chunk that is free of fault k so far.
unfoldable pub Begins : List Token → ℕ → ℕ → Type 0
Begins tokens k n = (b : Block) × (m : ℕ) × (n ≤ m) × SpellsChunk (given_tokens tokens n k) b m

-- The fault is k, at token i: before that token no fault is, with it none of a lower number, and k is.
pub record FirstFault (tokens : List Token) (k i : ℕ) : Type 0 where
  pub number : (5 ≤ k) × (k ≤ 10)
  pub there : i < length tokens
  pub none_before : (f : ℕ) → 5 ≤ f → f ≤ 10 → Begins tokens f i
  pub none_lower : (f : ℕ) → 5 ≤ f → f < k → Begins tokens f (suc i)
  pub it_is : Begins tokens k (suc i) → ⊥
