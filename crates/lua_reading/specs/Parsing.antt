-- What the functions of the parser promise one another.
use Rattle.std.specs.Prelude.{◌≡◌, ℕ, suc, pred, ◌-◌, ◌<◌, ◌≤◌, ◌⊎◌, Bool, true, false, List, length, nat_le, Option, Some, None}
use Rattle.lua_syntax.specs.declared.BinaryOp.{BinaryOp}
use Rattle.lua_syntax.specs.declared.BinaryOp.TheVariants.{Or as OrOp, And as AndOp, Lt, Gt, Le, Ge, Ne, Eq, Concat, Add, Sub, Mul, Div, Mod, Pow}
use Rattle.lua_lexer.specs.declared.token.Token.{Token}
use Rattle.lua_grammar.specs.declared.TokenClass.{TokenClass}
use Rattle.lua_grammar.specs.declared.TokenClass.TheVariants.{Eof, And, Else, Elseif, End, Or, Return, Until, Plus, Minus, Star, Slash, Percent, Caret, EqEq, NotEq, LessEq, MoreEq, Less, More, Assign, RightBrace, Semicolon, Comma, DotDot}
use Rattle.lua_grammar.specs.declared.Context.{Context}
use Rattle.lua_grammar.specs.Tokens.{class_at}
use Rattle.lua_syntax.specs.Tree.{Exp, Exps, Fields, Fun, Block, Arms, Stat, BinaryE, UnaryE}
use Rattle.lua_grammar.specs.Grammar.{given_tokens, Spells, SpellsArgs, SpellsAll, MoreExps, SpellsFields, SpellsFun, SpellsBlock, SpellsArms, MoreArms, SpellsStat, IsPrefix, suffix_goes, mark_of, level, left_level}

-- A kind of tree, by where one may stand: how many nodes are above it, how many tokens are given, the fault that it is free of,
-- and the places from and to.
abbrev pub Lang : Type 1
Lang = ℕ → ℕ → ℕ → ℕ → ℕ → Type 0

-- A token that goes on with the tree doesn't stand at j.
abbrev pub Stops : List Token → (TokenClass → Bool) → ℕ → ℕ → Type 0
Stops ts goes n j = j < n → goes (class_at ts j) ≡ false

-- so many levels of nodes fit below a nodes
abbrev pub Below : ℕ → ℕ → Type 0
Below h a = h ≤ 201 - a

-- The tree e stands from i to q, and no other tree, and to no other place, whatever comes behind token q. It has h levels of
-- nodes, and stands where as many fit.
pub record ReadsTree (X : Type 0) (ts : List Token) (L : X → Lang) (goes : TokenClass → Bool) (a i : ℕ) (e : X) (q h : ℕ) : Type 0 where
  pub inside : q < length ts
  pub ordered : i ≤ q
  pub stands : (b n f : ℕ) → (f ≡ 7 → Below h b) → L e b n f i q
  pub only : (x : X) (b n f j : ℕ) → q < n → L x b n f i j → Stops ts goes n j → (x ≡ e) × (j ≡ q) × (f ≡ 7 → Below h b)
  pub height : Below h a

-- The number of given tokens and the fault of which they are free, up to the fault k at token p.
abbrev pub Before : ℕ → ℕ → ℕ → ℕ → Type 0
Before p k n f = (n ≡ p) ⊎ ((n ≡ suc p) × (5 ≤ f) × (f < k))

-- From i a tree goes as far as token p, where it has fault k; with more tokens, and below more nodes, there is none.
pub record ReadsFault (X : Type 0) (ts : List Token) (L : X → Lang) (goes : TokenClass → Bool) (a i k p : ℕ) : Type 0 where
  pub inside : p < length ts
  pub ordered : i ≤ p
  pub number : (5 ≤ k) × (k ≤ 10)
  pub reach : (n f : ℕ) → Before p k n f → (x : X) × (j : ℕ) × (n ≤ j) × L x a n f i j
  pub dead : (x : X) (b n j : ℕ) → a ≤ b → p < n → L x b n k i j → Stops ts goes n j → ⊥

-- The last token is the end, and no other is.
unfoldable pub HasOneEnd : List Token → Type 0
HasOneEnd ts = (0 < length ts) × (class_at ts (pred (length ts)) ≡ Eof) × ((i : ℕ) → i < length ts → class_at ts i ≡ Eof → length ts ≡ suc i)

-- ---- kinds of trees

-- The same place below that many nodes.
abbrev pub high : Context → ℕ → Context
high w b = record { above = b; inside_loop = w.inside_loop; vararg = w.vararg }

abbrev pub exp_lang : List Token → Context → ℕ → Exp → Lang
exp_lang ts w l x b n f = Spells (given_tokens ts n f) (high w b) l x

-- a prefix expression that something may go on with
abbrev pub prefix_lang : List Token → Context → Exp → Lang
prefix_lang ts w x b n f i j = IsPrefix x × Spells (given_tokens ts n f) (high w b) 10 x i j

abbrev pub args_lang : List Token → Context → Exps → Lang
args_lang ts w x b n f = SpellsArgs (given_tokens ts n f) (high w b) x

abbrev pub all_lang : List Token → Context → Exps → Lang
all_lang ts w x b n f = SpellsAll (given_tokens ts n f) (high w b) x

abbrev pub more_lang : List Token → Context → Exps → Lang
more_lang ts w x b n f = MoreExps (given_tokens ts n f) (high w b) x

abbrev pub fields_lang : List Token → Context → Fields → Lang
fields_lang ts w x b n f = SpellsFields (given_tokens ts n f) (high w b) x

abbrev pub fun_lang : List Token → Context → Fun → Lang
fun_lang ts w x b n f = SpellsFun (given_tokens ts n f) (high w b) x

abbrev pub block_lang : List Token → Context → Block → Lang
block_lang ts w x b n f = SpellsBlock (given_tokens ts n f) (high w b) x

abbrev pub arms_lang : List Token → Context → Arms → Lang
arms_lang ts w x b n f = SpellsArms (given_tokens ts n f) (high w b) x

abbrev pub more_arms_lang : List Token → Context → Arms → Lang
more_arms_lang ts w x b n f = MoreArms (given_tokens ts n f) (high w b) x

abbrev pub stat_lang : List Token → Context → Stat → Lang
stat_lang ts w x b n f = SpellsStat (given_tokens ts n f) (high w b) x

-- ---- what goes on with a tree

abbrev pub nothing : TokenClass → Bool
nothing s = false

-- the operator whose mark or word this is
abbrev pub operator_of_class : TokenClass → Option BinaryOp
operator_of_class Or = Some OrOp
operator_of_class And = Some AndOp
operator_of_class Less = Some Lt
operator_of_class More = Some Gt
operator_of_class LessEq = Some Le
operator_of_class MoreEq = Some Ge
operator_of_class NotEq = Some Ne
operator_of_class EqEq = Some Eq
operator_of_class DotDot = Some Concat
operator_of_class Plus = Some Add
operator_of_class Minus = Some Sub
operator_of_class Star = Some Mul
operator_of_class Slash = Some Div
operator_of_class Percent = Some Mod
operator_of_class Caret = Some Pow
operator_of_class s = None

abbrev pub binds_from : ℕ → Option BinaryOp → Bool
binds_from l None = false
binds_from l (Some op) = nat_le l (level op)

-- An expression that binds at least so tightly. (What goes on with a prefix expression, the grammar says itself.)
abbrev pub goes_on : ℕ → TokenClass → Bool
goes_on l s = binds_from l (operator_of_class s)

-- a list of expressions
abbrev pub exps_goes : TokenClass → Bool
exps_goes Comma = true
exps_goes s = goes_on 1 s

abbrev pub names_goes : TokenClass → Bool
names_goes Comma = true
names_goes s = false

-- what isn't the `}` behind fields
abbrev pub fields_goes : TokenClass → Bool
fields_goes RightBrace = false
fields_goes s = true

-- a statement
abbrev pub stat_goes : TokenClass → Bool
stat_goes Comma = true
stat_goes Assign = true
stat_goes s = goes_on 1 s

-- A block ends before one of these.
abbrev pub block_goes : TokenClass → Bool
block_goes Else = false
block_goes Elseif = false
block_goes End = false
block_goes Until = false
block_goes Eof = false
block_goes s = true

-- what can't be behind a `return` that is whole
abbrev pub last_goes : TokenClass → Bool
last_goes Semicolon = false
last_goes s = block_goes s

-- what goes on with a statement that begins so
abbrev pub goes_after : TokenClass → TokenClass → Bool
goes_after Return s = last_goes s
goes_after first s = stat_goes s

-- the arms of an `if`: one more of them, or a statement of the last one
abbrev pub arms_goes : TokenClass → Bool
arms_goes Elseif = true
arms_goes s = block_goes s

-- ---- expressions

-- An expression e stands from i to q, wherever as many nodes may be above it as leave room for its height.
unfoldable pub Stands : List Token → Context → ℕ → Exp → ℕ → ℕ → ℕ → Type 0
Stands ts w l e i q h = (b n f : ℕ) → (f ≡ 7 → Below h b) → Spells (given_tokens ts n f) (high w b) l e i q

pub record ReadsExp (ts : List Token) (w : Context) (l i : ℕ) (e : Exp) (q h : ℕ) : Type 0 where
  pub reading : ReadsTree Exp ts (exp_lang ts w l) (goes_on l) w.above i e q h
  pub grows : i < q
  pub some_node : 1 ≤ h
  pub stops_here : goes_on l (class_at ts q) ≡ false

abbrev pub IsOperand : Exp → Type 0
IsOperand (BinaryE l op a b) = ⊥
IsOperand e = Unit {0}

-- Where a unary operand ends nothing goes on with what is inside it.
abbrev pub Closes : List Token → ℕ → Exp → ℕ → Type 0
Closes ts n (UnaryE l op e) j = Stops ts (goes_on 7) n j
Closes ts n e j = Unit {0}

-- An expression that is no binary one, at some level that is asked of it.
abbrev pub operand_lang : List Token → Context → Exp → Lang
operand_lang ts w x b n f i j = IsOperand x × (v : ℕ) × (v ≤ 9) × Spells (given_tokens ts n f) (high w b) v x i j × Closes ts n x j

pub record ReadsOperand (ts : List Token) (w : Context) (i : ℕ) (e : Exp) (q h : ℕ) : Type 0 where
  pub reading : ReadsTree Exp ts (operand_lang ts w) nothing w.above i e q h
  pub grows : i < q
  pub some_node : 1 ≤ h
  pub stands_alone : Stands ts w 7 e i q h
  pub stands_left : (op : BinaryOp) → class_at ts q ≡ mark_of op → Stands ts w (left_level op) e i q h

pub record ReadsPrefix (ts : List Token) (w : Context) (i : ℕ) (e : Exp) (q h : ℕ) : Type 0 where
  pub reading : ReadsTree Exp ts (prefix_lang ts w) suffix_goes w.above i e q h
  pub grows : i < q
  pub some_node : 1 ≤ h
  pub stops_here : suffix_goes (class_at ts q) ≡ false
