-- What each function of the parser answers: a tree that stands, or where it is broken. Want of memory says nothing.
use Rattle.std.specs.Prelude.{◌≡◌, ◌≢◌, ℕ, suc, ◌<◌, ◌≤◌, ◌+◌, [], ◌∷◌, Bool, true, false, List, Result, Ok, Err, codes}
use Rattle.lua_syntax.specs.declared.Expr.{Expr}
use Rattle.lua_syntax.specs.declared.Block.{Block as BlockNode}
use Rattle.lua_syntax.specs.declared.Stat.{Stat as StatNode}
use Rattle.lua_syntax.specs.declared.Field.{Field}
use Rattle.lua_lexer.specs.declared.token.Token.{Token}
use Rattle.lua_grammar.specs.declared.TokenClass.{TokenClass}
use Rattle.lua_grammar.specs.declared.TokenClass.TheVariants.{Name, Function, Not, Minus, Hash, Assign, LeftParen, RightParen, LeftBrace, LeftBracket, RightBracket, Colon}
use Rattle.lua_grammar.specs.declared.Context.{Context}
use Rattle.lua_grammar.specs.Tokens.{class_at}
use Rattle.lua_syntax.specs.Tree.{Exp, Fields, Fun, NameE, IndexE, CallE, MethodE, ParenE, NoField, Item, Pair}
use Rattle.lua_grammar.specs.Grammar.{given_tokens, Spells, SpellsArgs, SpellsName, SpellsMethod, SpellsFun, SpellsDot, ◌⨟◌, ◌∣◌, word, node, text, ends, suffix_goes, Names, Params}
use Rattle.lua_syntax.specs.View.{expr_view, field_view, block_view, stat_view}
use Rattle.lua_reading.specs.declared.answer.Fault.{Fault}
use Rattle.lua_reading.specs.declared.answer.Fault.TheVariants.{At, NoMemory}
use Rattle.lua_reading.specs.declared.answer.Reading.{Reading}
use Rattle.lua_reading.specs.Parsing.{Lang, ReadsTree, ReadsFault, high, exp_lang, prefix_lang, block_lang, stat_lang, nothing, goes_on, block_goes, goes_after, ReadsExp, operand_lang, ReadsOperand, ReadsPrefix}

abbrev pub IfFault : (ℕ → ℕ → Type 0) → Fault → Type 0
IfFault P NoMemory = Unit {0}
IfFault P (At f) = P f.kind f.place

-- A tree that has at least one token.
pub record ReadsNonEmpty (X : Type 0) (ts : List Token) (L : X → Lang) (goes : TokenClass → Bool) (a i : ℕ) (e : X) (q h : ℕ) : Type 0 where
  pub reading : ReadsTree X ts L goes a i e q h
  pub grows : i < q

abbrev pub Answer : {X T : Type 0} → List Token → (T → X) → (X → Lang) → (TokenClass → Bool) → ℕ → ℕ → Result (Reading T) Fault → Type 0
Answer {X} ts view L goes a i (Ok p) = ReadsNonEmpty X ts L goes a i (view p.tree) p.end p.height
Answer {X} ts view L goes a i (Err f) = IfFault (ReadsFault X ts L goes a i) f

-- The same for a tree that may have none.
abbrev pub MaybeEmpty : {X T : Type 0} → List Token → (T → X) → (X → Lang) → (TokenClass → Bool) → ℕ → ℕ → Result (Reading T) Fault → Type 0
MaybeEmpty {X} ts view L goes a i (Ok p) = ReadsTree X ts L goes a i (view p.tree) p.end p.height
MaybeEmpty {X} ts view L goes a i (Err f) = IfFault (ReadsFault X ts L goes a i) f

-- ---- expressions

abbrev pub ExpAnswer : List Token → Context → ℕ → ℕ → Result (Reading Expr) Fault → Type 0
ExpAnswer ts w l i (Ok p) = ReadsExp ts w l i (expr_view p.tree) p.end p.height
ExpAnswer ts w l i (Err f) = IfFault (ReadsFault Exp ts (exp_lang ts w l) (goes_on l) w.above i) f

abbrev pub OperandAnswer : List Token → Context → ℕ → Result (Reading Expr) Fault → Type 0
OperandAnswer ts w i (Ok p) = ReadsOperand ts w i (expr_view p.tree) p.end p.height
OperandAnswer ts w i (Err f) = IfFault (ReadsFault Exp ts (operand_lang ts w) nothing w.above i) f

abbrev pub PrefixAnswer : List Token → Context → ℕ → Result (Reading Expr) Fault → Type 0
PrefixAnswer ts w i (Ok p) = ReadsPrefix ts w i (expr_view p.tree) p.end p.height
PrefixAnswer ts w i (Err f) = IfFault (ReadsFault Exp ts (prefix_lang ts w) suffix_goes w.above i) f

-- a name or an expression in parentheses, which something may go on with
abbrev pub IsPrimary : Exp → Type 0
IsPrimary (NameE l n) = Unit {0}
IsPrimary (ParenE l e) = Unit {0}
IsPrimary e = ⊥

abbrev pub primary_lang : List Token → Context → Exp → Lang
primary_lang ts w x b n f i j = IsPrimary x × Spells (given_tokens ts n f) (high w b) 10 x i j

-- The classes of tokens that begin an expression of more than one token.
abbrev pub has_parts : TokenClass → Bool
has_parts Name = true
has_parts LeftParen = true
has_parts LeftBrace = true
has_parts Function = true
has_parts Not = true
has_parts Hash = true
has_parts Minus = true
has_parts s = false

-- An index, a call or a method on this expression, at level 10: what stands behind the expression.
abbrev pub suffix_lang : List Token → Context → Exp → Exp → Lang
suffix_lang ts w left (IndexE line t k) b n f i j =
    (t ≡ left) × (node (given_tokens ts n f) (high w b) line ⨟ (SpellsDot (given_tokens ts n f) (high w (suc b)) k ∣ (word (given_tokens ts n f) LeftBracket ⨟ Spells (given_tokens ts n f) (high w (suc b)) 1 k ⨟ word (given_tokens ts n f) RightBracket)) ⨟ ends (given_tokens ts n f) 10) i j
suffix_lang ts w left (CallE line t es) b n f i j =
    (t ≡ left) × (node (given_tokens ts n f) (high w b) line ⨟ SpellsArgs (given_tokens ts n f) (high w (suc b)) es ⨟ ends (given_tokens ts n f) 10) i j
suffix_lang ts w left (MethodE line t x es) b n f i j =
    (t ≡ left) × (node (given_tokens ts n f) (high w b) line ⨟ word (given_tokens ts n f) Colon ⨟ text (given_tokens ts n f) Name x ⨟ SpellsArgs (given_tokens ts n f) (high w (suc b)) es ⨟ ends (given_tokens ts n f) 10) i j
suffix_lang ts w left e b n f i j = ⊥

-- a name that is a text
abbrev pub name_lang : List Token → Context → Exp → Lang
name_lang ts w x b n f = SpellsName (given_tokens ts n f) (high w b) x

-- A node of one token, or a fault where it is too deep.
abbrev pub OneToken : Expr → ℕ → Context → Result (Reading Expr) Fault → Type 0
OneToken tree i w (Ok p) = (w.above ≤ 200) × (p ≡ record { tree = tree; end = i + 1; height = 1 })
OneToken tree i w (Err f) = (200 < w.above) × (f ≡ At (record { kind = 7; place = i }))

-- One expression as a list of arguments.
abbrev pub Alone : Reading Expr → Result (Reading (List Expr)) Fault → Type 0
Alone arg (Ok p) = p ≡ record { tree = arg.tree ∷ []; end = arg.end; height = arg.height }
Alone arg (Err f) = f ≡ NoMemory

-- ---- tables and functions

-- One field, with none behind it.
abbrev pub field_lang : List Token → Context → Fields → Lang
field_lang ts w (Item e NoField) b n f i j = Spells (given_tokens ts n f) (high w b) 1 e i j
field_lang ts w (Pair k e NoField) b n f i j =
    ((SpellsName (given_tokens ts n f) (high w b) k ∣ (word (given_tokens ts n f) LeftBracket ⨟ Spells (given_tokens ts n f) (high w b) 1 k ⨟ word (given_tokens ts n f) RightBracket))
    ⨟ word (given_tokens ts n f) Assign ⨟ Spells (given_tokens ts n f) (high w b) 1 e) i j
field_lang ts w x b n f i j = ⊥

-- A field goes on with a `=` too.
abbrev pub field_goes : TokenClass → Bool
field_goes Assign = true
field_goes s = goes_on 1 s

abbrev pub one_field : Field → Fields
one_field x = field_view x NoField

-- No key begins here: a name with a `=` behind it.
abbrev pub IsItem : List Token → ℕ → Type 0
IsItem ts i = class_at ts i ≡ Name → class_at ts (suc i) ≢ Assign

-- The body of a function, or of a method, whose first parameter is `self`.
abbrev pub body_lang : Bool → List Token → Context → Fun → Lang
body_lang false ts w x b n f = SpellsFun (given_tokens ts n f) (high w b) x
body_lang true ts w x b n f = SpellsMethod (given_tokens ts n f) (high w b) x

abbrev pub names_lang : List Token → List (List ℕ) → Lang
names_lang ts x b n f = Names (given_tokens ts n f) x

-- the names of a function's parameters, or of a method's
abbrev pub self_first : Bool → List (List ℕ) → List (List ℕ)
self_first false ns = ns
self_first true ns = codes "self" ∷ ns

abbrev pub Parameters : Type 0
Parameters = List (List ℕ) × Bool

abbrev pub params_lang : List Token → Parameters → Lang
params_lang ts (ps, dots) b n f = Params (given_tokens ts n f) ps dots

-- what isn't the `)` behind parameters
abbrev pub params_goes : TokenClass → Bool
params_goes RightParen = false
params_goes s = true

-- ---- statements

abbrev pub StatAnswer : List Token → Context → ℕ → Result (Reading StatNode) Fault → Type 0
StatAnswer ts w i r = Answer ts stat_view (stat_lang ts w) (goes_after (class_at ts i)) w.above i r

abbrev pub BlockAnswer : List Token → Context → ℕ → Result (Reading BlockNode) Fault → Type 0
BlockAnswer ts w i r = MaybeEmpty ts block_view (block_lang ts w) block_goes w.above i r
