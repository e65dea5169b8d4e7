-- EXPRESSIONS (manual 2.5). Each begins with its node; operands are evaluated from left to right.
use Rattle.std.specs.Prelude.{ℕ, true, false, not, List, [], ◌∷◌, ◌++◌, length, Option, Some, None, Bool}
use Rattle.page_run.specs.Outcome.{◌>>=◌, ◌>>◌, give, tick, note, see}
use Rattle.lua_syntax.specs.declared.BinaryOp.{BinaryOp}
use Rattle.lua_syntax.specs.declared.BinaryOp.TheVariants as op
use Rattle.lua_syntax.specs.declared.UnaryOp.{UnaryOp}
use Rattle.lua_syntax.specs.declared.UnaryOp.TheVariants as sign
use Rattle.lua_syntax.specs.Tree.{Fun}
use Rattle.lua_walk.specs.LuaHeapValue.{Value, Truth, Text, Table, is_true}
use Rattle.lua_meaning.specs.Scope.{Bytes, Scope, Levels, cell_of, levels, source_of}
use Rattle.lua_meaning.specs.Acts.{Act, node, one, read_cell, make_closure}
use Rattle.lua_meaning.specs.Calls.{call}
use Rattle.lua_meaning.specs.Index.{index}
use Rattle.lua_meaning.specs.Operators.{Add, Sub, Mul, Div, Mod, Pow, Operator, Less, Greater, AtMost, AtLeast, Equal, Unequal, Concatenate, Calculate, operate, minus, length_of}
use Rattle.lua_meaning.specs.Parts.{Expression, Targeted, Target, Local, Global, Entry}

-- the one value of an expression; of a list the first, and nil where there is none
abbrev pub value : Expression → Scope → Act Value
value e scope = one (e scope)

-- LISTS (2.5): the values before, and those of the list. The last expression gives all its values, each other one gives one.
abbrev pub values : List Expression → Scope → List Value → Act (List Value)
values [] scope before = give before
values (e ∷ []) scope before = do
  vs ← e scope
  give (before ++ vs)
values (e ∷ more) scope before = do
  v ← value e scope
  values more scope (before ++ v ∷ [])

-- CONSTANTS
abbrev pub constant : Value → Expression
constant v scope = node >> give (v ∷ [])

-- `...` costs a step more for each of its values
abbrev pub dots : Expression
dots scope = do
  node
  tick (length scope.dots)
  give scope.dots

-- VARIABLES (2.3): a local one is read from its cell, a global one from the table of globals, and its name is noted
abbrev pub variable : Option ℕ → Bytes → Levels → Act Value
variable (Some cell) name ls = read_cell cell
variable None name ls = do
  note (source_of ls) name
  s ← see
  index (Table s.globals) (Text name) ls

abbrev pub name : Bytes → ℕ → Expression
name x line scope = do
  node
  v ← variable (cell_of scope.names x) x (levels scope line)
  give (v ∷ [])

abbrev pub index_expression : Expression → Expression → ℕ → Expression
index_expression of key line scope = do
  node
  t ← value of scope
  k ← value key scope
  v ← index t k (levels scope line)
  give (v ∷ [])

-- FUNCTIONS (2.5.9): each time a new closure, with the names that are seen here
abbrev pub closure : Fun → Scope → Act Value
closure f scope = make_closure (record { node = f; names = scope.names; source = scope.source })

abbrev pub function : Fun → Expression
function f scope = do
  node
  v ← closure f scope
  give (v ∷ [])

-- CALLS (2.5.8)
abbrev pub call_expression : Expression → List Expression → ℕ → Expression
call_expression f args line scope = do
  node
  g ← value f scope
  vs ← values args scope []
  call g vs (levels scope line)

-- `of:name(args)` evaluates `of` once, looks the function up, and gives it that object first
abbrev pub method : Expression → Bytes → List Expression → ℕ → Expression
method of x args line scope = do
  node
  object ← value of scope
  f ← index object (Text x) (levels scope line)
  vs ← values args scope (object ∷ [])
  call f vs (levels scope line)

-- in parentheses an expression has one value
abbrev pub paren : Expression → Expression
paren e scope = do
  node
  v ← value e scope
  give (v ∷ [])

-- OPERATORS. Both operands are evaluated, from left to right; but `and` and `or` give an operand, and evaluate the second only where the first does not decide (2.5.3).
abbrev pub unless_decided : Bool → Value → Expression → Expression
unless_decided true v other scope = give (v ∷ [])
unless_decided false v other scope = do
  w ← value other scope
  give (w ∷ [])

abbrev pub operation : Operator → Expression → Expression → ℕ → Expression
operation o a b line scope = do
  node
  v ← value a scope
  w ← value b scope
  r ← operate o v w (levels scope line)
  give (r ∷ [])

abbrev pub binary : BinaryOp → Expression → Expression → ℕ → Expression
binary op.Or a b line scope = do
  node
  v ← value a scope
  unless_decided (is_true v) v b scope
binary op.And a b line scope = do
  node
  v ← value a scope
  unless_decided (not (is_true v)) v b scope
binary op.Lt a b line scope = operation Less a b line scope
binary op.Gt a b line scope = operation Greater a b line scope
binary op.Le a b line scope = operation AtMost a b line scope
binary op.Ge a b line scope = operation AtLeast a b line scope
binary op.Ne a b line scope = operation Unequal a b line scope
binary op.Eq a b line scope = operation Equal a b line scope
binary op.Concat a b line scope = operation Concatenate a b line scope
binary op.Add a b line scope = operation (Calculate Add) a b line scope
binary op.Sub a b line scope = operation (Calculate Sub) a b line scope
binary op.Mul a b line scope = operation (Calculate Mul) a b line scope
binary op.Div a b line scope = operation (Calculate Div) a b line scope
binary op.Mod a b line scope = operation (Calculate Mod) a b line scope
binary op.Pow a b line scope = operation (Calculate Pow) a b line scope

abbrev pub apply : UnaryOp → Value → Levels → Act Value
apply sign.Not v ls = give (Truth (not (is_true v)))
apply sign.Len v ls = length_of v ls
apply sign.Minus v ls = minus v ls

abbrev pub unary : UnaryOp → Expression → ℕ → Expression
unary o a line scope = do
  node
  v ← value a scope
  r ← apply o v (levels scope line)
  give (r ∷ [])

-- TARGETS (2.4.3). A name costs nothing; of an index the table and the key are evaluated.
abbrev pub name_target : Option ℕ → Bytes → Levels → Target
name_target (Some cell) x ls = Local cell
name_target None x ls = Global x ls

abbrev pub index_target : Expression → Expression → ℕ → Targeted
index_target of key line scope = do
  node
  t ← value of scope
  k ← value key scope
  give (Entry t k (levels scope line))
