-- Expressions, and constructors of tables.
use Rattle.std.specs.Prelude.{ℕ, ◌+◌, pos, Bool, true, false, not, List, [], ◌∷◌, ◌++◌, length, Option, Some, None}
use Rattle.lua_meaning.specs.LuaSyntaxDeclaredBinaryOp.{BinaryOp}
use Rattle.lua_meaning.specs.LuaSyntaxDeclaredBinaryOpTheVariants as op
use Rattle.lua_meaning.specs.LuaSyntaxDeclaredUnaryOp.{UnaryOp}
use Rattle.lua_meaning.specs.LuaSyntaxDeclaredUnaryOpTheVariants as sign
use Rattle.lua_meaning.specs.LuaSyntaxTree.{Fun}
use Rattle.lua_meaning.specs.LuaHeapValue.{Value, Number, Text, Table, is_true}
use Rattle.lua_meaning.specs.Scope.{Bytes, Scope, Levels, cell_of, levels}
use Rattle.lua_meaning.specs.Operators.{Operator, Less, Greater, AtMost, AtLeast, Equal, Unequal, Concatenate, Calculate, Add, Sub, Mul, Div, Mod, Pow}
use Rattle.lua_meaning.specs.Parts.{Expression, Entry, FieldMeaning, ItemOf, PairOf}
use Rattle.lua_meaning.specs.Expressions as parts
use Rattle.lua_meaning.specs.Constructors as constructors
use Rattle.lua_meaning_laws.proofs.OnlyData.{Quiet, Everywhere, Each, ◌>>=◌, ◌>>◌, give, tick, look, note}
use Rattle.lua_meaning_laws.proofs.Heaps.{node, one, read_cell, make_table, make_closure}
use Rattle.lua_meaning_laws.proofs.Calls.{call, index, set_entry}
use Rattle.lua_meaning_laws.proofs.Operators.{operate, minus, length_of}

pub value : {e : Expression} → Everywhere e → (scope : Scope) → Quiet (parts.value e scope)
value q scope = one (q.at scope)

pub values : (es : List Expression) → Each es → (scope : Scope) (before : List Value) → Quiet (parts.values es scope before)
values [] q scope before = give before
values (e ∷ []) (q, r) scope before = do
  vs ← q.at scope
  give (before ++ vs)
values (e ∷ f ∷ more) (q, r) scope before = do
  v ← value q scope
  values (f ∷ more) r scope (before ++ v ∷ [])

pub constant : (v : Value) (scope : Scope) → Quiet (parts.constant v scope)
constant v scope = node >> give _

pub dots : (scope : Scope) → Quiet (parts.dots scope)
dots scope = do
  node
  tick (length scope.dots)
  give scope.dots

variable : (cell : Option ℕ) (name : Bytes) (ls : Levels) → Quiet (parts.variable cell name ls)
variable (Some cell) name ls = read_cell cell
variable None name ls = note _ name >> look (λ s e. index (Table s.globals) (Text name) ls)

pub name : (x : Bytes) (line : ℕ) (scope : Scope) → Quiet (parts.name x line scope)
name x line scope = do
  node
  v ← variable (cell_of scope.names x) x (levels scope line)
  give (v ∷ [])

pub index_expression : {of key : Expression} → Everywhere of → Everywhere key → (line : ℕ) (scope : Scope) → Quiet (parts.index_expression of key line scope)
index_expression of key line scope = do
  node
  t ← value of scope
  k ← value key scope
  v ← index t k (levels scope line)
  give (v ∷ [])

pub closure : (f : Fun) (scope : Scope) → Quiet (parts.closure f scope)
closure f scope = make_closure _

pub function : (f : Fun) (scope : Scope) → Quiet (parts.function f scope)
function f scope = do
  node
  v ← closure f scope
  give (v ∷ [])

pub call_expression : {f : Expression} (args : List Expression) → Everywhere f → Each args → (line : ℕ) (scope : Scope) → Quiet (parts.call_expression f args line scope)
call_expression args f each line scope = do
  node
  g ← value f scope
  vs ← values args each scope []
  call g vs (levels scope line)

pub method : {of : Expression} (x : Bytes) (args : List Expression) → Everywhere of → Each args → (line : ℕ) (scope : Scope) → Quiet (parts.method of x args line scope)
method x args of each line scope = do
  node
  object ← value of scope
  f ← index object (Text x) (levels scope line)
  vs ← values args each scope (object ∷ [])
  call f vs (levels scope line)

pub paren : {e : Expression} → Everywhere e → (scope : Scope) → Quiet (parts.paren e scope)
paren e scope = do
  node
  v ← value e scope
  give (v ∷ [])

unless_decided : {other : Expression} → (decided : Bool) (v : Value) → Everywhere other → (scope : Scope) → Quiet (parts.unless_decided decided v other scope)
unless_decided true v other scope = give _
unless_decided false v other scope = do
  w ← value other scope
  give (w ∷ [])

operation : {a b : Expression} → (o : Operator) → Everywhere a → Everywhere b → (line : ℕ) (scope : Scope) → Quiet (parts.operation o a b line scope)
operation o a b line scope = do
  node
  v ← value a scope
  w ← value b scope
  r ← operate o v w (levels scope line)
  give (r ∷ [])

pub binary : {a b : Expression} → (o : BinaryOp) → Everywhere a → Everywhere b → (line : ℕ) (scope : Scope) → Quiet (parts.binary o a b line scope)
binary op.Or a b line scope = do
  node
  v ← value a scope
  unless_decided (is_true v) v b scope
binary op.And a b line scope = do
  node
  v ← value a scope
  unless_decided (not (is_true v)) v b scope
binary op.Lt a b line scope = operation Less a b line scope
binary op.Gt a b line scope = operation Greater a b line scope
binary op.Le a b line scope = operation AtMost a b line scope
binary op.Ge a b line scope = operation AtLeast a b line scope
binary op.Ne a b line scope = operation Unequal a b line scope
binary op.Eq a b line scope = operation Equal a b line scope
binary op.Concat a b line scope = operation Concatenate a b line scope
binary op.Add a b line scope = operation (Calculate Add) a b line scope
binary op.Sub a b line scope = operation (Calculate Sub) a b line scope
binary op.Mul a b line scope = operation (Calculate Mul) a b line scope
binary op.Div a b line scope = operation (Calculate Div) a b line scope
binary op.Mod a b line scope = operation (Calculate Mod) a b line scope
binary op.Pow a b line scope = operation (Calculate Pow) a b line scope

apply : (o : UnaryOp) (v : Value) (ls : Levels) → Quiet (parts.apply o v ls)
apply sign.Not v ls = give _
apply sign.Len v ls = length_of v ls
apply sign.Minus v ls = minus v ls

pub unary : {a : Expression} → (o : UnaryOp) → Everywhere a → (line : ℕ) (scope : Scope) → Quiet (parts.unary o a line scope)
unary o a line scope = do
  node
  v ← value a scope
  r ← apply o v (levels scope line)
  give (r ∷ [])

pub index_target : {of key : Expression} → Everywhere of → Everywhere key → (line : ℕ) (scope : Scope) → Quiet (parts.index_target of key line scope)
index_target of key line scope = do
  node
  t ← value of scope
  k ← value key scope
  give (Entry t k (levels scope line))

-- CONSTRUCTORS
set_items : (t n : ℕ) (vs : List Value) (ls : Levels) → Quiet (constructors.set_items t n vs ls)
set_items t n [] ls = give tt
set_items t n (v ∷ vs) ls = do
  set_entry t (Number (pos n)) v ls
  set_items t (n + 1) vs ls

set_item : {e : Expression} → (t n : ℕ) → Everywhere e → (ls : Levels) (scope : Scope) → Quiet (constructors.set_item t n e ls scope)
set_item t n e ls scope = do
  v ← one (e.at scope)
  set_entry t (Number (pos n)) v ls

set_last : {e : Expression} → (t n : ℕ) → Everywhere e → (ls : Levels) (scope : Scope) → Quiet (constructors.set_last t n e ls scope)
set_last t n e ls scope = do
  vs ← e.at scope
  set_items t n vs ls

set_pair : {key e : Expression} → (t : ℕ) → Everywhere key → Everywhere e → (ls : Levels) (scope : Scope) → Quiet (constructors.set_pair t key e ls scope)
set_pair t key e ls scope = do
  k ← one (key.at scope)
  v ← one (e.at scope)
  set_entry t k v ls

-- each expression in these fields is quiet
abbrev pub EachField : List FieldMeaning → Type 0
EachField [] = Unit {0}
EachField (ItemOf e ∷ more) = Everywhere e × EachField more
EachField (PairOf key e ∷ more) = Everywhere key × Everywhere e × EachField more

set_fields : (t n : ℕ) (fields : List FieldMeaning) → EachField fields → (ls : Levels) (scope : Scope) → Quiet (constructors.set_fields t n fields ls scope)
set_fields t n [] each ls scope = give tt
set_fields t n (ItemOf e ∷ []) (q, each) ls scope = set_last t n q ls scope
set_fields t n (ItemOf e ∷ f ∷ more) (q, each) ls scope = set_item t n q ls scope >> set_fields t (n + 1) (f ∷ more) each ls scope
set_fields t n (PairOf key e ∷ more) (q, r, each) ls scope = set_pair t q r ls scope >> set_fields t n more each ls scope

pub table_constructor : (fields : List FieldMeaning) → EachField fields → (line : ℕ) (scope : Scope) → Quiet (constructors.table_constructor fields line scope)
table_constructor fields each line scope = do
  node
  t ← make_table
  set_fields t 1 fields each (levels scope line) scope
  give (Table t ∷ [])
