-- Expressions, and constructors of tables. In one scope; the names in them are allowed there.
use Rattle.std.specs.Prelude.{◌≡◌, ℕ, ◌+◌, pos, Bool, true, false, not, List, [], ◌∷◌, ◌++◌, length, Option, Some, None, bytes_eq, if◌then◌else◌}
use Rattle.std.proofs.Common.{refl, inl}
use Rattle.lua_meaning.specs.LuaSyntaxDeclaredBinaryOp.{BinaryOp}
use Rattle.lua_meaning.specs.LuaSyntaxDeclaredBinaryOpTheVariants as op
use Rattle.lua_meaning.specs.LuaSyntaxDeclaredUnaryOp.{UnaryOp}
use Rattle.lua_meaning.specs.LuaSyntaxDeclaredUnaryOpTheVariants as sign
use Rattle.lua_meaning.specs.LuaSyntaxTree.{Fun}
use Rattle.lua_walk.specs.LuaHeapValue.{Value, Number, Text, Table, is_true}
use Rattle.lua_meaning.specs.Scope.{Bytes, Names as Cells, Scope, Levels, cell_of, levels, source_of}
use Rattle.lua_meaning.specs.Operators.{Operator, Less, Greater, AtMost, AtLeast, Equal, Unequal, Concatenate, Calculate, Add, Sub, Mul, Div, Mod, Pow}
use Rattle.lua_meaning.specs.Parts.{Expression, Target, Local, Global, Entry, FieldMeaning, ItemOf, PairOf}
use Rattle.lua_meaning.specs.Expressions as parts
use Rattle.lua_meaning.specs.Constructors as constructors
use Rattle.lua_uses.specs.Uses.{is_bound, name_uses, function_uses}
use Rattle.lua_lint_laws.proofs.Told.{Allowed, AreAllowed, names_of, Quiet, Gives, Each, ◌>>=◌, ◌>>◌, behind, behind_line, gives, give, tick, look, note}
use Rattle.lua_lint_laws.proofs.Heaps.{node, one, read_cell, make_table, make_closure}
use Rattle.lua_lint_laws.proofs.Calls.{call, index, set_entry}
use Rattle.lua_lint_laws.proofs.Operators.{operate, minus, length_of}

pub values : {P : Allowed} → (es : List Expression) (scope : Scope) → Each P scope es → (before : List Value) → Quiet P (parts.values es scope before)
values [] scope q before = give before
values (e ∷ []) scope (q, r) before = do
  vs ← q
  give (before ++ vs)
values (e ∷ f ∷ more) scope (q, r) before = do
  v ← one q
  values (f ∷ more) scope r (before ++ v ∷ [])

pub constant : {P : Allowed} → (v : Value) (scope : Scope) → Quiet P (parts.constant v scope)
constant v scope = node >> give _

pub dots : {P : Allowed} → (scope : Scope) → Quiet P (parts.dots scope)
dots scope = do
  node
  tick (length scope.dots)
  give scope.dots

-- A NAME without a cell is one that no variable binds
pub global_allowed : {P : Allowed} → (cells : Cells) (x : Bytes) (line : ℕ) (source : List ℕ) → AreAllowed P source (name_uses line x (names_of cells)) → cell_of cells x ≡ None → P source x
global_allowed [] x line source ok none = ok.each (record { line = line; name = x; required = None }) (inl refl)
global_allowed {P = P} (n ∷ cells) x line source ok none = go (bytes_eq n.0 x) (global_allowed cells x line source) ok none
  where
    go : (b : Bool) → (AreAllowed P source (name_uses line x (names_of cells)) → cell_of cells x ≡ None → P source x) → AreAllowed P source (if (if b then true else is_bound (names_of cells) x) then [] else record { line = line; name = x; required = None } ∷ []) → (if b then Some n.1 else cell_of cells x) ≡ None → P source x
    go true rest ok none = absurd (never n.1 none)
      where
        never : (c : ℕ) → Some c ≡ None → ⊥
        never c e = absurd cc
    go false rest ok none = rest ok none

variable : {P : Allowed} → (cell : Option ℕ) (name : Bytes) (ls : Levels) → (cell ≡ None → P (source_of ls) name) → Quiet P (parts.variable cell name ls)
variable (Some cell) name ls ok = read_cell cell
variable None name ls ok = note _ name (ok refl) >> look (λ s e. index (Table s.globals) (Text name) ls)

pub name : {P : Allowed} → (x : Bytes) (line : ℕ) (scope : Scope) → AreAllowed P scope.source (name_uses line x (names_of scope.names)) → Quiet P (parts.name x line scope)
name x line scope ok = do
  node
  v ← variable (cell_of scope.names x) x (levels scope line) (global_allowed scope.names x line scope.source ok)
  give (v ∷ [])

pub index_expression : {P : Allowed} → (of key : Expression) (line : ℕ) (scope : Scope) → Quiet P (of scope) → Quiet P (key scope) → Quiet P (parts.index_expression of key line scope)
index_expression of key line scope q r = do
  node
  t ← one q
  k ← one r
  v ← index t k (levels scope line)
  give (v ∷ [])

pub closure : {P : Allowed} → (f : Fun) (scope : Scope) → AreAllowed P scope.source (function_uses f (names_of scope.names)) → Quiet P (parts.closure f scope)
closure f scope ok = make_closure _ ok

pub function : {P : Allowed} → (f : Fun) (scope : Scope) → AreAllowed P scope.source (function_uses f (names_of scope.names)) → Quiet P (parts.function f scope)
function f scope ok = do
  node
  v ← closure f scope ok
  give (v ∷ [])

pub call_expression : {P : Allowed} → (f : Expression) (args : List Expression) (line : ℕ) (scope : Scope) → Quiet P (f scope) → Each P scope args → Quiet P (parts.call_expression f args line scope)
call_expression f args line scope q each = do
  node
  g ← one q
  vs ← values args scope each []
  call g vs (levels scope line)

pub method : {P : Allowed} → (of : Expression) (x : Bytes) (args : List Expression) (line : ℕ) (scope : Scope) → Quiet P (of scope) → Each P scope args → Quiet P (parts.method of x args line scope)
method of x args line scope q each = do
  node
  object ← one q
  f ← index object (Text x) (levels scope line)
  vs ← values args scope each (object ∷ [])
  call f vs (levels scope line)

pub paren : {P : Allowed} → (e : Expression) (scope : Scope) → Quiet P (e scope) → Quiet P (parts.paren e scope)
paren e scope q = do
  node
  v ← one q
  give (v ∷ [])

unless_decided : {P : Allowed} → (decided : Bool) (v : Value) (other : Expression) (scope : Scope) → Quiet P (other scope) → Quiet P (parts.unless_decided decided v other scope)
unless_decided true v other scope q = give _
unless_decided false v other scope q = do
  w ← one q
  give (w ∷ [])

operation : {P : Allowed} → (o : Operator) (a b : Expression) (line : ℕ) (scope : Scope) → Quiet P (a scope) → Quiet P (b scope) → Quiet P (parts.operation o a b line scope)
operation o a b line scope q r = do
  node
  v ← one q
  w ← one r
  r ← operate o v w (levels scope line)
  give (r ∷ [])

pub binary : {P : Allowed} → (o : BinaryOp) (a b : Expression) (line : ℕ) (scope : Scope) → Quiet P (a scope) → Quiet P (b scope) → Quiet P (parts.binary o a b line scope)
binary op.Or a b line scope q r = do
  node
  v ← one q
  unless_decided (is_true v) v b scope r
binary op.And a b line scope q r = do
  node
  v ← one q
  unless_decided (not (is_true v)) v b scope r
binary op.Lt a b line scope q r = operation Less a b line scope q r
binary op.Gt a b line scope q r = operation Greater a b line scope q r
binary op.Le a b line scope q r = operation AtMost a b line scope q r
binary op.Ge a b line scope q r = operation AtLeast a b line scope q r
binary op.Ne a b line scope q r = operation Unequal a b line scope q r
binary op.Eq a b line scope q r = operation Equal a b line scope q r
binary op.Concat a b line scope q r = operation Concatenate a b line scope q r
binary op.Add a b line scope q r = operation (Calculate Add) a b line scope q r
binary op.Sub a b line scope q r = operation (Calculate Sub) a b line scope q r
binary op.Mul a b line scope q r = operation (Calculate Mul) a b line scope q r
binary op.Div a b line scope q r = operation (Calculate Div) a b line scope q r
binary op.Mod a b line scope q r = operation (Calculate Mod) a b line scope q r
binary op.Pow a b line scope q r = operation (Calculate Pow) a b line scope q r

apply : {P : Allowed} → (o : UnaryOp) (v : Value) (ls : Levels) → Quiet P (parts.apply o v ls)
apply sign.Not v ls = give _
apply sign.Len v ls = length_of v ls
apply sign.Minus v ls = minus v ls

pub unary : {P : Allowed} → (o : UnaryOp) (a : Expression) (line : ℕ) (scope : Scope) → Quiet P (a scope) → Quiet P (parts.unary o a line scope)
unary o a line scope q = do
  node
  v ← one q
  r ← apply o v (levels scope line)
  give (r ∷ [])

-- TARGETS: that of a global variable has a name that is allowed
abbrev pub IsTarget : Allowed → Target → Type 0
IsTarget P (Local cell) = Unit {0}
IsTarget P (Global name ls) = P (source_of ls) name
IsTarget P (Entry of key ls) = Unit {0}

pub name_target : (P : Allowed) (cell : Option ℕ) (x : Bytes) (ls : Levels) → (cell ≡ None → P (source_of ls) x) → IsTarget P (parts.name_target cell x ls)
name_target P (Some cell) x ls ok = tt
name_target P None x ls ok = ok refl

pub index_target : {P : Allowed} → (of key : Expression) (line : ℕ) (scope : Scope) → Quiet P (of scope) → Quiet P (key scope) → Gives P (IsTarget P) (parts.index_target of key line scope)
index_target of key line scope q r = behind_line node (behind (one q) (λ t. behind (one r) (λ k. gives (Entry t k (levels scope line)) tt)))

-- CONSTRUCTORS
set_items : {P : Allowed} → (t n : ℕ) (vs : List Value) (ls : Levels) → Quiet P (constructors.set_items t n vs ls)
set_items t n [] ls = give tt
set_items t n (v ∷ vs) ls = do
  set_entry t (Number (pos n)) v ls
  set_items t (n + 1) vs ls

set_item : {P : Allowed} → (t n : ℕ) (e : Expression) (ls : Levels) (scope : Scope) → Quiet P (e scope) → Quiet P (constructors.set_item t n e ls scope)
set_item t n e ls scope q = do
  v ← one q
  set_entry t (Number (pos n)) v ls

set_last : {P : Allowed} → (t n : ℕ) (e : Expression) (ls : Levels) (scope : Scope) → Quiet P (e scope) → Quiet P (constructors.set_last t n e ls scope)
set_last t n e ls scope q = do
  vs ← q
  set_items t n vs ls

set_pair : {P : Allowed} → (t : ℕ) (key e : Expression) (ls : Levels) (scope : Scope) → Quiet P (key scope) → Quiet P (e scope) → Quiet P (constructors.set_pair t key e ls scope)
set_pair t key e ls scope q r = do
  k ← one q
  v ← one r
  set_entry t k v ls

-- each expression in these fields is quiet
abbrev pub EachField : Allowed → Scope → List FieldMeaning → Type 0
EachField P scope [] = Unit {0}
EachField P scope (ItemOf e ∷ more) = Quiet P (e scope) × EachField P scope more
EachField P scope (PairOf key e ∷ more) = Quiet P (key scope) × Quiet P (e scope) × EachField P scope more

set_fields : {P : Allowed} → (t n : ℕ) (fields : List FieldMeaning) (ls : Levels) (scope : Scope) → EachField P scope fields → Quiet P (constructors.set_fields t n fields ls scope)
set_fields t n [] ls scope each = give tt
set_fields t n (ItemOf e ∷ []) ls scope (q, each) = set_last t n e ls scope q
set_fields t n (ItemOf e ∷ f ∷ more) ls scope (q, each) = set_item t n e ls scope q >> set_fields t (n + 1) (f ∷ more) ls scope each
set_fields t n (PairOf key e ∷ more) ls scope (q, r, each) = set_pair t key e ls scope q r >> set_fields t n more ls scope each

pub table_constructor : {P : Allowed} → (fields : List FieldMeaning) (line : ℕ) (scope : Scope) → EachField P scope fields → Quiet P (constructors.table_constructor fields line scope)
table_constructor fields line scope each = do
  node
  t ← make_table
  set_fields t 1 fields (levels scope line) scope each
  give (Table t ∷ [])
