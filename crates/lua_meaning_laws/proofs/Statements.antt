-- Statements and blocks.
use Rattle.std.specs.Prelude.{List, [], ◌∷◌, ◌++◌, reverse, Option, Some, None}
use Rattle.lua_meaning.specs.LuaSyntaxTree.{Fun}
use Rattle.lua_meaning.specs.LuaHeapValue.{Value, Nil, Text, Table, is_true}
use Rattle.lua_meaning.specs.Scope.{Bytes, Scope, with_name}
use Rattle.lua_meaning.specs.Acts.{Returned, Broke}
use Rattle.lua_meaning.specs.Parts.{Expression, Targeted, Statement, Branch, Target, Local, Global, Entry}
use Rattle.lua_meaning.specs.Statements as statements
use Rattle.lua_meaning.specs.Statements.{with_values}
use Rattle.lua_meaning_laws.proofs.OnlyData.{Quiet, Everywhere, Each, ◌>>=◌, ◌>>◌, give, jump, choose, look, note}
use Rattle.lua_meaning_laws.proofs.Heaps.{node, one, make_cell, write_cell, declare}
use Rattle.lua_meaning_laws.proofs.Calls.{set_index}
use Rattle.lua_meaning_laws.proofs.Expressions.{values, closure}

pub in_order : {s more : Statement} → Everywhere s → Everywhere more → (scope : Scope) → Quiet (statements.in_order s more scope)
in_order s more scope = do
  after ← s.at scope
  more.at after

pub at_end : (scope : Scope) → Quiet (statements.at_end scope)
at_end scope = give scope

within : {body : Statement} → Everywhere body → (scope : Scope) → Quiet (statements.within body scope)
within body scope = do
  body.at scope
  give scope

pub do_block : {body : Statement} → Everywhere body → (scope : Scope) → Quiet (statements.do_block body scope)
do_block body scope = do
  node
  within body scope

-- ASSIGNMENT
targets : (es : List Targeted) → Each es → (scope : Scope) (before : List Target) → Quiet (statements.targets es scope before)
targets [] each scope before = give before
targets (e ∷ more) (q, each) scope before = do
  t ← q.at scope
  targets more each scope (before ++ t ∷ [])

assign_one : (t : Target) (v : Value) → Quiet (statements.assign_one t v)
assign_one (Local cell) v = write_cell cell v
assign_one (Global name ls) v = note _ name >> look (λ s e. set_index (Table s.globals) (Text name) v ls)
assign_one (Entry of key ls) v = set_index of key v ls

assign_each : (ps : List (Target × Value)) → Quiet (statements.assign_each ps)
assign_each [] = give tt
assign_each (p ∷ ps) = assign_one p.0 p.1 >> assign_each ps

pub assign : (left : List Targeted) (right : List Expression) → Each left → Each right → (scope : Scope) → Quiet (statements.assign left right scope)
assign left right ts es scope = do
  node
  found ← targets left ts scope []
  vs ← values right es scope []
  assign_each (reverse (with_values found vs))
  give scope

-- LOCAL VARIABLES
pub local : (names : List Bytes) (right : List Expression) → Each right → (scope : Scope) → Quiet (statements.local names right scope)
local names right es scope = do
  node
  vs ← values right es scope []
  declare names vs scope

pub local_function : (name : Bytes) (f : Fun) (scope : Scope) → Quiet (statements.local_function name f scope)
local_function name f scope = do
  node
  cell ← make_cell Nil
  v ← closure f (with_name name cell scope)
  write_cell cell v
  give (with_name name cell scope)

pub call_statement : {e : Expression} → Everywhere e → (scope : Scope) → Quiet (statements.call_statement e scope)
call_statement e scope = do
  node
  e.at scope
  give scope

-- CONDITIONS: the last block if there is one, and each branch
abbrev pub IfAny : Option Statement → Type 0
IfAny None = Unit {0}
IfAny (Some body) = Everywhere body

abbrev pub EachBranch : List Branch → Type 0
EachBranch [] = Unit {0}
EachBranch (arm ∷ more) = Everywhere arm.test × Everywhere arm.body × EachBranch more

otherwise : (other : Option Statement) → IfAny other → (scope : Scope) → Quiet (statements.otherwise other scope)
otherwise None any scope = give scope
otherwise (Some body) any scope = within any scope

branches : (arms : List Branch) (other : Option Statement) → EachBranch arms → IfAny other → (scope : Scope) → Quiet (statements.branches arms other scope)
branches [] other each any scope = otherwise other any scope
branches (arm ∷ more) other (test, body, each) any scope = do
  v ← one (test.at scope)
  choose (is_true v) (within body scope) (branches more other each any scope)

pub conditional : (arms : List Branch) (other : Option Statement) → EachBranch arms → IfAny other → (scope : Scope) → Quiet (statements.conditional arms other scope)
conditional arms other each any scope = do
  node
  branches arms other each any scope

-- JUMPS
pub return : (right : List Expression) → Each right → (scope : Scope) → Quiet (statements.return right scope)
return right es scope = do
  node
  vs ← values right es scope []
  jump (Returned vs)

pub break : (scope : Scope) → Quiet (statements.break scope)
break scope = do
  node
  jump Broke
