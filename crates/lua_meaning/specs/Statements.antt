-- STATEMENTS (manual 2.4). Each begins with its node, and gives the environment of the statements after it: that of `local`
-- has more names, every other one leaves it as it was. What stands in a block of its own is not seen after it.
use Rattle.std.specs.Prelude.{List, [], ◌∷◌, ◌++◌, reverse, Option, Some, None}
use Rattle.lua_syntax.specs.Tree.{Fun}
use Rattle.page_run.specs.Outcome.{◌>>=◌, ◌>>◌, give, jump, note, see}
use Rattle.lua_walk.specs.LuaHeapValue.{Value, Nil, Text, Table, is_true}
use Rattle.lua_meaning.specs.Scope.{Bytes, Scope, with_name, source_of}
use Rattle.lua_meaning.specs.Values.{first, rest}
use Rattle.lua_meaning.specs.Acts.{Act, Returned, Broke, node, choose, one, make_cell, write_cell, declare}
use Rattle.lua_meaning.specs.Index.{set_index}
use Rattle.lua_meaning.specs.Expressions.{values, closure}
use Rattle.lua_meaning.specs.Parts.{Expression, Targeted, Statement, Branch, Target, Local, Global, Entry}

-- BLOCKS (2.4.1): a statement, and those that follow it in the environment that it gives
abbrev pub in_order : Statement → Statement → Statement
in_order s more scope = do
  after ← s scope
  more after

-- where a block ends
abbrev pub at_end : Statement
at_end scope = give scope

-- a block, with what it declares forgotten
abbrev pub within : Statement → Statement
within body scope = do
  body scope
  give scope

abbrev pub do_block : Statement → Statement
do_block body scope = do
  node
  within body scope

-- ASSIGNMENT (2.4.3): the tables and keys of the targets, then the values, and then each target from the last to the first. The name of
-- a global variable is noted.
abbrev pub targets : List Targeted → Scope → List Target → Act (List Target)
targets [] scope before = give before
targets (e ∷ more) scope before = do
  t ← e scope
  targets more scope (before ++ t ∷ [])

-- each target with its value
abbrev pub with_values : List Target → List Value → List (Target × Value)
with_values [] vs = []
with_values (t ∷ ts) vs = (t, first vs) ∷ with_values ts (rest vs)

abbrev pub assign_one : Target → Value → Act (Unit {0})
assign_one (Local cell) v = write_cell cell v
assign_one (Global name ls) v = do
  note (source_of ls) name
  s ← see
  set_index (Table s.globals) (Text name) v ls
assign_one (Entry of key ls) v = set_index of key v ls

abbrev pub assign_each : List (Target × Value) → Act (Unit {0})
assign_each [] = give tt
assign_each (p ∷ ps) = assign_one p.0 p.1 >> assign_each ps

abbrev pub assign : List Targeted → List Expression → Statement
assign left right scope = do
  node
  ts ← targets left scope []
  vs ← values right scope []
  assign_each (reverse (with_values ts vs))
  give scope

-- LOCAL VARIABLES (2.4.7): they are seen from the next statement on
abbrev pub local : List Bytes → List Expression → Statement
local names right scope = do
  node
  vs ← values right scope []
  declare names vs scope

-- the name of a local function is seen in its body (2.5.9)
abbrev pub local_function : Bytes → Fun → Statement
local_function name f scope = do
  node
  cell ← make_cell Nil
  v ← closure f (with_name name cell scope)
  write_cell cell v
  give (with_name name cell scope)

-- CALLS as statements (2.4.6): their values are dropped
abbrev pub call_statement : Expression → Statement
call_statement e scope = do
  node
  e scope
  give scope

-- CONDITIONS (2.4.4): the first branch whose test is true, else the last block, if there is one
abbrev pub otherwise : Option Statement → Statement
otherwise None scope = give scope
otherwise (Some body) scope = within body scope

abbrev pub branches : List Branch → Option Statement → Statement
branches [] other scope = otherwise other scope
branches (arm ∷ more) other scope = do
  v ← one (arm.test scope)
  choose (is_true v) (within arm.body scope) (branches more other scope)

abbrev pub conditional : List Branch → Option Statement → Statement
conditional arms other scope = do
  node
  branches arms other scope

-- JUMPS (2.4.4)
abbrev pub return : List Expression → Statement
return right scope = do
  node
  vs ← values right scope []
  jump (Returned vs)

abbrev pub break : Statement
break scope = do
  node
  jump Broke
