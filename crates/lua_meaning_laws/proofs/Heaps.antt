-- Nodes, the heap, local variables and errors.
use Rattle.std.specs.Prelude.{ℕ, List, [], ◌∷◌, ◌++◌, length, Option, Some, None}
use Rattle.lua_meaning.specs.LuaHeapValue.{Value, Closure, Text}
use Rattle.lua_meaning.specs.LuaHeapHeap.{Heap, Function as FunctionClosed, cell_at, set_cell_in, new_table, new_cell, new_closure}
use Rattle.lua_meaning.specs.Scope.{Bytes, Scope, Place, Function, Levels, with_name}
use Rattle.lua_meaning.specs.Values.{first, rest}
use Rattle.lua_meaning.specs.Acts as acts
use Rattle.lua_meaning.specs.Acts.{Act}
use Rattle.lua_meaning.specs.Charges.{node_charge, table_charge, closure_charge}
use Rattle.lua_meaning.specs.Messages as messages
use Rattle.lua_meaning.specs.Messages.{nth_level, place_text}
use Rattle.lua_meaning_laws.proofs.OnlyData.{Quiet, ◌>>=◌, ◌>>◌, give, tick, count, look, change, raise}

pub node : Quiet acts.node
node = tick node_charge >> count

pub one : {m : Act (List Value)} → Quiet m → Quiet (acts.one m)
one q = do
  vs ← q
  give (first vs)

-- THE HEAP
pub see_heap : Quiet acts.see_heap
see_heap = look (λ s e. give s.heap)

pub change_heap : (h : Heap Function) → Quiet (acts.change_heap h)
change_heap h = look (λ s e. change (record s { heap = h }) e)

pub read_cell : (cell : ℕ) → Quiet (acts.read_cell cell)
read_cell cell = do
  h ← see_heap
  give (cell_at h cell)

pub write_cell : (cell : ℕ) (v : Value) → Quiet (acts.write_cell cell v)
write_cell cell v = do
  h ← see_heap
  change_heap (set_cell_in h cell v)

pub make_table : Quiet acts.make_table
make_table = do
  tick table_charge
  h ← see_heap
  change_heap (new_table h).0
  give (new_table h).1

pub make_closure : (f : Function) → Quiet (acts.make_closure f)
make_closure f = do
  tick closure_charge
  h ← see_heap
  change_heap (new_closure h (FunctionClosed f)).0
  give (Closure (new_closure h (FunctionClosed f)).1)

pub make_cell : (v : Value) → Quiet (acts.make_cell v)
make_cell v = do
  h ← see_heap
  change_heap (new_cell h v).0
  give (new_cell h v).1

pub declare : (names : List Bytes) (vs : List Value) (scope : Scope) → Quiet (acts.declare names vs scope)
declare [] vs scope = give scope
declare (name ∷ names) vs scope = do
  cell ← make_cell (first vs)
  declare names (rest vs) (with_name name cell scope)

-- ERRORS
pub raise_text : {X : Type 0} → (place : Option Place) (text : Bytes) → Quiet {X = X} (messages.raise_text place text)
raise_text None text = raise (Text text)
raise_text (Some p) text = tick (length (place_text p ++ text)) >> raise (Text (place_text p ++ text))

pub raise_at : {X : Type 0} → (place : Option Place) (v : Value) → Quiet {X = X} (messages.raise_at place v)
raise_at p (Text t) = raise_text p t
raise_at p v = raise v

pub fail : {X : Type 0} → (ls : Levels) (text : Bytes) → Quiet {X = X} (messages.fail ls text)
fail ls text = raise_text (nth_level ls 1) text

raise_quote : {X : Type 0} → (place : Option Place) (text : Bytes) → Quiet {X = X} (messages.raise_quote place text)
raise_quote None text = tick (length text) >> raise (Text text)
raise_quote (Some p) text = raise_text (Some p) text

pub fail_quoting : {X : Type 0} → (ls : Levels) (text : Bytes) → Quiet {X = X} (messages.fail_quoting ls text)
fail_quoting ls text = raise_quote (nth_level ls 1) text
