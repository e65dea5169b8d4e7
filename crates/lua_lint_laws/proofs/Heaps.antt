-- Nodes, the heap, local variables and errors.
use Rattle.std.proofs.Common.{◌≡◌, subst}
use Rattle.std.specs.Prelude.{ℕ, List, [], ◌∷◌, ◌++◌, length, Option, Some, None}
use Rattle.lua_walk.specs.LuaHeapValue.{Value, Closure, Text}
use Rattle.lua_walk.specs.LuaHeapHeap.{Heap, Closed, Function as FunctionClosed, cell_at, set_cell_in, new_table, new_cell, new_closure}
use Rattle.lua_meaning.specs.Scope.{Bytes, Scope, Place, Function, Levels, with_name}
use Rattle.lua_meaning.specs.Values.{first, rest}
use Rattle.lua_meaning.specs.Acts as acts
use Rattle.lua_meaning.specs.Acts.{Act}
use Rattle.lua_meaning.specs.Charges.{node_charge, table_charge, closure_charge}
use Rattle.lua_meaning.specs.Messages as messages
use Rattle.lua_meaning.specs.Messages.{nth_level, place_text}
use Rattle.lua_uses.specs.Uses.{with_names}
use Rattle.lua_lint_laws.proofs.Told.{Allowed, AreSound, with_closed, IsSound, IsSoundHeap, Quiet, Gives, IsScope, same_scope, names_of, ◌>>=◌, ◌>>◌, behind, gives, give, tick, count, look, look_heap, change, raise}

pub node : {P : Allowed} → Quiet P acts.node
node = tick node_charge >> count

pub one : {P : Allowed} → {m : Act (List Value)} → Quiet P m → Quiet P (acts.one m)
one q = do
  vs ← q
  give (first vs)

-- THE HEAP
pub see_heap : {P : Allowed} → Quiet P acts.see_heap
see_heap = look (λ s e. give s.heap)

pub change_heap : {P : Allowed} → (h : Heap Function) → IsSoundHeap P h → Quiet P (acts.change_heap h)
change_heap h ok = look (λ s e. change (record s { heap = h }) ok)

pub read_cell : {P : Allowed} → (cell : ℕ) → Quiet P (acts.read_cell cell)
read_cell cell = do
  h ← see_heap
  give (cell_at h cell)

pub write_cell : {P : Allowed} → (cell : ℕ) (v : Value) → Quiet P (acts.write_cell cell v)
write_cell cell v = look_heap (λ h ok. change_heap (set_cell_in h cell v) ok)

pub make_table : {P : Allowed} → Quiet P acts.make_table
make_table = do
  tick table_charge
  look_heap (λ h ok. change_heap (new_table h).0 ok >> give (new_table h).1)

-- one more function that is sound
same_function : (f g : Function) → (◌≡◌ {A = Closed Function} (FunctionClosed f) (FunctionClosed g)) → f ≡ g
same_function f g e = cc

with_function : {P : Allowed} → (closures : List (Closed Function)) (f : Function) → AreSound P closures → IsSound P f → AreSound P (closures ++ FunctionClosed f ∷ [])
with_function {P = P} closures f ok sound = with_closed closures (FunctionClosed f) ok (λ g e. subst (λ (x : Function). IsSound P x) (same_function f g e) sound)

pub make_closure : {P : Allowed} → (f : Function) → IsSound P f → Quiet P (acts.make_closure f)
make_closure f sound = do
  tick closure_charge
  look_heap (λ h ok. change_heap (new_closure h (FunctionClosed f)).0 (with_function h.closures f ok sound) >> give (Closure (new_closure h (FunctionClosed f)).1))

pub make_cell : {P : Allowed} → (v : Value) → Quiet P (acts.make_cell v)
make_cell v = look_heap (λ h ok. change_heap (new_cell h v).0 ok >> give (new_cell h v).1)

-- variables of these names more
pub declare : {P : Allowed} → (names : List Bytes) (vs : List Value) (scope : Scope) → Gives P (IsScope scope.source (with_names names (names_of scope.names))) (acts.declare names vs scope)
declare [] vs scope = gives scope (same_scope scope)
declare (name ∷ names) vs scope = behind (make_cell (first vs)) (λ cell. declare names (rest vs) (with_name name cell scope))

-- ERRORS
pub raise_text : {P : Allowed} → {X : Type 0} → (place : Option Place) (text : Bytes) → Quiet P {X = X} (messages.raise_text place text)
raise_text None text = raise (Text text)
raise_text (Some p) text = tick (length (place_text p ++ text)) >> raise (Text (place_text p ++ text))

pub raise_at : {P : Allowed} → {X : Type 0} → (place : Option Place) (v : Value) → Quiet P {X = X} (messages.raise_at place v)
raise_at p (Text t) = raise_text p t
raise_at p v = raise v

pub fail : {P : Allowed} → {X : Type 0} → (ls : Levels) (text : Bytes) → Quiet P {X = X} (messages.fail ls text)
fail ls text = raise_text (nth_level ls 1) text

raise_quote : {P : Allowed} → {X : Type 0} → (place : Option Place) (text : Bytes) → Quiet P {X = X} (messages.raise_quote place text)
raise_quote None text = tick (length text) >> raise (Text text)
raise_quote (Some p) text = raise_text (Some p) text

pub fail_quoting : {P : Allowed} → {X : Type 0} → (ls : Levels) (text : Bytes) → Quiet P {X = X} (messages.fail_quoting ls text)
fail_quoting ls text = raise_quote (nth_level ls 1) text
