-- Loops and their turns.
use Rattle.std.specs.Prelude.{ℕ, ℤ, List, [], ◌∷◌, Option, Some, None}
use Rattle.lua_meaning.specs.PageRunOutcome.{Outcome, Goes, Jumps}
use Rattle.lua_meaning.specs.LuaHeapValue.{Value, Number, is_true, is_nil}
use Rattle.lua_meaning.specs.Scope.{Bytes, Scope, Levels, levels}
use Rattle.lua_meaning.specs.Values.{first, second, third, number_in}
use Rattle.lua_meaning.specs.Messages.{no_initial_value, no_limit, no_step}
use Rattle.lua_meaning.specs.Acts.{Act, Jump, Broke, WhileTurn, EachTurn}
use Rattle.lua_meaning.specs.Parts.{Expression, ExpPart, BlockPart}
use Rattle.lua_meaning.specs.Loops as loops
use Rattle.lua_meaning_laws.proofs.OnlyData.{Quiet, Everywhere, Each, ◌>>=◌, ◌>>◌, give, jump, catch, count, begin, choose}
use Rattle.lua_meaning_laws.proofs.Heaps.{node, declare, fail}
use Rattle.lua_meaning_laws.proofs.Calls.{call}
use Rattle.lua_meaning_laws.proofs.Expressions.{value, values}

then_next : {X : Type 0} {next : Act (List Value)} → Quiet next → (o : Outcome X Jump) → Quiet (loops.then_next next o)
then_next next (Goes x) = next
then_next next (Jumps Broke) = give _
then_next next (Jumps j) = jump j

-- `while`
while_from : (test : ExpPart) (body : BlockPart) → Everywhere test.meaning → (scope : Scope) → Quiet (loops.while_from test body scope)
while_from test body q scope = do
  v ← value q scope
  choose (is_true v) (begin (WhileTurn test.tree body.tree scope)) (give [])

pub while_loop : (test : ExpPart) (body : BlockPart) → Everywhere test.meaning → (scope : Scope) → Quiet (loops.while_loop test body scope)
while_loop test body q scope = do
  node
  while_from test body q scope
  give scope

pub while_turn : (test : ExpPart) (body : BlockPart) → Everywhere test.meaning → Everywhere body.meaning → (scope : Scope) → Quiet (loops.while_turn test body scope)
while_turn test body q r scope = do
  count
  catch (r.at scope) (then_next (while_from test body q scope))

-- `repeat`
repeat_from : (body : BlockPart) (test : ExpPart) (scope : Scope) → Quiet (loops.repeat_from body test scope)
repeat_from body test scope = begin _

pub repeat_loop : (body : BlockPart) (test : ExpPart) (scope : Scope) → Quiet (loops.repeat_loop body test scope)
repeat_loop body test scope = do
  node
  repeat_from body test scope
  give scope

body_and_test : (body : BlockPart) (test : ExpPart) → Everywhere body.meaning → Everywhere test.meaning → (scope : Scope) → Quiet (loops.body_and_test body test scope)
body_and_test body test q r scope = do
  inner ← q.at scope
  value r inner

until : {next : Act (List Value)} → Quiet next → (o : Outcome Value Jump) → Quiet (loops.until next o)
until next (Goes v) = choose _ (give _) next
until next (Jumps Broke) = give _
until next (Jumps j) = jump j

pub repeat_turn : (body : BlockPart) (test : ExpPart) → Everywhere body.meaning → Everywhere test.meaning → (scope : Scope) → Quiet (loops.repeat_turn body test scope)
repeat_turn body test q r scope = do
  count
  catch (body_and_test body test q r scope) (until (repeat_from body test scope))

-- counting `for`
for_number : (ls : Levels) (message : Bytes) (n : Option ℤ) → Quiet (loops.for_number ls message n)
for_number ls message (Some n) = give n
for_number ls message None = fail ls message

count_from : (name : Bytes) (index limit step : ℤ) (body : BlockPart) (scope : Scope) → Quiet (loops.count_from name index limit step body scope)
count_from name index limit step body scope = choose _ (begin _) (give _)

count_next : (name : Bytes) (index limit step : ℤ) (body : BlockPart) (scope : Scope) → Quiet (loops.count_next name index limit step body scope)
count_next name index limit step body scope = choose _ (count_from name _ limit step body scope) (give _)

-- a step, if there is one
abbrev pub IfStep : Option Expression → Type 0
IfStep None = Unit {0}
IfStep (Some e) = Everywhere e

step_value : (by : Option Expression) → IfStep by → (scope : Scope) → Quiet (loops.step_value by scope)
step_value None q scope = give _
step_value (Some e) q scope = value q scope

pub counting_loop : {from to : Expression} (name : Bytes) (by : Option Expression) (body : BlockPart) → Everywhere from → Everywhere to → IfStep by → (line : ℕ) (scope : Scope) → Quiet (loops.counting_loop name from to by body line scope)
counting_loop name by body from to step line scope = do
  node
  a ← value from scope
  b ← value to scope
  c ← step_value by step scope
  start ← for_number (levels scope line) no_initial_value (number_in a)
  limit ← for_number (levels scope line) no_limit (number_in b)
  pace ← for_number (levels scope line) no_step (number_in c)
  count_from name start limit pace body scope
  give scope

pub count_turn : (name : Bytes) (index limit step : ℤ) (body : BlockPart) → Everywhere body.meaning → (scope : Scope) → Quiet (loops.count_turn name index limit step body scope)
count_turn name index limit step body q scope = do
  count
  inner ← declare (name ∷ []) (Number index ∷ []) scope
  catch (q.at inner) (then_next (count_next name index limit step body scope))

-- generic `for`
each_from : (names : List Bytes) (f state before : Value) (body : BlockPart) (line : ℕ) (scope : Scope) → Quiet (loops.each_from names f state before body line scope)
each_from names f state before body line scope = do
  vs ← call f (state ∷ before ∷ []) (levels scope line)
  choose (is_nil (first vs)) (give []) (begin (EachTurn names f state vs body.tree line scope))

pub generic_loop : (names : List Bytes) (right : List Expression) (body : BlockPart) → Each right → (line : ℕ) (scope : Scope) → Quiet (loops.generic_loop names right body line scope)
generic_loop names right body es line scope = do
  node
  vs ← values right es scope []
  each_from names (first vs) (second vs) (third vs) body line scope
  give scope

pub each_turn : (names : List Bytes) (f state : Value) (results : List Value) (body : BlockPart) → Everywhere body.meaning → (line : ℕ) (scope : Scope) → Quiet (loops.each_turn names f state results body line scope)
each_turn names f state results body q line scope = do
  count
  inner ← declare names results scope
  catch (q.at inner) (then_next (each_from names f state (first results) body line scope))
