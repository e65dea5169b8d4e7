-- LOOPS (manual 2.4.4 and 2.4.5). A turn is a thing that begins once its test is passed; it has fresh local variables.
use Rattle.std.specs.Prelude.{ℕ, ℤ, pos, ◌+ℤ◌, Bool, List, [], ◌∷◌, Option, Some, None, if◌then◌else◌, int_lt, int_le}
use Rattle.page_run.specs.Outcome.{Outcome, Goes, Jumps, ◌>>=◌, ◌>>◌, give, jump, catch, count, begin}
use Rattle.lua_format.specs.LuaNumberWhole.{fits}
use Rattle.lua_walk.specs.LuaHeapValue.{Value, Number, is_true, is_nil}
use Rattle.lua_meaning.specs.Scope.{Bytes, Scope, Levels, levels}
use Rattle.lua_meaning.specs.Values.{first, second, third, number_in}
use Rattle.lua_meaning.specs.Acts.{Act, Jump, Broke, WhileTurn, RepeatTurn, CountTurn, EachTurn, node, choose, declare}
use Rattle.lua_meaning.specs.Messages.{fail, no_initial_value, no_limit, no_step}
use Rattle.lua_meaning.specs.Calls.{call}
use Rattle.lua_meaning.specs.Expressions.{value, values}
use Rattle.lua_meaning.specs.Parts.{Expression, Statement, ExpPart, BlockPart}

-- what follows a turn's body: the next turn, nothing after a `break`, and any other jump goes on
abbrev pub then_next : {X : Type 0} → Act (List Value) → Outcome X Jump → Act (List Value)
then_next next (Goes x) = next
then_next next (Jumps Broke) = give []
then_next next (Jumps j) = jump j

-- `while`
abbrev pub while_from : ExpPart → BlockPart → Scope → Act (List Value)
while_from test body scope = do
  v ← value test.meaning scope
  choose (is_true v) (begin (WhileTurn test.tree body.tree scope)) (give [])

abbrev pub while_loop : ExpPart → BlockPart → Statement
while_loop test body scope = do
  node
  while_from test body scope
  give scope

abbrev pub while_turn : ExpPart → BlockPart → Scope → Act (List Value)
while_turn test body scope = do
  count
  catch (body.meaning scope) (then_next (while_from test body scope))

-- `repeat`, whose test sees the local variables of the body
abbrev pub repeat_from : BlockPart → ExpPart → Scope → Act (List Value)
repeat_from body test scope = begin (RepeatTurn body.tree test.tree scope)

abbrev pub repeat_loop : BlockPart → ExpPart → Statement
repeat_loop body test scope = do
  node
  repeat_from body test scope
  give scope

abbrev pub body_and_test : BlockPart → ExpPart → Scope → Act Value
body_and_test body test scope = do
  inner ← body.meaning scope
  value test.meaning inner

abbrev pub until : Act (List Value) → Outcome Value Jump → Act (List Value)
until next (Goes v) = choose (is_true v) (give []) next
until next (Jumps Broke) = give []
until next (Jumps j) = jump j

abbrev pub repeat_turn : BlockPart → ExpPart → Scope → Act (List Value)
repeat_turn body test scope = do
  count
  catch (body_and_test body test scope) (until (repeat_from body test scope))

-- counting `for` (2.4.5). A step of 0 counts as a negative one. Where the next index is out of range, the loop ends.
abbrev pub for_number : Levels → Bytes → Option ℤ → Act ℤ
for_number ls message (Some n) = give n
for_number ls message None = fail ls message

abbrev pub is_within : ℤ → ℤ → ℤ → Bool
is_within index limit step = if int_lt (pos 0) step then int_le index limit else int_le limit index

abbrev pub count_from : Bytes → ℤ → ℤ → ℤ → BlockPart → Scope → Act (List Value)
count_from name index limit step body scope =
    choose (is_within index limit step) (begin (CountTurn name index limit step body.tree scope)) (give [])

abbrev pub count_next : Bytes → ℤ → ℤ → ℤ → BlockPart → Scope → Act (List Value)
count_next name index limit step body scope =
    choose (fits (index +ℤ step)) (count_from name (index +ℤ step) limit step body scope) (give [])

abbrev pub step_value : Option Expression → Scope → Act Value
step_value None scope = give (Number (pos 1))
step_value (Some e) scope = value e scope

abbrev pub counting_loop : Bytes → Expression → Expression → Option Expression → BlockPart → ℕ → Statement
counting_loop name from to by body line scope = do
  node
  a ← value from scope
  b ← value to scope
  c ← step_value by scope
  index ← for_number (levels scope line) no_initial_value (number_in a)
  limit ← for_number (levels scope line) no_limit (number_in b)
  step ← for_number (levels scope line) no_step (number_in c)
  count_from name index limit step body scope
  give scope

abbrev pub count_turn : Bytes → ℤ → ℤ → ℤ → BlockPart → Scope → Act (List Value)
count_turn name index limit step body scope = do
  count
  inner ← declare (name ∷ []) (Number index ∷ []) scope
  catch (body.meaning inner) (then_next (count_next name index limit step body scope))

-- generic `for` (2.4.5): the iterator is called with the state and the value before, until its first result is nil
abbrev pub each_from : List Bytes → Value → Value → Value → BlockPart → ℕ → Scope → Act (List Value)
each_from names f state before body line scope = do
  vs ← call f (state ∷ before ∷ []) (levels scope line)
  choose (is_nil (first vs)) (give []) (begin (EachTurn names f state vs body.tree line scope))

abbrev pub generic_loop : List Bytes → List Expression → BlockPart → ℕ → Statement
generic_loop names right body line scope = do
  node
  vs ← values right scope []
  each_from names (first vs) (second vs) (third vs) body line scope
  give scope

abbrev pub each_turn : List Bytes → Value → Value → List Value → BlockPart → ℕ → Scope → Act (List Value)
each_turn names f state results body line scope = do
  count
  inner ← declare names results scope
  catch (body.meaning inner) (then_next (each_from names f state (first results) body line scope))
