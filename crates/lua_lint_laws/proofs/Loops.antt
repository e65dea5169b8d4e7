-- Loops and their turns. A turn that begins has the parts of its loop, whose names are allowed in its scope.
use Rattle.std.specs.Prelude.{ℕ, ℤ, List, [], ◌∷◌, Option, Some, None}
use Rattle.page_run.specs.Outcome as acts
use Rattle.page_run.specs.Outcome.{Outcome, Goes, Jumps}
use Rattle.lua_walk.specs.LuaHeapValue.{Value, Number, is_true, is_nil}
use Rattle.lua_meaning.specs.Scope.{Bytes, Scope, Levels, levels}
use Rattle.lua_meaning.specs.Values.{first, second, third, number_in}
use Rattle.lua_meaning.specs.Messages.{no_initial_value, no_limit, no_step}
use Rattle.lua_meaning.specs.Acts.{Act, Jump, Broke, WhileTurn, EachTurn}
use Rattle.lua_meaning.specs.Parts.{Expression, ExpPart, BlockPart}
use Rattle.lua_meaning.specs.Loops as loops
use Rattle.lua_uses.specs.Uses.{Names, with_names}
use Rattle.lua_lint_laws.proofs.Told.{Allowed, names_of, IsAllowedExp, IsAllowedBlock, IsAllowedUnder, IsAllowedBehind, Quiet, Gives, Each, IsScope, same_scope, ◌>>=◌, ◌>>◌, behind, behind_line, knowing, gives, give, jump, catch, count, begin, choose}
use Rattle.lua_lint_laws.proofs.Heaps.{node, one, declare, fail}
use Rattle.lua_lint_laws.proofs.Calls.{call}
use Rattle.lua_lint_laws.proofs.Expressions.{values}
use Rattle.lua_lint_laws.proofs.Statements.{Stays}

-- a scope with these names, in which a part is quiet
abbrev pub QuietIn : {X : Type 0} → Allowed → List ℕ → Names → (Scope → Act X) → Type 0
QuietIn P source names part = (scope : Scope) → IsScope source names scope → Quiet P (part scope)

then_next : {P : Allowed} {X : Type 0} {next : Act (List Value)} → Quiet P next → (o : Outcome X Jump) → Quiet P (loops.then_next next o)
then_next next (Goes x) = next
then_next next (Jumps Broke) = give _
then_next next (Jumps j) = jump j

-- a loop, and the scope as it was
whole_loop : {P : Allowed} {turns : Act (List Value)} → (scope : Scope) → Quiet P turns → Gives P (IsScope scope.source (names_of scope.names)) (acts.◌>>◌ turns (acts.give scope))
whole_loop scope turns = behind_line turns (gives scope (same_scope scope))

-- `while`
while_from : {P : Allowed} → (test : ExpPart) (body : BlockPart) (scope : Scope) → IsAllowedExp P test.tree scope → IsAllowedBlock P body.tree scope → Quiet P (test.meaning scope) → Quiet P (loops.while_from test body scope)
while_from test body scope ok fine q = do
  v ← one q
  choose (is_true v) (begin (WhileTurn test.tree body.tree scope) (ok, fine)) (give [])

pub while_loop : {P : Allowed} → (test : ExpPart) (body : BlockPart) (scope : Scope) → IsAllowedExp P test.tree scope → IsAllowedBlock P body.tree scope → Quiet P (test.meaning scope) → Stays P (loops.while_loop test body) scope
while_loop test body scope ok fine q = behind_line node (whole_loop scope (while_from test body scope ok fine q))

pub while_turn : {P : Allowed} → (test : ExpPart) (body : BlockPart) (scope : Scope) → IsAllowedExp P test.tree scope → IsAllowedBlock P body.tree scope → Quiet P (test.meaning scope) → Quiet P (body.meaning scope) → Quiet P (loops.while_turn test body scope)
while_turn test body scope ok fine q r = do
  count
  catch r (then_next (while_from test body scope ok fine q))

-- `repeat`
repeat_from : {P : Allowed} → (body : BlockPart) (test : ExpPart) (scope : Scope) → IsAllowedBlock P body.tree scope → IsAllowedBehind P body.tree test.tree scope → Quiet P (loops.repeat_from body test scope)
repeat_from body test scope ok fine = begin _ (ok, fine)

pub repeat_loop : {P : Allowed} → (body : BlockPart) (test : ExpPart) (scope : Scope) → IsAllowedBlock P body.tree scope → IsAllowedBehind P body.tree test.tree scope → Stays P (loops.repeat_loop body test) scope
repeat_loop body test scope ok fine = behind_line node (whole_loop scope (repeat_from body test scope ok fine))

body_and_test : {P : Allowed} → (body : BlockPart) (test : ExpPart) (scope : Scope) {R : Scope → Type 0} → Gives P R (body.meaning scope) → ((inner : Scope) → R inner → Quiet P (test.meaning inner)) → Quiet P (loops.body_and_test body test scope)
body_and_test body test scope q r = knowing q (λ inner is. one (r inner is))

until : {P : Allowed} {next : Act (List Value)} → Quiet P next → (o : Outcome Value Jump) → Quiet P (loops.until next o)
until next (Goes v) = choose _ (give _) next
until next (Jumps Broke) = give _
until next (Jumps j) = jump j

pub repeat_turn : {P : Allowed} → (body : BlockPart) (test : ExpPart) (scope : Scope) {R : Scope → Type 0} → IsAllowedBlock P body.tree scope → IsAllowedBehind P body.tree test.tree scope → Gives P R (body.meaning scope) → ((inner : Scope) → R inner → Quiet P (test.meaning inner)) → Quiet P (loops.repeat_turn body test scope)
repeat_turn body test scope ok fine q r = do
  count
  catch (body_and_test body test scope q r) (until (repeat_from body test scope ok fine))

-- counting `for`
for_number : {P : Allowed} → (ls : Levels) (message : Bytes) (n : Option ℤ) → Quiet P (loops.for_number ls message n)
for_number ls message (Some n) = give n
for_number ls message None = fail ls message

count_from : {P : Allowed} → (name : Bytes) (index limit step : ℤ) (body : BlockPart) (scope : Scope) → IsAllowedUnder P (name ∷ []) body.tree scope → Quiet P (loops.count_from name index limit step body scope)
count_from name index limit step body scope ok = choose _ (begin _ ok) (give _)

count_next : {P : Allowed} → (name : Bytes) (index limit step : ℤ) (body : BlockPart) (scope : Scope) → IsAllowedUnder P (name ∷ []) body.tree scope → Quiet P (loops.count_next name index limit step body scope)
count_next name index limit step body scope ok = choose _ (count_from name _ limit step body scope ok) (give _)

-- a step, if there is one
abbrev pub IfStep : Allowed → Scope → Option Expression → Type 0
IfStep P scope None = Unit {0}
IfStep P scope (Some e) = Quiet P (e scope)

step_value : {P : Allowed} → (by : Option Expression) (scope : Scope) → IfStep P scope by → Quiet P (loops.step_value by scope)
step_value None scope q = give _
step_value (Some e) scope q = one q

pub counting_loop : {P : Allowed} → (name : Bytes) (from to : Expression) (by : Option Expression) (body : BlockPart) (line : ℕ) (scope : Scope) → IsAllowedUnder P (name ∷ []) body.tree scope → Quiet P (from scope) → Quiet P (to scope) → IfStep P scope by → Stays P (loops.counting_loop name from to by body line) scope
counting_loop name from to by body line scope ok q r step =
    behind_line node
    (behind (one q) (λ a.
    behind (one r) (λ b.
    behind (step_value by scope step) (λ c.
    behind (for_number (levels scope line) no_initial_value (number_in a)) (λ index.
    behind (for_number (levels scope line) no_limit (number_in b)) (λ limit.
    behind (for_number (levels scope line) no_step (number_in c)) (λ pace.
    whole_loop scope (count_from name index limit pace body scope ok))))))))

pub count_turn : {P : Allowed} → (name : Bytes) (index limit step : ℤ) (body : BlockPart) (scope : Scope) → IsAllowedUnder P (name ∷ []) body.tree scope → QuietIn P scope.source (name ∷ names_of scope.names) body.meaning → Quiet P (loops.count_turn name index limit step body scope)
count_turn name index limit step body scope ok q = do
  count
  knowing (declare (name ∷ []) (Number index ∷ []) scope) (λ inner is. catch (q inner is) (then_next (count_next name index limit step body scope ok)))

-- generic `for`
each_from : {P : Allowed} → (names : List Bytes) (f state before : Value) (body : BlockPart) (line : ℕ) (scope : Scope) → IsAllowedUnder P names body.tree scope → Quiet P (loops.each_from names f state before body line scope)
each_from names f state before body line scope ok = do
  vs ← call f (state ∷ before ∷ []) (levels scope line)
  choose (is_nil (first vs)) (give []) (begin (EachTurn names f state vs body.tree line scope) ok)

pub generic_loop : {P : Allowed} → (names : List Bytes) (right : List Expression) (body : BlockPart) (line : ℕ) (scope : Scope) → IsAllowedUnder P names body.tree scope → Each P scope right → Stays P (loops.generic_loop names right body line) scope
generic_loop names right body line scope ok es =
    behind_line node
    (behind (values right scope es []) (λ vs.
    whole_loop scope (each_from names (first vs) (second vs) (third vs) body line scope ok)))

pub each_turn : {P : Allowed} → (names : List Bytes) (f state : Value) (results : List Value) (body : BlockPart) (line : ℕ) (scope : Scope) → IsAllowedUnder P names body.tree scope → QuietIn P scope.source (with_names names (names_of scope.names)) body.meaning → Quiet P (loops.each_turn names f state results body line scope)
each_turn names f state results body line scope ok q = do
  count
  knowing (declare names results scope) (λ inner is. catch (q inner is) (then_next (each_from names f state (first results) body line scope ok)))
