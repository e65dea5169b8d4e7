-- Operators on values.
use Rattle.std.specs.Prelude.{ℤ, pos, codes, Bool, true, not, [], ◌∷◌, Option, Some, None, Result, Ok, Err}
use Rattle.lua_meaning.specs.LuaNumberDeclaredArithmeticNumberFault.{NumberFault}
use Rattle.lua_walk.specs.LuaHeapValue.{Value, Truth, Number, Text, Table, same, is_true}
use Rattle.lua_meaning.specs.LuaHeapTable.{border}
use Rattle.lua_walk.specs.LuaHeapHeap.{table_at}
use Rattle.lua_meaning.specs.Scope.{Bytes, Levels}
use Rattle.lua_meaning.specs.Values.{number_in, text_in}
use Rattle.lua_meaning.specs.Acts.{Act}
use Rattle.lua_meaning.specs.Metatables.{either_handler, common_handler}
use Rattle.lua_meaning.specs.Operators as operators
use Rattle.lua_meaning.specs.Operators.{Arithmetic, Operator, Less, Greater, AtMost, AtLeast, Equal, Unequal, Concatenate, Calculate}
use Rattle.lua_lint_laws.proofs.Told.{Allowed, Quiet, ◌>>=◌, ◌>>◌, give, tick, choose}
use Rattle.lua_lint_laws.proofs.Heaps.{one, see_heap, fail}
use Rattle.lua_lint_laws.proofs.Calls.{call}

number_or_fail : {P : Allowed} → (ls : Levels) (r : Result ℤ NumberFault) → Quiet P (operators.number_or_fail ls r)
number_or_fail ls (Ok n) = give _
number_or_fail ls (Err e) = fail ls _

by_handler : {P : Allowed} → (h a b : Value) (ls : Levels) (message : Bytes) → Quiet P (operators.by_handler h a b ls message)
by_handler h a b ls message = choose _ (fail ls _) (one (call h _ ls))

by_either : {P : Allowed} → (a b : Value) (event : Bytes) (ls : Levels) (message : Bytes) → Quiet P (operators.by_either a b event ls message)
by_either a b event ls message = do
  h ← see_heap
  by_handler (either_handler h a b event) a b ls message

calculate : {P : Allowed} → (o : Arithmetic) (a b : Value) (x y : Option ℤ) (ls : Levels) → Quiet P (operators.calculate o a b x y ls)
calculate o a b (Some x) (Some y) ls = number_or_fail ls _
calculate o a b (Some x) None ls = by_either a b _ ls _
calculate o a b None y ls = by_either a b _ ls _

arithmetic : {P : Allowed} → (o : Arithmetic) (a b : Value) (ls : Levels) → Quiet P (operators.arithmetic o a b ls)
arithmetic o a b ls = calculate o a b (number_in a) (number_in b) ls

negate : {P : Allowed} → (a : Value) (x : Option ℤ) (ls : Levels) → Quiet P (operators.negate a x ls)
negate a (Some x) ls = number_or_fail ls _
negate a None ls = by_either a a _ ls _

pub minus : {P : Allowed} → (a : Value) (ls : Levels) → Quiet P (operators.minus a ls)
minus a ls = negate a (number_in a) ls

join_texts : {P : Allowed} → (a b : Value) (x y : Option Bytes) (ls : Levels) → Quiet P (operators.join_texts a b x y ls)
join_texts a b (Some x) (Some y) ls = tick _ >> give _
join_texts a b (Some x) None ls = by_either a b _ ls _
join_texts a b None y ls = by_either a b _ ls _

concatenate : {P : Allowed} → (a b : Value) (ls : Levels) → Quiet P (operators.concatenate a b ls)
concatenate a b ls = join_texts a b (text_in a) (text_in b) ls

pub length_of : {P : Allowed} → (v : Value) (ls : Levels) → Quiet P (operators.length_of v ls)
length_of (Text t) ls = give _
length_of (Table t) ls = do
  h ← see_heap
  give (Number (pos (border (table_at h t).entries)))
length_of v ls = fail ls _

truth_by : {P : Allowed} → (h a b : Value) (ls : Levels) → Quiet P (operators.truth_by h a b ls)
truth_by h a b ls = choose _ (give _) (do
  v ← one (call h (a ∷ b ∷ []) ls)
  give (is_true v))

equals : {P : Allowed} → (a b : Value) (ls : Levels) → Quiet P (operators.equals a b ls)
equals a b ls = do
  h ← see_heap
  choose (same a b) (give true) (truth_by (common_handler h a b (codes "__eq")) a b ls)

order_texts : {P : Allowed} → (a b : Bytes) (answer : Bool) → Quiet P (operators.order_texts a b answer)
order_texts a b answer = tick _ >> give answer

less_by : {P : Allowed} → (h a b : Value) (ls : Levels) → Quiet P (operators.less_by h a b ls)
less_by h a b ls = choose _ (fail ls _) (truth_by h a b ls)

less : {P : Allowed} → (a b : Value) (ls : Levels) → Quiet P (operators.less a b ls)
less (Number a) (Number b) ls = give _
less (Text a) (Text b) ls = order_texts a b _
less a b ls = do
  h ← see_heap
  less_by (common_handler h a b (codes "__lt")) a b ls

not_less_by : {P : Allowed} → (h a b : Value) (ls : Levels) → Quiet P (operators.not_less_by h a b ls)
not_less_by h a b ls = choose _ (fail ls _) (do
  t ← truth_by h b a ls
  give (not t))

at_most_by : {P : Allowed} → (le lt a b : Value) (ls : Levels) → Quiet P (operators.at_most_by le lt a b ls)
at_most_by le lt a b ls = choose _ (not_less_by lt a b ls) (truth_by le a b ls)

at_most : {P : Allowed} → (a b : Value) (ls : Levels) → Quiet P (operators.at_most a b ls)
at_most (Number a) (Number b) ls = give _
at_most (Text a) (Text b) ls = order_texts a b _
at_most a b ls = do
  h ← see_heap
  at_most_by (common_handler h a b (codes "__le")) (common_handler h a b (codes "__lt")) a b ls

truth : {P : Allowed} → {part : Act Bool} → Quiet P part → Quiet P (operators.truth part)
truth q = do
  b ← q
  give (Truth b)

falsehood : {P : Allowed} → {part : Act Bool} → Quiet P part → Quiet P (operators.falsehood part)
falsehood q = do
  b ← q
  give (Truth (not b))

pub operate : {P : Allowed} → (o : Operator) (a b : Value) (ls : Levels) → Quiet P (operators.operate o a b ls)
operate Less a b ls = truth (less a b ls)
operate Greater a b ls = truth (less b a ls)
operate AtMost a b ls = truth (at_most a b ls)
operate AtLeast a b ls = truth (at_most b a ls)
operate Equal a b ls = truth (equals a b ls)
operate Unequal a b ls = falsehood (equals a b ls)
operate Concatenate a b ls = concatenate a b ls
operate (Calculate which) a b ls = arithmetic which a b ls
