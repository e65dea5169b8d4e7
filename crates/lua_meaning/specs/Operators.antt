-- OPERATORS ON VALUES (manual 2.5.1 to 2.5.5, and 2.8), with the levels of the operator's node.
use Rattle.std.specs.Prelude.{min, ℤ, pos, Bool, true, false, not, [], ◌∷◌, ◌++◌, length, Option, Some, None, Result, Ok, Err, if◌then◌else◌, int_lt, int_le, nat_lt, ◌==◌, codes}
use Rattle.page_run.specs.Outcome.{◌>>=◌, ◌>>◌, give, tick}
use Rattle.lua_format.specs.LuaNumberDeclaredArithmeticNumberFault.{NumberFault}
use Rattle.lua_format.specs.LuaNumberWhole.{sum_of, difference_of, product_of, quotient_of, remainder_of, power_of, negative_of}
use Rattle.lua_walk.specs.LuaHeapValue.{Value, Truth, Number, Text, Table, same, is_true, is_nil}
use Rattle.mw_html.specs.LuaHeapTable.{border}
use Rattle.lua_walk.specs.LuaHeapHeap.{table_at}
use Rattle.lua_meaning.specs.Scope.{Bytes, Levels}
use Rattle.lua_meaning.specs.Values.{number_in, text_in}
use Rattle.lua_meaning.specs.Acts.{Act, choose, one, see_heap}
use Rattle.lua_meaning.specs.Messages.{fail, number_fault, cannot_calculate, cannot_concatenate, cannot_compare, no_length}
use Rattle.lua_meaning.specs.Metatables.{either_handler, common_handler}
use Rattle.lua_meaning.specs.Calls.{call}

-- THE OPERATORS of arithmetic, and those with two operands that are both evaluated
pub data Arithmetic : Type 0 where
  Add Sub Mul Div Mod Pow : Arithmetic

pub data Operator : Type 0 where
  Less Greater AtMost AtLeast Equal Unequal Concatenate : Operator
  Calculate : (which : Arithmetic) → Operator

-- ARITHMETIC (2.5.1). A result that is no whole number in range is an error.
abbrev pub result_of : Arithmetic → ℤ → ℤ → Result ℤ NumberFault
result_of Add a b = sum_of a b
result_of Sub a b = difference_of a b
result_of Mul a b = product_of a b
result_of Div a b = quotient_of a b
result_of Mod a b = remainder_of a b
result_of Pow a b = power_of a b

abbrev pub event : Arithmetic → Bytes
event Add = codes "__add"
event Sub = codes "__sub"
event Mul = codes "__mul"
event Div = codes "__div"
event Mod = codes "__mod"
event Pow = codes "__pow"

abbrev pub number_or_fail : Levels → Result ℤ NumberFault → Act Value
number_or_fail ls (Ok n) = give (Number n)
number_or_fail ls (Err e) = fail ls (number_fault e)

-- a handler's first value, or an error that names the operand that does not fit
abbrev pub by_handler : Value → Value → Value → Levels → Bytes → Act Value
by_handler h a b ls message = choose (is_nil h) (fail ls message) (one (call h (a ∷ b ∷ []) ls))

abbrev pub by_either : Value → Value → Bytes → Levels → Bytes → Act Value
by_either a b event ls message = do
  h ← see_heap
  by_handler (either_handler h a b event) a b ls message

abbrev pub calculate : Arithmetic → Value → Value → Option ℤ → Option ℤ → Levels → Act Value
calculate o a b (Some x) (Some y) ls = number_or_fail ls (result_of o x y)
calculate o a b (Some x) None ls = by_either a b (event o) ls (cannot_calculate b)
calculate o a b None y ls = by_either a b (event o) ls (cannot_calculate a)

abbrev pub arithmetic : Arithmetic → Value → Value → Levels → Act Value
arithmetic o a b ls = calculate o a b (number_in a) (number_in b) ls

abbrev pub negate : Value → Option ℤ → Levels → Act Value
negate a (Some x) ls = number_or_fail ls (negative_of x)
negate a None ls = by_either a a (codes "__unm") ls (cannot_calculate a)

abbrev pub minus : Value → Levels → Act Value
minus a ls = negate a (number_in a) ls

-- CONCATENATION (2.5.4). A text that it makes costs as many steps as it has bytes; what a handler gives in its place costs nothing
-- beyond the call.
abbrev pub join_texts : Value → Value → Option Bytes → Option Bytes → Levels → Act Value
join_texts a b (Some x) (Some y) ls = tick (length (x ++ y)) >> give (Text (x ++ y))
join_texts a b (Some x) None ls = by_either a b (codes "__concat") ls (cannot_concatenate b)
join_texts a b None y ls = by_either a b (codes "__concat") ls (cannot_concatenate a)

abbrev pub concatenate : Value → Value → Levels → Act Value
concatenate a b ls = join_texts a b (text_in a) (text_in b) ls

-- LENGTH (2.5.5)
abbrev pub length_of : Value → Levels → Act Value
length_of (Text t) ls = give (Number (pos (length t)))
length_of (Table t) ls = do
  h ← see_heap
  give (Number (pos (border (table_at h t).entries)))
length_of v ls = fail ls (no_length v)

-- COMPARISON (2.5.2). Equality converts nothing; two different tables may have a handler in common.
abbrev pub truth_by : Value → Value → Value → Levels → Act Bool
truth_by h a b ls = choose (is_nil h) (give false) (do
  v ← one (call h (a ∷ b ∷ []) ls)
  give (is_true v))

abbrev pub equals : Value → Value → Levels → Act Bool
equals a b ls = do
  h ← see_heap
  choose (same a b) (give true) (truth_by (common_handler h a b (codes "__eq")) a b ls)

-- Texts are compared byte by byte; their order costs as many steps as the shorter one has bytes.
abbrev pub text_less : Bytes → Bytes → Bool
text_less xs [] = false
text_less [] (y ∷ ys) = true
text_less (x ∷ xs) (y ∷ ys) = if x == y then text_less xs ys else nat_lt x y

abbrev pub order_texts : Bytes → Bytes → Bool → Act Bool
order_texts a b answer = tick (min (length a) (length b)) >> give answer

abbrev pub less_by : Value → Value → Value → Levels → Act Bool
less_by h a b ls = choose (is_nil h) (fail ls (cannot_compare a b)) (truth_by h a b ls)

abbrev pub less : Value → Value → Levels → Act Bool
less (Number a) (Number b) ls = give (int_lt a b)
less (Text a) (Text b) ls = order_texts a b (text_less a b)
less a b ls = do
  h ← see_heap
  less_by (common_handler h a b (codes "__lt")) a b ls

-- `a <= b` falls back on `not (b < a)`
abbrev pub not_less_by : Value → Value → Value → Levels → Act Bool
not_less_by h a b ls = choose (is_nil h) (fail ls (cannot_compare a b)) (do
  t ← truth_by h b a ls
  give (not t))

abbrev pub at_most_by : Value → Value → Value → Value → Levels → Act Bool
at_most_by le lt a b ls = choose (is_nil le) (not_less_by lt a b ls) (truth_by le a b ls)

abbrev pub at_most : Value → Value → Levels → Act Bool
at_most (Number a) (Number b) ls = give (int_le a b)
at_most (Text a) (Text b) ls = order_texts a b (not (text_less b a))
at_most a b ls = do
  h ← see_heap
  at_most_by (common_handler h a b (codes "__le")) (common_handler h a b (codes "__lt")) a b ls

-- WHAT AN OPERATOR GIVES; `a > b` is `b < a`, and `a ~= b` is `not (a == b)`
abbrev pub truth : Act Bool → Act Value
truth part = do
  b ← part
  give (Truth b)

abbrev pub falsehood : Act Bool → Act Value
falsehood part = do
  b ← part
  give (Truth (not b))

abbrev pub operate : Operator → Value → Value → Levels → Act Value
operate Less a b ls = truth (less a b ls)
operate Greater a b ls = truth (less b a ls)
operate AtMost a b ls = truth (at_most a b ls)
operate AtLeast a b ls = truth (at_most b a ls)
operate Equal a b ls = truth (equals a b ls)
operate Unequal a b ls = falsehood (equals a b ls)
operate Concatenate a b ls = concatenate a b ls
operate (Calculate which) a b ls = arithmetic which a b ls
