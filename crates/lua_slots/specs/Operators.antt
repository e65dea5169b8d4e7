-- OPERATORS ON VALUES (manual 2.5.1 to 2.5.5, and 2.8).
use Rattle.std.specs.Prelude.{ℕ, min, ℤ, pos, Bool, true, false, not, List, [], ◌∷◌, ◌++◌, length, Option, Some, None, Result, Ok, Err, int_lt, int_le, codes}
use Rattle.lua_meaning.specs.LuaSyntaxDeclaredUnaryOp.{UnaryOp}
use Rattle.lua_meaning.specs.LuaSyntaxDeclaredUnaryOpTheVariants as sign
use Rattle.lua_meaning.specs.LuaNumberDeclaredArithmeticNumberFault.{NumberFault}
use Rattle.lua_meaning.specs.LuaNumberWhole.{negative_of}
use Rattle.lua_meaning.specs.LuaHeapValue.{Value, Truth, Number, Text, Table, same, is_true, is_nil}
use Rattle.lua_meaning.specs.LuaHeapTable.{border}
use Rattle.lua_meaning.specs.LuaHeapHeap.{table_at}
use Rattle.lua_meaning.specs.Scope.{Bytes}
use Rattle.lua_meaning.specs.Values.{number_in, text_in}
use Rattle.lua_meaning.specs.Messages.{number_fault, cannot_calculate, cannot_concatenate, cannot_compare, no_length}
use Rattle.lua_meaning.specs.Metatables.{either_handler, common_handler}
use Rattle.lua_meaning.specs.Operators.{Arithmetic, Operator, Less, Greater, AtMost, AtLeast, Equal, Unequal, Concatenate, Calculate, result_of, event, text_less}
use Rattle.lua_slots.specs.Slots.{Slots}
use Rattle.lua_slots.specs.Points.{SFrame, First, Verdict, Move, Costs}
use Rattle.lua_slots.specs.Errors.{choose, gives, fails}
use Rattle.lua_slots.specs.Calls.{call}

-- ARITHMETIC (2.5.1), or a handler's first value
abbrev pub number_or_fail : Option ℕ → Result ℤ NumberFault → List SFrame → Slots → Move
number_or_fail line (Ok n) fs s = gives (Number n ∷ []) fs s
number_or_fail line (Err e) fs s = fails line (number_fault e) fs s

abbrev pub by_handler : Value → Value → Value → Option ℕ → Bytes → List SFrame → Slots → Move
by_handler h a b line message fs s = choose (is_nil h) (fails line message fs s) (call h (a ∷ b ∷ []) line (First ∷ fs) s)

abbrev pub by_either : Value → Value → Bytes → Option ℕ → Bytes → List SFrame → Slots → Move
by_either a b name line message fs s = by_handler (either_handler s.heap a b name) a b line message fs s

abbrev pub calculate : Arithmetic → Value → Value → Option ℤ → Option ℤ → Option ℕ → List SFrame → Slots → Move
calculate o a b (Some x) (Some y) line fs s = number_or_fail line (result_of o x y) fs s
calculate o a b (Some x) None line fs s = by_either a b (event o) line (cannot_calculate b) fs s
calculate o a b None y line fs s = by_either a b (event o) line (cannot_calculate a) fs s

abbrev pub negate : Value → Option ℤ → Option ℕ → List SFrame → Slots → Move
negate a (Some x) line fs s = number_or_fail line (negative_of x) fs s
negate a None line fs s = by_either a a (codes "__unm") line (cannot_calculate a) fs s

-- CONCATENATION (2.5.4): a text that is made costs its bytes
abbrev pub join_texts : Value → Value → Option Bytes → Option Bytes → Option ℕ → List SFrame → Slots → Move
join_texts a b (Some x) (Some y) line fs s = Costs (length (x ++ y)) (gives (Text (x ++ y) ∷ []) fs s)
join_texts a b (Some x) None line fs s = by_either a b (codes "__concat") line (cannot_concatenate b) fs s
join_texts a b None y line fs s = by_either a b (codes "__concat") line (cannot_concatenate a) fs s

-- LENGTH (2.5.5)
abbrev pub length_of : Value → Option ℕ → List SFrame → Slots → Move
length_of (Text t) line fs s = gives (Number (pos (length t)) ∷ []) fs s
length_of (Table t) line fs s = gives (Number (pos (border (table_at s.heap t).entries)) ∷ []) fs s
length_of v line fs s = fails line (no_length v) fs s

-- COMPARISON (2.5.2): a truth, or its negation
abbrev pub negated_if : Bool → Bool → Bool
negated_if true b = not b
negated_if false b = b

abbrev pub answers : Bool → Bool → List SFrame → Slots → Move
answers negated b fs s = gives (Truth (negated_if negated b) ∷ []) fs s

abbrev pub truth_by : Bool → Value → Value → Value → Option ℕ → List SFrame → Slots → Move
truth_by negated h a b line fs s = choose (is_nil h) (answers negated false fs s) (call h (a ∷ b ∷ []) line (Verdict negated ∷ fs) s)

abbrev pub equals : Bool → Value → Value → Option ℕ → List SFrame → Slots → Move
equals negated a b line fs s = choose (same a b) (answers negated true fs s) (truth_by negated (common_handler s.heap a b (codes "__eq")) a b line fs s)

-- texts are compared byte by byte, at as many steps as the shorter one has bytes
abbrev pub order_texts : Bytes → Bytes → Bool → List SFrame → Slots → Move
order_texts a b answer fs s = Costs (min (length a) (length b)) (answers false answer fs s)

abbrev pub less_by : Value → Value → Value → Option ℕ → List SFrame → Slots → Move
less_by h a b line fs s = choose (is_nil h) (fails line (cannot_compare a b) fs s) (truth_by false h a b line fs s)

abbrev pub less : Value → Value → Option ℕ → List SFrame → Slots → Move
less (Number a) (Number b) line fs s = answers false (int_lt a b) fs s
less (Text a) (Text b) line fs s = order_texts a b (text_less a b) fs s
less a b line fs s = less_by (common_handler s.heap a b (codes "__lt")) a b line fs s

-- `a <= b` falls back on `not (b < a)`
abbrev pub not_less_by : Value → Value → Value → Option ℕ → List SFrame → Slots → Move
not_less_by h a b line fs s = choose (is_nil h) (fails line (cannot_compare a b) fs s) (truth_by true h b a line fs s)

abbrev pub at_most_by : Value → Value → Value → Value → Option ℕ → List SFrame → Slots → Move
at_most_by le lt a b line fs s = choose (is_nil le) (not_less_by lt a b line fs s) (truth_by false le a b line fs s)

abbrev pub at_most : Value → Value → Option ℕ → List SFrame → Slots → Move
at_most (Number a) (Number b) line fs s = answers false (int_le a b) fs s
at_most (Text a) (Text b) line fs s = order_texts a b (not (text_less b a)) fs s
at_most a b line fs s = at_most_by (common_handler s.heap a b (codes "__le")) (common_handler s.heap a b (codes "__lt")) a b line fs s

-- WHAT AN OPERATOR GIVES
abbrev pub operate : Operator → Value → Value → Option ℕ → List SFrame → Slots → Move
operate Less a b line fs s = less a b line fs s
operate Greater a b line fs s = less b a line fs s
operate AtMost a b line fs s = at_most a b line fs s
operate AtLeast a b line fs s = at_most b a line fs s
operate Equal a b line fs s = equals false a b line fs s
operate Unequal a b line fs s = equals true a b line fs s
operate Concatenate a b line fs s = join_texts a b (text_in a) (text_in b) line fs s
operate (Calculate which) a b line fs s = calculate which a b (number_in a) (number_in b) line fs s

abbrev pub apply : UnaryOp → Value → Option ℕ → List SFrame → Slots → Move
apply sign.Not v line fs s = answers true (is_true v) fs s
apply sign.Len v line fs s = length_of v line fs s
apply sign.Minus v line fs s = negate v (number_in v) line fs s
