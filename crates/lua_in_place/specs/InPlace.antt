-- EXPRESSIONS THAT ARE READ WHERE THEY STAND (manual 2.5): one that calls nobody, changes nothing and ends without an error has a value
-- at once, at one step for each of its nodes. `None` tells that it is evaluated move by move.
use Rattle.std.specs.Prelude.{ℕ, ◌+◌, ℤ, pos, Bool, true, false, not, List, [], ◌∷◌, length, Option, Some, None, Result, Ok, Err, if◌then◌else◌, int_lt, int_le, codes}
use Rattle.lua_goes.specs.LuaSyntaxDeclaredUnaryOp.{UnaryOp}
use Rattle.lua_goes.specs.LuaSyntaxDeclaredUnaryOpTheVariants as sign
use Rattle.lua_goes.specs.LuaNumberDeclaredArithmeticNumberFault.{NumberFault}
use Rattle.lua_goes.specs.LuaNumberWhole.{negative_of}
use Rattle.lua_goes.specs.LuaHeapProc.{Proc}
use Rattle.lua_goes.specs.LuaHeapValue.{Value, Nil, Truth, Number, Text, Table, same, is_true, is_nil}
use Rattle.lua_goes.specs.LuaHeapTable.{get, border}
use Rattle.lua_goes.specs.LuaHeapHeap.{Heap, table_at}
use Rattle.lua_goes.specs.LuaMeaningMetatables.{handler, common_handler}
use Rattle.lua_goes.specs.LuaMeaningOperators.{Arithmetic, Operator, Less, Greater, AtMost, AtLeast, Equal, Unequal, Concatenate, Calculate, result_of}
use Rattle.lua_goes.specs.LuaSlotsCode.{Constants, CExp, ConstantC, TextC, LocalC, GlobalC, IndexC, AndC, OrC, OperateC, UnaryC, ParenC, CExps, NoC, MoreC}
use Rattle.lua_goes.specs.LuaSlotsSlots.{Slots, read_place}

-- HANDLERS (2.8): a value where there is none to ask
abbrev pub unless_asked : Value → Value → Option Value
unless_asked h v = if is_nil h then Some v else None

-- ARITHMETIC (2.5.1) of numbers, where the result is a number
abbrev pub number_of : Result ℤ NumberFault → Option Value
number_of (Ok n) = Some (Number n)
number_of (Err e) = None

abbrev pub calculated : Arithmetic → Value → Value → Option Value
calculated o (Number a) (Number b) = number_of (result_of o a b)
calculated o a b = None

-- COMPARISON (2.5.2): order of numbers, and equality of any two values
abbrev pub is_less : Value → Value → Option Value
is_less (Number a) (Number b) = Some (Truth (int_lt a b))
is_less a b = None

abbrev pub is_at_most : Value → Value → Option Value
is_at_most (Number a) (Number b) = Some (Truth (int_le a b))
is_at_most a b = None

-- whether they are equal, told by one truth or by its negation
abbrev pub is_equal : Heap Proc → Bool → Value → Value → Option Value
is_equal h told a b = if same a b then Some (Truth told) else unless_asked (common_handler h a b (codes "__eq")) (Truth (not told))

-- OPERATORS. A text that is joined has a charge of its own.
abbrev pub operated : Heap Proc → Operator → Value → Value → Option Value
operated h Less a b = is_less a b
operated h Greater a b = is_less b a
operated h AtMost a b = is_at_most a b
operated h AtLeast a b = is_at_most b a
operated h Equal a b = is_equal h true a b
operated h Unequal a b = is_equal h false a b
operated h Concatenate a b = None
operated h (Calculate which) a b = calculated which a b

-- `#` (2.5.5) is the bytes of a text, or a border of a table
abbrev pub length_told : Heap Proc → Value → Option Value
length_told h (Text t) = Some (Number (pos (length t)))
length_told h (Table t) = Some (Number (pos (border (table_at h t).entries)))
length_told h v = None

abbrev pub negated : Value → Option Value
negated (Number a) = number_of (negative_of a)
negated v = None

abbrev pub applied : Heap Proc → UnaryOp → Value → Option Value
applied h sign.Not v = Some (Truth (not (is_true v)))
applied h sign.Len v = length_told h v
applied h sign.Minus v = negated v

-- INDEXING (2.3): what the table has, or nil where nobody is asked instead
abbrev pub found : Value → Value → Option Value
found Nil h = unless_asked h Nil
found v h = Some v

abbrev pub entry : Heap Proc → ℕ → Value → Option Value
entry h t key = found (get (table_at h t).entries key) (handler h (Table t) (codes "__index"))

abbrev pub indexed : Heap Proc → Value → Value → Option Value
indexed h (Table t) key = entry h t key
indexed h v key = None

-- NODES: a value with so many
abbrev pub with_nodes : ℕ → Option Value → Option (Value × ℕ)
with_nodes n (Some v) = Some (v, n)
with_nodes n None = None

-- a node around one operand, and around two
abbrev pub around : (Value → Option Value) → Option (Value × ℕ) → Option (Value × ℕ)
around f (Some a) = with_nodes (1 + a.1) (f a.0)
around f None = None

abbrev pub around_both : (Value → Value → Option Value) → Option (Value × ℕ) → Option (Value × ℕ) → Option (Value × ℕ)
around_both f (Some a) (Some b) = with_nodes (1 + a.1 + b.1) (f a.0 b.0)
around_both f a b = None

-- `and` and `or` (2.5.3): the first operand where it is false, and where it is true; else the second, whose nodes count only then
abbrev pub first_if : Bool → Value × ℕ → Option (Value × ℕ) → Option (Value × ℕ)
first_if true a b = Some (a.0, 1 + a.1)
first_if false a (Some b) = Some (b.0, 1 + a.1 + b.1)
first_if false a None = None

abbrev pub and_read : Option (Value × ℕ) → Option (Value × ℕ) → Option (Value × ℕ)
and_read (Some a) b = first_if (not (is_true a.0)) a b
and_read None b = None

abbrev pub or_read : Option (Value × ℕ) → Option (Value × ℕ) → Option (Value × ℕ)
or_read (Some a) b = first_if (is_true a.0) a b
or_read None b = None

-- AN EXPRESSION, with the constants of its module: its value, and the number of nodes that are evaluated
abbrev pub in_place : Constants → CExp → Slots → Option (Value × ℕ)
in_place constants (ConstantC v) s = Some (v, 1)
in_place constants (TextC n) s = Some (Text (constants n), 1)
in_place constants (LocalC p) s = Some (read_place s p, 1)
in_place constants (GlobalC x line) s = with_nodes 1 (entry s.heap s.globals (Text (constants x)))
in_place constants (IndexC of key line) s = around_both (indexed s.heap) (in_place constants of s) (in_place constants key s)
in_place constants (AndC a b) s = and_read (in_place constants a s) (in_place constants b s)
in_place constants (OrC a b) s = or_read (in_place constants a s) (in_place constants b s)
in_place constants (OperateC o a b line) s = around_both (operated s.heap o) (in_place constants a s) (in_place constants b s)
in_place constants (UnaryC o a line) s = around (applied s.heap o) (in_place constants a s)
in_place constants (ParenC a) s = around (λ v. Some v) (in_place constants a s)
in_place constants e s = None

-- A LIST (2.5), where each of its expressions is read in place: their values and all their nodes
abbrev pub in_front : Option (Value × ℕ) → Option (List Value × ℕ) → Option (List Value × ℕ)
in_front (Some a) (Some b) = Some (a.0 ∷ b.0, a.1 + b.1)
in_front a b = None

abbrev pub all_in_place : Constants → CExps → Slots → Option (List Value × ℕ)
all_in_place constants NoC s = Some ([], 0)
all_in_place constants (MoreC e es) s = in_front (in_place constants e s) (all_in_place constants es s)
