-- What is done with values leads, where it costs no step, below this weight.
use Rattle.std.proofs.Common.{◌≡◌, ℕ, ◌+◌, ◌≤◌, ◌<◌, Bool, true, false, ◌||◌, List, [], ◌∷◌, Option, Some, None, arith}
use Rattle.std.specs.Prelude.{ℤ, Result, Ok, Err, codes}
use Rattle.lua_slots.specs.LuaSyntaxDeclaredUnaryOp.{UnaryOp}
use Rattle.lua_slots.specs.LuaSyntaxDeclaredUnaryOpTheVariants as sign
use Rattle.lua_slots.specs.LuaNumberDeclaredArithmeticNumberFault.{NumberFault}
use Rattle.lua_slots.specs.LuaNumberWhole.{negative_of}
use Rattle.lua_slots.specs.LuaHeapProc.{Proc}
use Rattle.lua_slots.specs.LuaHeapValue.{Value, Nil, Number, Text, Table, Closure, Builtin, Markup, is_nil, same}
use Rattle.lua_slots.specs.LuaHeapTable.{get, has}
use Rattle.lua_slots.specs.LuaHeapHeap.{table_at, closure_at, Closed, Function as FunctionClosed, Iterator}
use Rattle.lua_slots.specs.LuaMeaningScope.{Bytes, Place as TextPlace}
use Rattle.lua_slots.specs.LuaMeaningValues.{number_in, text_in}
use Rattle.lua_slots.specs.LuaMeaningMessages.{nth_level, cannot_call, cannot_calculate, cannot_concatenate, cannot_compare, nil_key, read_only}
use Rattle.lua_slots.specs.LuaMeaningMetatables.{handler, either_handler, common_handler}
use Rattle.lua_slots.specs.LuaMeaningOperators.{Arithmetic, Operator, Less, Greater, AtMost, AtLeast, Equal, Unequal, Concatenate, Calculate, result_of, event}
use Rattle.lua_slots.specs.Slots.{Slots, levels_at}
use Rattle.lua_slots.specs.Points.{IndexLinkS, SetLinkS, CallLinkS, SFrame, First, Verdict, Point, Starts, Move, Costs, Exits, Now}
use Rattle.lua_slots.specs.Errors as errors
use Rattle.lua_slots.specs.Calls as calls
use Rattle.lua_slots.specs.Index as indexing
use Rattle.lua_slots.specs.Operators as operators
use Rattle.lua_slots.specs.Laws.{costs_of}
use Rattle.lua_goes.specs.Weight.{of_frames, weight, weight_after}

-- where it has no charge, it leads to a point below this weight
pub record IsLow (mv : Move) (n : ℕ) : Type 0 where
  pub lower : costs_of mv ≡ 0 → weight_after mv < n

pub now : {q : Point} {t : Slots} {n : ℕ} → weight q < n → IsLow (Now q t) n
now h = record { lower = λ e. h }

pub below : {mv : Move} {n m : ℕ} → n ≤ m → IsLow mv n → IsLow mv m
below h k = record { lower = λ e. let l = k.lower e in omega (arith, l, h) }

pub pays : (c : ℕ) (mv : Move) {n : ℕ} → IsLow mv n → IsLow (Costs c mv) n
pays c mv k = record { lower = λ e. k.lower (omega (arith, e)) }

-- it has a charge
pub charged : {mv : Move} {n : ℕ} → 0 < costs_of mv → IsLow mv n
charged h = record { lower = λ e. absurd (omega (arith, e, h)) }

pub exits : {mv : Move} {n : ℕ} → IsLow mv n → IsLow (Exits mv) n
exits k = record { lower = k.lower }

pub both : (b : Bool) (x y : Move) {n : ℕ} → IsLow x n → IsLow y n → IsLow (errors.choose b x y) n
both true x y q r = q
both false x y q r = r

-- ERRORS
pub raises : (p : Option TextPlace) (t : Bytes) (fs : List SFrame) (s : Slots) → IsLow (errors.raises p t fs s) (2 + of_frames fs)
raises None t fs s = now (omega arith)
raises (Some p) t fs s = pays _ _ (now (omega arith))

pub raises_value : (p : Option TextPlace) (v : Value) (fs : List SFrame) (s : Slots) → IsLow (errors.raises_value p v fs s) (2 + of_frames fs)
raises_value p (Text t) fs s = raises p t fs s
raises_value p v fs s = now (omega arith)

pub fails : (line : Option ℕ) (t : Bytes) (fs : List SFrame) (s : Slots) → IsLow (errors.fails line t fs s) (2 + of_frames fs)
fails line t fs s = raises _ t fs s

pub fails_quoting : (line : Option ℕ) (t : Bytes) (fs : List SFrame) (s : Slots) → IsLow (errors.fails_quoting line t fs s) (2 + of_frames fs)
fails_quoting line t fs s = go (nth_level (levels_at s.functions line) 1)
  where
    go : (p : Option TextPlace) → IsLow (errors.raises_quote p t fs s) (2 + of_frames fs)
    go None = pays _ _ (now (omega arith))
    go (Some p) = pays _ _ (now (omega arith))

-- CALLS
enter : (f : Value) (o : Option (Closed Proc)) (args : List Value) (line : Option ℕ) (fs : List SFrame) (s : Slots) → IsLow (calls.enter f o args line fs s) (2 + of_frames fs)
enter f None args line fs s = fails line _ fs s
enter f (Some (FunctionClosed g)) args line fs s = now (omega arith)
enter f (Some (Iterator step cells)) args line fs s = now (omega arith)

call_by : (h v : Value) (args : List Value) (line : Option ℕ) (fs : List SFrame) (s : Slots) → IsLow (calls.call_by h v args line fs s) (2 + of_frames fs)
call_by h v args line fs s = both (is_nil h) _ (Now (Starts (CallLinkS h (v ∷ args) line) fs) s) (fails line (cannot_call v) fs s) (now (omega arith))

pub call : (v : Value) (args : List Value) (line : Option ℕ) (fs : List SFrame) (s : Slots) → IsLow (calls.call v args line fs s) (2 + of_frames fs)
call (Closure x) args line fs s = enter (Closure x) (closure_at s.heap x) args line fs s
call (Builtin x) args line fs s = now (omega arith)
call (Table x) args line fs s = call_by (handler s.heap (Table x) (codes "__call")) (Table x) args line fs s
call v args line fs s = fails line _ fs s

-- INDEXING
index_by : (h o k : Value) (line : Option ℕ) (fs : List SFrame) (s : Slots) → IsLow (indexing.index_by h o k line fs s) (4 + of_frames fs)
index_by h o k line fs s = both (is_nil h) (errors.gives (Nil ∷ []) fs s) (Now (Starts (IndexLinkS o h k line) fs) s) (now (omega arith)) (now (omega arith))

pub index_table : (t : ℕ) (k : Value) (line : Option ℕ) (fs : List SFrame) (s : Slots) → IsLow (indexing.index_table t k line fs s) (4 + of_frames fs)
index_table t k line fs s = both (is_nil (get (table_at s.heap t).entries k)) _ (errors.gives (get (table_at s.heap t).entries k ∷ []) fs s) (index_by (handler s.heap (Table t) (codes "__index")) (Table t) k line fs s) (now (omega arith))

pub index : (v k : Value) (line : Option ℕ) (fs : List SFrame) (s : Slots) → IsLow (indexing.index v k line fs s) (4 + of_frames fs)
index (Table t) k line fs s = index_table t k line fs s
index (Text x) k line fs s = index_table s.strings k line fs s
index (Markup m) k line fs s = now (omega arith)
index v k line fs s = below (omega arith) (fails line _ fs s)

put_entry : (t : ℕ) (k v : Value) (fs : List SFrame) (s : Slots) → IsLow (indexing.put_entry t k v fs s) (2 + of_frames fs)
put_entry t k v fs s = both (has (table_at s.heap t).entries k || is_nil v) (errors.gives [] fs (indexing.with_entry t k v s)) (Costs 4 (errors.gives [] fs (indexing.with_entry t k v s))) (now (omega arith)) (pays 4 _ (now (omega arith)))

pub set_entry : (t : ℕ) (k v : Value) (line : Option ℕ) (fs : List SFrame) (s : Slots) → IsLow (indexing.set_entry t k v line fs s) (2 + of_frames fs)
set_entry t k v line fs s = both (table_at s.heap t).frozen _ _ (fails line read_only fs s) (both (is_nil k) _ _ (fails line nil_key fs s) (put_entry t k v fs s))

set_by : (h : Value) (t : ℕ) (k v : Value) (line : Option ℕ) (fs : List SFrame) (s : Slots) → IsLow (indexing.set_by h t k v line fs s) (2 + of_frames fs)
set_by h t k v line fs s = both (is_nil h) _ (Now (Starts (SetLinkS (Table t) h k v line) fs) s) (set_entry t k v line fs s) (now (omega arith))

set_table : (t : ℕ) (k v : Value) (line : Option ℕ) (fs : List SFrame) (s : Slots) → IsLow (indexing.set_table t k v line fs s) (2 + of_frames fs)
set_table t k v line fs s = both (is_nil (get (table_at s.heap t).entries k)) _ _ (set_by (handler s.heap (Table t) (codes "__newindex")) t k v line fs s) (set_entry t k v line fs s)

pub set_index : (o k v : Value) (line : Option ℕ) (fs : List SFrame) (s : Slots) → IsLow (indexing.set_index o k v line fs s) (2 + of_frames fs)
set_index (Table t) k v line fs s = set_table t k v line fs s
set_index o k v line fs s = fails line _ fs s

-- OPERATORS
number_or_fail : (line : Option ℕ) (r : Result ℤ NumberFault) (fs : List SFrame) (s : Slots) → IsLow (operators.number_or_fail line r fs s) (5 + of_frames fs)
number_or_fail line (Ok n) fs s = now (omega arith)
number_or_fail line (Err e) fs s = below (omega arith) (fails line _ fs s)

by_handler : (h a b : Value) (line : Option ℕ) (t : Bytes) (fs : List SFrame) (s : Slots) → IsLow (operators.by_handler h a b line t fs s) (5 + of_frames fs)
by_handler h a b line t fs s = both (is_nil h) _ _ (below (omega arith) (fails line t fs s)) (below (omega arith) (call h (a ∷ b ∷ []) line (First ∷ fs) s))

by_either : (a b : Value) (name : Bytes) (line : Option ℕ) (t : Bytes) (fs : List SFrame) (s : Slots) → IsLow (operators.by_either a b name line t fs s) (5 + of_frames fs)
by_either a b name line t fs s = by_handler (either_handler s.heap a b name) a b line t fs s

calculate : (o : Arithmetic) (a b : Value) (x y : Option ℤ) (line : Option ℕ) (fs : List SFrame) (s : Slots) → IsLow (operators.calculate o a b x y line fs s) (5 + of_frames fs)
calculate o a b (Some x) (Some y) line fs s = number_or_fail line (result_of o x y) fs s
calculate o a b (Some x) None line fs s = by_either a b (event o) line (cannot_calculate b) fs s
calculate o a b None y line fs s = by_either a b (event o) line (cannot_calculate a) fs s

negate : (a : Value) (x : Option ℤ) (line : Option ℕ) (fs : List SFrame) (s : Slots) → IsLow (operators.negate a x line fs s) (5 + of_frames fs)
negate a (Some x) line fs s = number_or_fail line (negative_of x) fs s
negate a None line fs s = by_either a a (codes "__unm") line (cannot_calculate a) fs s

join_texts : (a b : Value) (x y : Option Bytes) (line : Option ℕ) (fs : List SFrame) (s : Slots) → IsLow (operators.join_texts a b x y line fs s) (5 + of_frames fs)
join_texts a b (Some x) (Some y) line fs s = pays _ _ (now (omega arith))
join_texts a b (Some x) None line fs s = by_either a b (codes "__concat") line (cannot_concatenate b) fs s
join_texts a b None y line fs s = by_either a b (codes "__concat") line (cannot_concatenate a) fs s

length_of : (v : Value) (line : Option ℕ) (fs : List SFrame) (s : Slots) → IsLow (operators.length_of v line fs s) (5 + of_frames fs)
length_of (Text t) line fs s = now (omega arith)
length_of (Table t) line fs s = now (omega arith)
length_of v line fs s = below (omega arith) (fails line _ fs s)

truth_by : (n : Bool) (h a b : Value) (line : Option ℕ) (fs : List SFrame) (s : Slots) → IsLow (operators.truth_by n h a b line fs s) (5 + of_frames fs)
truth_by n h a b line fs s = both (is_nil h) (operators.answers n false fs s) _ (now (omega arith)) (below (omega arith) (call h (a ∷ b ∷ []) line (Verdict n ∷ fs) s))

equals : (n : Bool) (a b : Value) (line : Option ℕ) (fs : List SFrame) (s : Slots) → IsLow (operators.equals n a b line fs s) (5 + of_frames fs)
equals n a b line fs s = both (same a b) (operators.answers n true fs s) _ (now (omega arith)) (truth_by n (common_handler s.heap a b (codes "__eq")) a b line fs s)

less_by : (h a b : Value) (line : Option ℕ) (fs : List SFrame) (s : Slots) → IsLow (operators.less_by h a b line fs s) (5 + of_frames fs)
less_by h a b line fs s = both (is_nil h) _ _ (below (omega arith) (fails line (cannot_compare a b) fs s)) (truth_by false h a b line fs s)

less : (a b : Value) (line : Option ℕ) (fs : List SFrame) (s : Slots) → IsLow (operators.less a b line fs s) (5 + of_frames fs)
less (Number a) (Number b) line fs s = now (omega arith)
less (Text a) (Text b) line fs s = pays _ _ (now (omega arith))
less a b line fs s = less_by (common_handler s.heap a b (codes "__lt")) a b line fs s

not_less_by : (h a b : Value) (line : Option ℕ) (fs : List SFrame) (s : Slots) → IsLow (operators.not_less_by h a b line fs s) (5 + of_frames fs)
not_less_by h a b line fs s = both (is_nil h) _ _ (below (omega arith) (fails line (cannot_compare a b) fs s)) (truth_by true h b a line fs s)

at_most_by : (le lt a b : Value) (line : Option ℕ) (fs : List SFrame) (s : Slots) → IsLow (operators.at_most_by le lt a b line fs s) (5 + of_frames fs)
at_most_by le lt a b line fs s = both (is_nil le) _ _ (not_less_by lt a b line fs s) (truth_by false le a b line fs s)

at_most : (a b : Value) (line : Option ℕ) (fs : List SFrame) (s : Slots) → IsLow (operators.at_most a b line fs s) (5 + of_frames fs)
at_most (Number a) (Number b) line fs s = now (omega arith)
at_most (Text a) (Text b) line fs s = pays _ _ (now (omega arith))
at_most a b line fs s = at_most_by (common_handler s.heap a b (codes "__le")) (common_handler s.heap a b (codes "__lt")) a b line fs s

pub operate : (o : Operator) (a b : Value) (line : Option ℕ) (fs : List SFrame) (s : Slots) → IsLow (operators.operate o a b line fs s) (5 + of_frames fs)
operate Less a b line fs s = less a b line fs s
operate Greater a b line fs s = less b a line fs s
operate AtMost a b line fs s = at_most a b line fs s
operate AtLeast a b line fs s = at_most b a line fs s
operate Equal a b line fs s = equals false a b line fs s
operate Unequal a b line fs s = equals true a b line fs s
operate Concatenate a b line fs s = join_texts a b (text_in a) (text_in b) line fs s
operate (Calculate which) a b line fs s = calculate which a b (number_in a) (number_in b) line fs s

pub apply : (o : UnaryOp) (v : Value) (line : Option ℕ) (fs : List SFrame) (s : Slots) → IsLow (operators.apply o v line fs s) (5 + of_frames fs)
apply sign.Not v line fs s = now (omega arith)
apply sign.Len v line fs s = length_of v line fs s
apply sign.Minus v line fs s = negate v (number_in v) line fs s
