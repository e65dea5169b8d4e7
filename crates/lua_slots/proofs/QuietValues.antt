-- What is done with values has no mark.
use Rattle.std.proofs.Common.{◌≡◌, ℕ, Bool, true, false, ◌||◌, List, [], ◌∷◌, Option, Some, None, refl}
use Rattle.std.specs.Prelude.{ℤ, Result, Ok, Err, codes}
use Rattle.lua_meaning.specs.LuaSyntaxDeclaredUnaryOp.{UnaryOp}
use Rattle.lua_meaning.specs.LuaSyntaxDeclaredUnaryOpTheVariants as sign
use Rattle.lua_meaning.specs.LuaNumberDeclaredArithmeticNumberFault.{NumberFault}
use Rattle.lua_meaning.specs.LuaNumberWhole.{negative_of}
use Rattle.lua_meaning.specs.LuaHeapProc.{Proc}
use Rattle.lua_meaning.specs.LuaHeapValue.{Value, Nil, Number, Text, Table, Closure, Builtin, Markup, is_nil, same}
use Rattle.lua_meaning.specs.LuaHeapTable.{get, has}
use Rattle.lua_meaning.specs.LuaHeapHeap.{table_at, closure_at, Closed, Function as FunctionClosed, Iterator}
use Rattle.lua_meaning.specs.Scope.{Bytes, Place as TextPlace}
use Rattle.lua_meaning.specs.Values.{is_function, number_in, text_in}
use Rattle.lua_meaning.specs.Acts.{Jump, Returned}
use Rattle.lua_meaning.specs.Arguments.{PlainEnd, Gives as PlainGives, Fails as PlainFails, Argument}
use Rattle.lua_meaning.specs.Messages.{nth_level, cannot_call, cannot_calculate, cannot_concatenate, cannot_compare, nil_key, read_only}
use Rattle.lua_meaning.specs.Metatables.{handler, either_handler, common_handler}
use Rattle.lua_meaning.specs.Operators.{Arithmetic, Operator, Less, Greater, AtMost, AtLeast, Equal, Unequal, Concatenate, Calculate, result_of, event}
use Rattle.lua_slots.specs.Slots.{Slots, levels_at}
use Rattle.lua_slots.specs.Points.{IndexLinkS, SetLinkS, CallLinkS, SFrame, First, Verdict, Starts, Move, Costs, Now}
use Rattle.lua_slots.specs.Errors as errors
use Rattle.lua_slots.specs.Calls as calls
use Rattle.lua_slots.specs.Index as indexing
use Rattle.lua_slots.specs.Operators as operators
use Rattle.lua_slots.specs.Laws.{marks_of}

-- it has no mark
pub record IsQuiet (mv : Move) : Type 0 where
  pub none : marks_of mv ≡ 0

pub still : {mv : Move} → marks_of mv ≡ 0 → IsQuiet mv
still e = record { none = e }

pub both : (b : Bool) (x y : Move) → IsQuiet x → IsQuiet y → IsQuiet (errors.choose b x y)
both true x y q r = q
both false x y q r = r

-- ERRORS
pub raises : (p : Option TextPlace) (t : Bytes) (fs : List SFrame) (s : Slots) → IsQuiet (errors.raises p t fs s)
raises None t fs s = still refl
raises (Some p) t fs s = still refl

pub raises_value : (p : Option TextPlace) (v : Value) (fs : List SFrame) (s : Slots) → IsQuiet (errors.raises_value p v fs s)
raises_value p (Text t) fs s = raises p t fs s
raises_value p v fs s = still refl

pub fails : (line : Option ℕ) (t : Bytes) (fs : List SFrame) (s : Slots) → IsQuiet (errors.fails line t fs s)
fails line t fs s = raises _ t fs s

pub fails_quoting : (line : Option ℕ) (t : Bytes) (fs : List SFrame) (s : Slots) → IsQuiet (errors.fails_quoting line t fs s)
fails_quoting line t fs s = go (nth_level (levels_at s.functions line) 1)
  where
    go : (p : Option TextPlace) → IsQuiet (errors.raises_quote p t fs s)
    go None = still refl
    go (Some p) = still refl

pub ends : (e : PlainEnd) (line : Option ℕ) (fs : List SFrame) (s : Slots) → IsQuiet (errors.ends e line fs s)
ends (PlainGives vs) line fs s = still refl
ends (PlainFails v level) line fs s = raises_value _ v fs s

pub with_argument : {X : Type 0} (a : Argument X) (line : Option ℕ) (fs : List SFrame) (s : Slots) (go : X → Move) → ((x : X) → IsQuiet (go x)) → IsQuiet (errors.with_argument a line fs s go)
with_argument (Ok x) line fs s go q = q x
with_argument (Err message) line fs s go q = fails line message fs s

-- CALLS
enter : (f : Value) (o : Option (Closed Proc)) (args : List Value) (line : Option ℕ) (fs : List SFrame) (s : Slots) → IsQuiet (calls.enter f o args line fs s)
enter f None args line fs s = fails line _ fs s
enter f (Some (FunctionClosed g)) args line fs s = still refl
enter f (Some (Iterator step cells)) args line fs s = still refl

call_by : (h v : Value) (args : List Value) (line : Option ℕ) (fs : List SFrame) (s : Slots) → IsQuiet (calls.call_by h v args line fs s)
call_by h v args line fs s = both (is_nil h) _ (Now (Starts (CallLinkS h (v ∷ args) line) fs) s) (fails line (cannot_call v) fs s) (still refl)

pub call : (v : Value) (args : List Value) (line : Option ℕ) (fs : List SFrame) (s : Slots) → IsQuiet (calls.call v args line fs s)
call (Closure x) args line fs s = enter (Closure x) (closure_at s.heap x) args line fs s
call (Builtin x) args line fs s = still refl
call (Table x) args line fs s = call_by (handler s.heap (Table x) (codes "__call")) (Table x) args line fs s
call v args line fs s = fails line _ fs s

pub after_body : (j : Jump) (fs : List SFrame) (s : Slots) → IsQuiet (calls.after_body j fs s)
after_body (Returned vs) fs s = still refl
after_body j fs s = still refl

-- INDEXING
index_by : (h o k : Value) (line : Option ℕ) (fs : List SFrame) (s : Slots) → IsQuiet (indexing.index_by h o k line fs s)
index_by h o k line fs s = both (is_nil h) (errors.gives (Nil ∷ []) fs s) (Now (Starts (IndexLinkS o h k line) fs) s) (still refl) (still refl)

pub index_table : (t : ℕ) (k : Value) (line : Option ℕ) (fs : List SFrame) (s : Slots) → IsQuiet (indexing.index_table t k line fs s)
index_table t k line fs s = both (is_nil (get (table_at s.heap t).entries k)) _ (errors.gives (get (table_at s.heap t).entries k ∷ []) fs s) (index_by (handler s.heap (Table t) (codes "__index")) (Table t) k line fs s) (still refl)

pub index : (v k : Value) (line : Option ℕ) (fs : List SFrame) (s : Slots) → IsQuiet (indexing.index v k line fs s)
index (Table t) k line fs s = index_table t k line fs s
index (Text x) k line fs s = index_table s.strings k line fs s
index (Markup m) k line fs s = still refl
index v k line fs s = fails line _ fs s

pub index_link : (o h k : Value) (line : Option ℕ) (fs : List SFrame) (s : Slots) → IsQuiet (indexing.index_link o h k line fs s)
index_link o h k line fs s = both (is_function h) _ _ (call h (o ∷ k ∷ []) line fs s) (index h k line fs s)

put_entry : (t : ℕ) (k v : Value) (fs : List SFrame) (s : Slots) → IsQuiet (indexing.put_entry t k v fs s)
put_entry t k v fs s = both (has (table_at s.heap t).entries k || is_nil v) (errors.gives [] fs (indexing.with_entry t k v s)) (Costs 4 (errors.gives [] fs (indexing.with_entry t k v s))) (still refl) (still refl)

pub set_entry : (t : ℕ) (k v : Value) (line : Option ℕ) (fs : List SFrame) (s : Slots) → IsQuiet (indexing.set_entry t k v line fs s)
set_entry t k v line fs s = both (table_at s.heap t).frozen _ _ (fails line read_only fs s) (both (is_nil k) _ _ (fails line nil_key fs s) (put_entry t k v fs s))

set_by : (h : Value) (t : ℕ) (k v : Value) (line : Option ℕ) (fs : List SFrame) (s : Slots) → IsQuiet (indexing.set_by h t k v line fs s)
set_by h t k v line fs s = both (is_nil h) _ (Now (Starts (SetLinkS (Table t) h k v line) fs) s) (set_entry t k v line fs s) (still refl)

set_table : (t : ℕ) (k v : Value) (line : Option ℕ) (fs : List SFrame) (s : Slots) → IsQuiet (indexing.set_table t k v line fs s)
set_table t k v line fs s = both (is_nil (get (table_at s.heap t).entries k)) _ _ (set_by (handler s.heap (Table t) (codes "__newindex")) t k v line fs s) (set_entry t k v line fs s)

pub set_index : (o k v : Value) (line : Option ℕ) (fs : List SFrame) (s : Slots) → IsQuiet (indexing.set_index o k v line fs s)
set_index (Table t) k v line fs s = set_table t k v line fs s
set_index o k v line fs s = fails line _ fs s

pub set_link : (o h k v : Value) (line : Option ℕ) (fs : List SFrame) (s : Slots) → IsQuiet (indexing.set_link o h k v line fs s)
set_link o h k v line fs s = both (is_function h) _ _ (call h (o ∷ k ∷ v ∷ []) line fs s) (set_index h k v line fs s)

-- OPERATORS
number_or_fail : (line : Option ℕ) (r : Result ℤ NumberFault) (fs : List SFrame) (s : Slots) → IsQuiet (operators.number_or_fail line r fs s)
number_or_fail line (Ok n) fs s = still refl
number_or_fail line (Err e) fs s = fails line _ fs s

by_handler : (h a b : Value) (line : Option ℕ) (t : Bytes) (fs : List SFrame) (s : Slots) → IsQuiet (operators.by_handler h a b line t fs s)
by_handler h a b line t fs s = both (is_nil h) _ _ (fails line t fs s) (call h (a ∷ b ∷ []) line (First ∷ fs) s)

by_either : (a b : Value) (name : Bytes) (line : Option ℕ) (t : Bytes) (fs : List SFrame) (s : Slots) → IsQuiet (operators.by_either a b name line t fs s)
by_either a b name line t fs s = by_handler (either_handler s.heap a b name) a b line t fs s

calculate : (o : Arithmetic) (a b : Value) (x y : Option ℤ) (line : Option ℕ) (fs : List SFrame) (s : Slots) → IsQuiet (operators.calculate o a b x y line fs s)
calculate o a b (Some x) (Some y) line fs s = number_or_fail line (result_of o x y) fs s
calculate o a b (Some x) None line fs s = by_either a b (event o) line (cannot_calculate b) fs s
calculate o a b None y line fs s = by_either a b (event o) line (cannot_calculate a) fs s

negate : (a : Value) (x : Option ℤ) (line : Option ℕ) (fs : List SFrame) (s : Slots) → IsQuiet (operators.negate a x line fs s)
negate a (Some x) line fs s = number_or_fail line (negative_of x) fs s
negate a None line fs s = by_either a a (codes "__unm") line (cannot_calculate a) fs s

join_texts : (a b : Value) (x y : Option Bytes) (line : Option ℕ) (fs : List SFrame) (s : Slots) → IsQuiet (operators.join_texts a b x y line fs s)
join_texts a b (Some x) (Some y) line fs s = still refl
join_texts a b (Some x) None line fs s = by_either a b (codes "__concat") line (cannot_concatenate b) fs s
join_texts a b None y line fs s = by_either a b (codes "__concat") line (cannot_concatenate a) fs s

length_of : (v : Value) (line : Option ℕ) (fs : List SFrame) (s : Slots) → IsQuiet (operators.length_of v line fs s)
length_of (Text t) line fs s = still refl
length_of (Table t) line fs s = still refl
length_of v line fs s = fails line _ fs s

truth_by : (n : Bool) (h a b : Value) (line : Option ℕ) (fs : List SFrame) (s : Slots) → IsQuiet (operators.truth_by n h a b line fs s)
truth_by n h a b line fs s = both (is_nil h) (operators.answers n false fs s) _ (still refl) (call h (a ∷ b ∷ []) line (Verdict n ∷ fs) s)

equals : (n : Bool) (a b : Value) (line : Option ℕ) (fs : List SFrame) (s : Slots) → IsQuiet (operators.equals n a b line fs s)
equals n a b line fs s = both (same a b) (operators.answers n true fs s) _ (still refl) (truth_by n (common_handler s.heap a b (codes "__eq")) a b line fs s)

less_by : (h a b : Value) (line : Option ℕ) (fs : List SFrame) (s : Slots) → IsQuiet (operators.less_by h a b line fs s)
less_by h a b line fs s = both (is_nil h) _ _ (fails line (cannot_compare a b) fs s) (truth_by false h a b line fs s)

less : (a b : Value) (line : Option ℕ) (fs : List SFrame) (s : Slots) → IsQuiet (operators.less a b line fs s)
less (Number a) (Number b) line fs s = still refl
less (Text a) (Text b) line fs s = still refl
less a b line fs s = less_by (common_handler s.heap a b (codes "__lt")) a b line fs s

not_less_by : (h a b : Value) (line : Option ℕ) (fs : List SFrame) (s : Slots) → IsQuiet (operators.not_less_by h a b line fs s)
not_less_by h a b line fs s = both (is_nil h) _ _ (fails line (cannot_compare a b) fs s) (truth_by true h b a line fs s)

at_most_by : (le lt a b : Value) (line : Option ℕ) (fs : List SFrame) (s : Slots) → IsQuiet (operators.at_most_by le lt a b line fs s)
at_most_by le lt a b line fs s = both (is_nil le) _ _ (not_less_by lt a b line fs s) (truth_by false le a b line fs s)

at_most : (a b : Value) (line : Option ℕ) (fs : List SFrame) (s : Slots) → IsQuiet (operators.at_most a b line fs s)
at_most (Number a) (Number b) line fs s = still refl
at_most (Text a) (Text b) line fs s = still refl
at_most a b line fs s = at_most_by (common_handler s.heap a b (codes "__le")) (common_handler s.heap a b (codes "__lt")) a b line fs s

pub operate : (o : Operator) (a b : Value) (line : Option ℕ) (fs : List SFrame) (s : Slots) → IsQuiet (operators.operate o a b line fs s)
operate Less a b line fs s = less a b line fs s
operate Greater a b line fs s = less b a line fs s
operate AtMost a b line fs s = at_most a b line fs s
operate AtLeast a b line fs s = at_most b a line fs s
operate Equal a b line fs s = equals false a b line fs s
operate Unequal a b line fs s = equals true a b line fs s
operate Concatenate a b line fs s = join_texts a b (text_in a) (text_in b) line fs s
operate (Calculate which) a b line fs s = calculate which a b (number_in a) (number_in b) line fs s

pub apply : (o : UnaryOp) (v : Value) (line : Option ℕ) (fs : List SFrame) (s : Slots) → IsQuiet (operators.apply o v line fs s)
apply sign.Not v line fs s = still refl
apply sign.Len v line fs s = length_of v line fs s
apply sign.Minus v line fs s = negate v (number_in v) line fs s
