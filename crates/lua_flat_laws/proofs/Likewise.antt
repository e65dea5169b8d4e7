-- WHAT IS DONE WITH VALUES is the same above other frames, with other registers, and where functions in progress begin elsewhere.
use Rattle.std.proofs.Common.{◌≡◌, ℕ, Bool, true, false, ◌||◌, List, [], ◌∷◌, Option, Some, None, refl, sym, ap, subst}
use Rattle.std.specs.Prelude.{ℤ, ◌++◌, map, Result, Ok, Err, codes}
use Rattle.lua_goes.specs.MwFrameDeclaredQuestionAsk.{Ask}
use Rattle.lua_goes.specs.LuaSyntaxDeclaredUnaryOp.{UnaryOp}
use Rattle.lua_flat.specs.LuaSyntaxDeclaredUnaryOpTheVariants as sign
use Rattle.lua_goes.specs.LuaNumberDeclaredArithmeticNumberFault.{NumberFault}
use Rattle.lua_goes.specs.LuaNumberWhole.{negative_of}
use Rattle.lua_goes.specs.PageRunOutcome.{Goes, Jumps}
use Rattle.lua_goes.specs.LuaHeapProc.{Proc}
use Rattle.lua_goes.specs.LuaHeapValue.{Value, Nil, Number, Text, Table, Closure, Builtin, Markup, is_nil, same}
use Rattle.lua_goes.specs.LuaHeapTable.{get, has}
use Rattle.lua_goes.specs.LuaHeapHeap.{table_at, closure_at, Closed, Function as FunctionClosed, Iterator}
use Rattle.lua_flat.specs.LuaMeaningScope.{Bytes, Levels, Place as TextPlace}
use Rattle.lua_goes.specs.LuaMeaningValues.{is_function, number_in, text_in}
use Rattle.lua_goes.specs.LuaMeaningActs.{Raised}
use Rattle.lua_goes.specs.LuaMeaningArguments.{PlainEnd, Gives as PlainGives, Fails as PlainFails, Argument}
use Rattle.lua_flat.specs.LuaMeaningMessages.{cannot_call, cannot_calculate, cannot_concatenate, cannot_compare, nil_key, read_only, nth_level, place_at}
use Rattle.lua_goes.specs.LuaMeaningMetatables.{handler, either_handler, common_handler}
use Rattle.lua_flat.specs.LuaMeaningOperators.{Arithmetic, Operator, Less, Greater, AtMost, AtLeast, Equal, Unequal, Concatenate, Calculate, result_of, event}
use Rattle.lua_goes.specs.LuaSlotsSlots.{Slot, Activation, Slots, levels_at}
use Rattle.lua_goes.specs.LuaSlotsPoints.{SThing, IndexLinkS, SetLinkS, CallLinkS, BodyS, LibraryS, SFrame, First, Verdict, Gives, Starts, Texts, Asking, Move, Costs, Marks, Enters, Exits, Now}
use Rattle.lua_goes.specs.LuaSlotsErrors as errors
use Rattle.lua_goes.specs.LuaSlotsCalls as calls
use Rattle.lua_goes.specs.LuaSlotsIndex as indexing
use Rattle.lua_goes.specs.LuaSlotsOperators as operators
use Rattle.lua_flat.specs.Stands.{without_base, erased, in_tree, AllAway, IsAwayThing, IsOneFrame}

-- a move above the frames hs of a flat machine, and the same move above the frames fs, where these registers and functions are
pub data Likewise (hs fs : List SFrame) (regs : List Slot) (fns : List Activation) : Move → Move → Type 0 where
  like_costs : {n : ℕ} {m mv : Move} → Likewise hs fs regs fns m mv → Likewise hs fs regs fns (Costs n m) (Costs n mv)
  like_marks : {m mv : Move} → Likewise hs fs regs fns m mv → Likewise hs fs regs fns (Marks m) (Marks mv)
  like_enters : {m mv : Move} → Likewise hs fs regs fns m mv → Likewise hs fs regs fns (Enters m) (Enters mv)
  like_exits : {m mv : Move} → Likewise hs fs regs fns m mv → Likewise hs fs regs fns (Exits m) (Exits mv)
  like_goes : (gs : List SFrame) (vs : List Value) (t : Slots) → AllAway gs → Likewise hs fs regs fns (Now (Gives (Goes vs) (gs ++ hs)) (erased (in_tree regs fns t))) (Now (Gives (Goes vs) (gs ++ fs)) (in_tree regs fns t))
  like_raises : (gs : List SFrame) (v : Value) (t : Slots) → AllAway gs → Likewise hs fs regs fns (Now (Gives (Jumps (Raised v)) (gs ++ hs)) (erased (in_tree regs fns t))) (Now (Gives (Jumps (Raised v)) (gs ++ fs)) (in_tree regs fns t))
  like_starts : (gs : List SFrame) (thing : SThing) (t : Slots) → IsAwayThing thing → AllAway gs → Likewise hs fs regs fns (Now (Starts thing (gs ++ hs)) (erased (in_tree regs fns t))) (Now (Starts thing (gs ++ fs)) (in_tree regs fns t))
  like_texts : (gs : List SFrame) (vs : List Value) (before : Bytes) (t : Slots) → AllAway gs → Likewise hs fs regs fns (Now (Texts vs before (gs ++ hs)) (erased (in_tree regs fns t))) (Now (Texts vs before (gs ++ fs)) (in_tree regs fns t))
  like_asks : (gs : List SFrame) (q : Ask) (t : Slots) → AllAway gs → Likewise hs fs regs fns (Now (Asking q (gs ++ hs)) (erased (in_tree regs fns t))) (Now (Asking q (gs ++ fs)) (in_tree regs fns t))

-- levels of errors don't depend on where registers begin
pub levels_same : (fns : List Activation) (line : Option ℕ) → levels_at (map without_base fns) line ≡ levels_at fns line
levels_same [] line = refl
levels_same (a ∷ fns) None = refl
levels_same (a ∷ fns) (Some line) = ap (λ (l : Levels). record { source = a.source; line = line } ∷ l) (levels_same fns a.called_at)

module _ (hs fs : List SFrame) where
  abbrev pub Like : Slots → Move → Move → Type 0
  Like s m mv = Likewise hs fs s.regs s.functions m mv

  pub both : (s : Slots) (b : Bool) (x y x' y' : Move) → Like s x x' → Like s y y' → Like s (errors.choose b x y) (errors.choose b x' y')
  both s true x y x' y' q r = q
  both s false x y x' y' q r = r

  -- VALUES AND ERRORS
  pub gives : (gs : List SFrame) → AllAway gs → (vs : List Value) (s : Slots) → Like s (errors.gives vs (gs ++ hs) (erased s)) (errors.gives vs (gs ++ fs) s)
  gives gs a vs s = like_goes gs vs s a

  pub raises : (gs : List SFrame) → AllAway gs → (p : Option TextPlace) (t : Bytes) (s : Slots) → Like s (errors.raises p t (gs ++ hs) (erased s)) (errors.raises p t (gs ++ fs) s)
  raises gs a None t s = like_raises gs (Text t) s a
  raises gs a (Some p) t s = like_costs (like_raises gs _ s a)

  pub raises_value : (gs : List SFrame) → AllAway gs → (p : Option TextPlace) (v : Value) (s : Slots) → Like s (errors.raises_value p v (gs ++ hs) (erased s)) (errors.raises_value p v (gs ++ fs) s)
  raises_value gs a p (Text t) s = raises gs a p t s
  raises_value gs a p v s = like_raises gs v s a

  pub fails : (gs : List SFrame) → AllAway gs → (line : Option ℕ) (t : Bytes) (s : Slots) → Like s (errors.fails line t (gs ++ hs) (erased s)) (errors.fails line t (gs ++ fs) s)
  fails gs a line t s =
      subst (λ (l : Levels). Like s (errors.raises (nth_level l 1) t (gs ++ hs) (erased s)) (errors.fails line t (gs ++ fs) s)) (sym (levels_same s.functions line)) (raises gs a (nth_level (levels_at s.functions line) 1) t s)

  -- one that quotes
  raises_quote : (gs : List SFrame) → AllAway gs → (p : Option TextPlace) (t : Bytes) (s : Slots) → Like s (errors.raises_quote p t (gs ++ hs) (erased s)) (errors.raises_quote p t (gs ++ fs) s)
  raises_quote gs a None t s = like_costs (like_raises gs (Text t) s a)
  raises_quote gs a (Some p) t s = raises gs a (Some p) t s

  pub fails_quoting : (gs : List SFrame) → AllAway gs → (line : Option ℕ) (t : Bytes) (s : Slots) → Like s (errors.fails_quoting line t (gs ++ hs) (erased s)) (errors.fails_quoting line t (gs ++ fs) s)
  fails_quoting gs a line t s =
      subst (λ (l : Levels). Like s (errors.raises_quote (nth_level l 1) t (gs ++ hs) (erased s)) (errors.fails_quoting line t (gs ++ fs) s)) (sym (levels_same s.functions line)) (raises_quote gs a (nth_level (levels_at s.functions line) 1) t s)

  pub ends : (gs : List SFrame) → AllAway gs → (e : PlainEnd) (line : Option ℕ) (s : Slots) → Like s (errors.ends e line (gs ++ hs) (erased s)) (errors.ends e line (gs ++ fs) s)
  ends gs a (PlainGives vs) line s = gives gs a vs s
  ends gs a (PlainFails v level) line s =
      subst (λ (l : Levels). Like s (errors.raises_value (place_at l level) v (gs ++ hs) (erased s)) (errors.ends (PlainFails v level) line (gs ++ fs) s)) (sym (levels_same s.functions line)) (raises_value gs a (place_at (levels_at s.functions line) level) v s)

  pub with_argument : {X : Type 0} (gs : List SFrame) → AllAway gs → (x : Argument X) (line : Option ℕ) (s : Slots) (go go' : X → Move) → ((y : X) → Like s (go y) (go' y)) → Like s (errors.with_argument x line (gs ++ hs) (erased s) go) (errors.with_argument x line (gs ++ fs) s go')
  with_argument gs a (Ok x) line s go go' q = q x
  with_argument gs a (Err message) line s go go' q = fails gs a line message s

  -- CALLS
  enter : (gs : List SFrame) → AllAway gs → (f : Value) (o : Option (Closed Proc)) (args : List Value) (line : Option ℕ) (s : Slots) → Like s (calls.enter f o args line (gs ++ hs) (erased s)) (calls.enter f o args line (gs ++ fs) s)
  enter gs a f None args line s = fails gs a line (cannot_call f) s
  enter gs a f (Some (FunctionClosed g)) args line s = like_starts gs (BodyS g args line) s tt a
  enter gs a f (Some (Iterator step cells)) args line s = like_starts gs (LibraryS step (f ∷ args) line) s tt a

  call_by : (gs : List SFrame) → AllAway gs → (h v : Value) (args : List Value) (line : Option ℕ) (s : Slots) → Like s (calls.call_by h v args line (gs ++ hs) (erased s)) (calls.call_by h v args line (gs ++ fs) s)
  call_by gs a h v args line s = both s (is_nil h) _ _ _ _ (fails gs a line (cannot_call v) s) (like_starts gs (CallLinkS h (v ∷ args) line) s tt a)

  pub call : (gs : List SFrame) → AllAway gs → (v : Value) (args : List Value) (line : Option ℕ) (s : Slots) → Like s (calls.call v args line (gs ++ hs) (erased s)) (calls.call v args line (gs ++ fs) s)
  call gs a (Closure x) args line s = enter gs a (Closure x) (closure_at s.heap x) args line s
  call gs a (Builtin x) args line s = like_starts gs (LibraryS x args line) s tt a
  call gs a (Table x) args line s = call_by gs a (handler s.heap (Table x) (codes "__call")) (Table x) args line s
  call gs a v args line s = fails gs a line (cannot_call v) s

  -- INDEXING
  index_by : (gs : List SFrame) → AllAway gs → (h o k : Value) (line : Option ℕ) (s : Slots) → Like s (indexing.index_by h o k line (gs ++ hs) (erased s)) (indexing.index_by h o k line (gs ++ fs) s)
  index_by gs a h o k line s = both s (is_nil h) _ _ _ _ (gives gs a (Nil ∷ []) s) (like_starts gs (IndexLinkS o h k line) s tt a)

  pub index_table : (gs : List SFrame) → AllAway gs → (t : ℕ) (k : Value) (line : Option ℕ) (s : Slots) → Like s (indexing.index_table t k line (gs ++ hs) (erased s)) (indexing.index_table t k line (gs ++ fs) s)
  index_table gs a t k line s =
      both s (is_nil (get (table_at s.heap t).entries k)) _ _ _ _ (index_by gs a (handler s.heap (Table t) (codes "__index")) (Table t) k line s) (gives gs a (get (table_at s.heap t).entries k ∷ []) s)

  pub index : (gs : List SFrame) → AllAway gs → (v k : Value) (line : Option ℕ) (s : Slots) → Like s (indexing.index v k line (gs ++ hs) (erased s)) (indexing.index v k line (gs ++ fs) s)
  index gs a (Table t) k line s = index_table gs a t k line s
  index gs a (Text x) k line s = index_table gs a s.strings k line s
  index gs a (Markup m) k line s = gives gs a _ s
  index gs a v k line s = fails gs a line _ s

  pub index_link : (gs : List SFrame) → AllAway gs → (o h k : Value) (line : Option ℕ) (s : Slots) → Like s (indexing.index_link o h k line (gs ++ hs) (erased s)) (indexing.index_link o h k line (gs ++ fs) s)
  index_link gs a o h k line s = both s (is_function h) _ _ _ _ (call gs a h (o ∷ k ∷ []) line s) (index gs a h k line s)

  put_entry : (gs : List SFrame) → AllAway gs → (t : ℕ) (k v : Value) (s : Slots) → Like s (indexing.put_entry t k v (gs ++ hs) (erased s)) (indexing.put_entry t k v (gs ++ fs) s)
  put_entry gs a t k v s = both s (has (table_at s.heap t).entries k || is_nil v) _ _ _ _ (gives gs a [] (indexing.with_entry t k v s)) (like_costs (gives gs a [] (indexing.with_entry t k v s)))

  pub set_entry : (gs : List SFrame) → AllAway gs → (t : ℕ) (k v : Value) (line : Option ℕ) (s : Slots) → Like s (indexing.set_entry t k v line (gs ++ hs) (erased s)) (indexing.set_entry t k v line (gs ++ fs) s)
  set_entry gs a t k v line s = both s (table_at s.heap t).frozen _ _ _ _ (fails gs a line read_only s) (both s (is_nil k) _ _ _ _ (fails gs a line nil_key s) (put_entry gs a t k v s))

  set_by : (gs : List SFrame) → AllAway gs → (h : Value) (t : ℕ) (k v : Value) (line : Option ℕ) (s : Slots) → Like s (indexing.set_by h t k v line (gs ++ hs) (erased s)) (indexing.set_by h t k v line (gs ++ fs) s)
  set_by gs a h t k v line s = both s (is_nil h) _ _ _ _ (set_entry gs a t k v line s) (like_starts gs (SetLinkS (Table t) h k v line) s tt a)

  set_table : (gs : List SFrame) → AllAway gs → (t : ℕ) (k v : Value) (line : Option ℕ) (s : Slots) → Like s (indexing.set_table t k v line (gs ++ hs) (erased s)) (indexing.set_table t k v line (gs ++ fs) s)
  set_table gs a t k v line s =
      both s (is_nil (get (table_at s.heap t).entries k)) _ _ _ _ (set_by gs a (handler s.heap (Table t) (codes "__newindex")) t k v line s) (set_entry gs a t k v line s)

  pub set_index : (gs : List SFrame) → AllAway gs → (o k v : Value) (line : Option ℕ) (s : Slots) → Like s (indexing.set_index o k v line (gs ++ hs) (erased s)) (indexing.set_index o k v line (gs ++ fs) s)
  set_index gs a (Table t) k v line s = set_table gs a t k v line s
  set_index gs a o k v line s = fails gs a line _ s

  pub set_link : (gs : List SFrame) → AllAway gs → (o h k v : Value) (line : Option ℕ) (s : Slots) → Like s (indexing.set_link o h k v line (gs ++ hs) (erased s)) (indexing.set_link o h k v line (gs ++ fs) s)
  set_link gs a o h k v line s = both s (is_function h) _ _ _ _ (call gs a h (o ∷ k ∷ v ∷ []) line s) (set_index gs a h k v line s)

-- OPERATORS give one value at once; or they call a handler, above a frame that makes one value
pub data Operates (fs : List SFrame) (regs : List Slot) (fns : List Activation) : Move → Move → Type 0 where
  one_value : (v : Value) (t : Slots) → Operates fs regs fns (Now (Gives (Goes (v ∷ [])) []) (erased (in_tree regs fns t))) (Now (Gives (Goes (v ∷ [])) fs) (in_tree regs fns t))
  an_error : (v : Value) (t : Slots) → Operates fs regs fns (Now (Gives (Jumps (Raised v)) []) (erased (in_tree regs fns t))) (Now (Gives (Jumps (Raised v)) fs) (in_tree regs fns t))
  value_costs : {n : ℕ} {m mv : Move} → Operates fs regs fns m mv → Operates fs regs fns (Costs n m) (Costs n mv)
  by_one : (h : SFrame) {m mv : Move} → IsOneFrame h → Likewise (h ∷ []) (h ∷ fs) regs fns m mv → Operates fs regs fns m mv

module _ (fs : List SFrame) where
  abbrev pub Oper : Slots → Move → Move → Type 0
  Oper s m mv = Operates fs s.regs s.functions m mv

  either_one : (s : Slots) (b : Bool) (x y x' y' : Move) → Oper s x x' → Oper s y y' → Oper s (errors.choose b x y) (errors.choose b x' y')
  either_one s true x y x' y' q r = q
  either_one s false x y x' y' q r = r

  one : (v : Value) (s : Slots) → Oper s (errors.gives (v ∷ []) [] (erased s)) (errors.gives (v ∷ []) fs s)
  one v s = one_value v s

  raises_one : (p : Option TextPlace) (t : Bytes) (s : Slots) → Oper s (errors.raises p t [] (erased s)) (errors.raises p t fs s)
  raises_one None t s = an_error (Text t) s
  raises_one (Some p) t s = value_costs (an_error _ s)

  fails_one : (line : Option ℕ) (t : Bytes) (s : Slots) → Oper s (errors.fails line t [] (erased s)) (errors.fails line t fs s)
  fails_one line t s =
      subst (λ (l : Levels). Oper s (errors.raises (nth_level l 1) t [] (erased s)) (errors.fails line t fs s)) (sym (levels_same s.functions line)) (raises_one (nth_level (levels_at s.functions line) 1) t s)

  calls_one : (h : SFrame) → IsOneFrame h → (f : Value) (args : List Value) (line : Option ℕ) (s : Slots) → Oper s (calls.call f args line (h ∷ []) (erased s)) (calls.call f args line (h ∷ fs) s)
  calls_one h i f args line s = by_one h i (call (h ∷ []) (h ∷ fs) [] tt f args line s)

  number_or_fail : (line : Option ℕ) (r : Result ℤ NumberFault) (s : Slots) → Oper s (operators.number_or_fail line r [] (erased s)) (operators.number_or_fail line r fs s)
  number_or_fail line (Ok n) s = one (Number n) s
  number_or_fail line (Err e) s = fails_one line _ s

  by_handler : (h a b : Value) (line : Option ℕ) (t : Bytes) (s : Slots) → Oper s (operators.by_handler h a b line t [] (erased s)) (operators.by_handler h a b line t fs s)
  by_handler h a b line t s = either_one s (is_nil h) _ _ _ _ (fails_one line t s) (calls_one First tt h (a ∷ b ∷ []) line s)

  by_either : (a b : Value) (name : Bytes) (line : Option ℕ) (t : Bytes) (s : Slots) → Oper s (operators.by_either a b name line t [] (erased s)) (operators.by_either a b name line t fs s)
  by_either a b name line t s = by_handler (either_handler s.heap a b name) a b line t s

  calculate : (o : Arithmetic) (a b : Value) (x y : Option ℤ) (line : Option ℕ) (s : Slots) → Oper s (operators.calculate o a b x y line [] (erased s)) (operators.calculate o a b x y line fs s)
  calculate o a b (Some x) (Some y) line s = number_or_fail line (result_of o x y) s
  calculate o a b (Some x) None line s = by_either a b (event o) line (cannot_calculate b) s
  calculate o a b None y line s = by_either a b (event o) line (cannot_calculate a) s

  negate : (a : Value) (x : Option ℤ) (line : Option ℕ) (s : Slots) → Oper s (operators.negate a x line [] (erased s)) (operators.negate a x line fs s)
  negate a (Some x) line s = number_or_fail line (negative_of x) s
  negate a None line s = by_either a a (codes "__unm") line (cannot_calculate a) s

  join_texts : (a b : Value) (x y : Option Bytes) (line : Option ℕ) (s : Slots) → Oper s (operators.join_texts a b x y line [] (erased s)) (operators.join_texts a b x y line fs s)
  join_texts a b (Some x) (Some y) line s = value_costs (one (Text (x ++ y)) s)
  join_texts a b (Some x) None line s = by_either a b (codes "__concat") line (cannot_concatenate b) s
  join_texts a b None y line s = by_either a b (codes "__concat") line (cannot_concatenate a) s

  length_of : (v : Value) (line : Option ℕ) (s : Slots) → Oper s (operators.length_of v line [] (erased s)) (operators.length_of v line fs s)
  length_of (Text t) line s = one _ s
  length_of (Table t) line s = one _ s
  length_of v line s = fails_one line _ s

  answers : (n b : Bool) (s : Slots) → Oper s (operators.answers n b [] (erased s)) (operators.answers n b fs s)
  answers n b s = one _ s

  truth_by : (n : Bool) (h a b : Value) (line : Option ℕ) (s : Slots) → Oper s (operators.truth_by n h a b line [] (erased s)) (operators.truth_by n h a b line fs s)
  truth_by n h a b line s = either_one s (is_nil h) _ _ _ _ (answers n false s) (calls_one (Verdict n) tt h (a ∷ b ∷ []) line s)

  equals : (n : Bool) (a b : Value) (line : Option ℕ) (s : Slots) → Oper s (operators.equals n a b line [] (erased s)) (operators.equals n a b line fs s)
  equals n a b line s = either_one s (same a b) _ _ _ _ (answers n true s) (truth_by n (common_handler s.heap a b (codes "__eq")) a b line s)

  less_by : (h a b : Value) (line : Option ℕ) (s : Slots) → Oper s (operators.less_by h a b line [] (erased s)) (operators.less_by h a b line fs s)
  less_by h a b line s = either_one s (is_nil h) _ _ _ _ (fails_one line (cannot_compare a b) s) (truth_by false h a b line s)

  less : (a b : Value) (line : Option ℕ) (s : Slots) → Oper s (operators.less a b line [] (erased s)) (operators.less a b line fs s)
  less (Number a) (Number b) line s = answers false _ s
  less (Text a) (Text b) line s = value_costs (answers false _ s)
  less a b line s = less_by (common_handler s.heap a b (codes "__lt")) a b line s

  not_less_by : (h a b : Value) (line : Option ℕ) (s : Slots) → Oper s (operators.not_less_by h a b line [] (erased s)) (operators.not_less_by h a b line fs s)
  not_less_by h a b line s = either_one s (is_nil h) _ _ _ _ (fails_one line (cannot_compare a b) s) (truth_by true h b a line s)

  at_most_by : (le lt a b : Value) (line : Option ℕ) (s : Slots) → Oper s (operators.at_most_by le lt a b line [] (erased s)) (operators.at_most_by le lt a b line fs s)
  at_most_by le lt a b line s = either_one s (is_nil le) _ _ _ _ (not_less_by lt a b line s) (truth_by false le a b line s)

  at_most : (a b : Value) (line : Option ℕ) (s : Slots) → Oper s (operators.at_most a b line [] (erased s)) (operators.at_most a b line fs s)
  at_most (Number a) (Number b) line s = answers false _ s
  at_most (Text a) (Text b) line s = value_costs (answers false _ s)
  at_most a b line s = at_most_by (common_handler s.heap a b (codes "__le")) (common_handler s.heap a b (codes "__lt")) a b line s

  pub operate : (o : Operator) (a b : Value) (line : Option ℕ) (s : Slots) → Oper s (operators.operate o a b line [] (erased s)) (operators.operate o a b line fs s)
  operate Less a b line s = less a b line s
  operate Greater a b line s = less b a line s
  operate AtMost a b line s = at_most a b line s
  operate AtLeast a b line s = at_most b a line s
  operate Equal a b line s = equals false a b line s
  operate Unequal a b line s = equals true a b line s
  operate Concatenate a b line s = join_texts a b (text_in a) (text_in b) line s
  operate (Calculate which) a b line s = calculate which a b (number_in a) (number_in b) line s

  pub apply : (o : UnaryOp) (v : Value) (line : Option ℕ) (s : Slots) → Oper s (operators.apply o v line [] (erased s)) (operators.apply o v line fs s)
  apply sign.Not v line s = answers true _ s
  apply sign.Len v line s = length_of v line s
  apply sign.Minus v line s = negate v (number_in v) line s
