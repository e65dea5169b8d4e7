-- WHAT WAITS WITHIN EXPRESSIONS: code that goes on from a place, with what is owed there, does what these frames of the machine over trees
-- do. One constructor for each frame, or for an operation that hands a value on to the same frames; the last ones wait between statements.
use Rattle.std.specs.Prelude.{◌≡◌, ◌≤◌, ◌<◌, ℕ, ◌+◌, pos, Bool, true, false, List, [], ◌∷◌, ◌++◌, length, take, Option, Some, slice_get}
use Rattle.lua_slots.specs.LuaSyntaxDeclaredUnaryOp.{UnaryOp}
use Rattle.lua_slots.specs.LuaSyntaxDeclaredUnaryOpTheVariants as sign
use Rattle.lua_slots.specs.LuaHeapValue.{Value, Number, Table}
use Rattle.lua_slots.specs.LuaMeaningOperators.{Operator}
use Rattle.lua_slots.specs.Code.{Reg, Constants, CExp, CExps, NoC, MoreC, CFields, NoFieldC}
use Rattle.lua_slots.specs.Points.{STarget, PlaceS, SFrame, First, KeyNext, IndexNow, DecideNext, OperandNext, OperateNow, UnaryNow, ArgumentsNext, CallNow, MethodNext, MethodNow, MoreNext, ItemNow, PairNext, PairNow, FieldsNext, ItemsNext, AssignNow}
use Rattle.lua_flat.specs.Locals.{Local, PlainL}
use Rattle.lua_flat.specs.Operations.{Operand, RegisterO, ConstantO, Wanted, Exactly, Every, FlatFunction}
use Rattle.lua_flat.specs.Operations.{NilsF, IndexF, MethodF, SetFieldF, SetItemsF, OperateF, UnaryF, TestF, CompareF, CallF}
use Rattle.lua_flat.specs.IsExpression.{Has, HasAt, one_more, is_comparison, IsOperand, IsValue, IsRow, IsFields, IsExact, IsTest}
use Rattle.lua_flat.specs.IsStatement.{FlatTarget, IsSetting}
use Rattle.lua_flat.specs.Keeps.{Keeps, IsBelow, Bounded, Tidy, in_row}
use Rattle.lua_flat.specs.WaitsStatement.{IsFound, Resumes, StatTakes, StatWaits, StatRow, StatExact}

-- where a test goes on that jumps to the target at this truth, and else to the next place
pub data IsFork : (when : Bool) (next target hit miss : ℕ) → Type 0 where
  to_miss : {next target : ℕ} → IsFork false next target next target
  to_hit : {next target : ℕ} → IsFork true next target target next

abbrev pub counted_from : ℕ → Wanted → Wanted
counted_from n (Exactly m) = Exactly (n + m)
counted_from n Every = Every

-- the last item of a constructor gives all its values: here it gives one
abbrev pub IsItem : CFields → Bool → Type 0
IsItem NoFieldC single = single ≡ true
IsItem more single = Unit {0}

module _ (cs : Constants) (g : FlatFunction) (under : ℕ) (beneath : List SFrame) where
  mutual
    -- A VALUE, where operand o reads it: the first one; or the only one, where it is `single`
    pub data Waits : (single : Bool) (locals : List Local) (low : ℕ) (keeps : Keeps) (pc c : ℕ) (o : Operand) (fs : List SFrame) → Type 0 where
      wait_first : {single one : Bool} {locals : List Local} {low : ℕ} {keeps : Keeps} {pc c : ℕ} {o : Operand} {fs : List SFrame} → Waits one locals low keeps pc c o fs → Waits single locals low keeps pc c o (First ∷ fs)
      -- an index: its key follows; it is there
      wait_key : {one : Bool} {single : Bool} {locals : List Local} {low : ℕ} {keeps : Keeps} {pc c : ℕ} {a : Operand} {fs : List SFrame} {key : CExp} {line free c' pc' free' to : ℕ} {b : Operand} → low ≤ free → IsBelow free a → IsOperand g locals false free key c b pc c' pc' free'
          → HasAt g pc' c' line (IndexF to a b) → Lands true one locals low keeps (pc' + 1) to fs → Waits single locals low keeps pc c a (KeyNext key line ∷ fs)
      wait_index : {one : Bool} {single : Bool} {locals : List Local} {low low' : ℕ} {keeps : Keeps} {pc c line to : ℕ} {a b : Operand} {u : Value} {fs : List SFrame} → low' ≤ low → Bounded low' locals keeps → HasAt g pc c line (IndexF to a b) → Lands true one locals low' keeps (pc + 1) to fs
          → Waits single locals low ((a, u) ∷ keeps) pc c b (IndexNow u line ∷ fs)
      -- operands of an operator
      wait_operand : {one : Bool} {single : Bool} {locals : List Local} {low : ℕ} {keeps : Keeps} {pc c : ℕ} {a : Operand} {fs : List SFrame} {op : Operator} {y : CExp} {line free c' pc' free' to : ℕ} {b : Operand} → low ≤ free → IsBelow free a → IsOperand g locals false free y c b pc c' pc' free'
          → HasAt g pc' c' line (OperateF op to a b) → Lands true one locals low keeps (pc' + 1) to fs → Waits single locals low keeps pc c a (OperandNext op y line ∷ fs)
      wait_operate : {one : Bool} {single : Bool} {locals : List Local} {low low' : ℕ} {keeps : Keeps} {pc c line to : ℕ} {a b : Operand} {op : Operator} {u : Value} {fs : List SFrame} → low' ≤ low → Bounded low' locals keeps → HasAt g pc c line (OperateF op to a b) → Lands true one locals low' keeps (pc + 1) to fs
          → Waits single locals low ((a, u) ∷ keeps) pc c b (OperateNow op u line ∷ fs)
      wait_unary : {one : Bool} {single : Bool} {locals : List Local} {low : ℕ} {keeps : Keeps} {pc c line to : ℕ} {a : Operand} {op : UnaryOp} {fs : List SFrame} → HasAt g pc c line (UnaryF op to a) → Lands true one locals low keeps (pc + 1) to fs → Waits single locals low keeps pc c a (UnaryNow op line ∷ fs)
      -- the first operand of `and` and `or`, which stays where it decides
      wait_and : {single one : Bool} {locals : List Local} {low : ℕ} {keeps : Keeps} {pc c free to end : ℕ} {y : CExp} {fs : List SFrame} → low ≤ free → low ≤ to → Has g pc c (TestF false (RegisterO to) end) → IsValue g locals false free y 0 to (pc + 1) end → Waits one locals low keeps end 0 (RegisterO to) fs
          → Waits single locals low keeps pc c (RegisterO to) (DecideNext false y ∷ fs)
      wait_or : {single one : Bool} {locals : List Local} {low : ℕ} {keeps : Keeps} {pc c free to end : ℕ} {y : CExp} {fs : List SFrame} → low ≤ free → low ≤ to → Has g pc c (TestF true (RegisterO to) end) → IsValue g locals false free y 0 to (pc + 1) end → Waits one locals low keeps end 0 (RegisterO to) fs
          → Waits single locals low keeps pc c (RegisterO to) (DecideNext true y ∷ fs)
      -- operands of a comparison that is a test; a value that is
      wait_compared : {single when : Bool} {locals : List Local} {low : ℕ} {keeps : Keeps} {pc c : ℕ} {a : Operand} {fs : List SFrame} {op : Operator} {y : CExp} {line free c' pc' free' target hit miss : ℕ} {b : Operand} → low ≤ free → IsBelow free a → is_comparison op ≡ true
          → IsOperand g locals false free y c b pc c' pc' free' → HasAt g pc' c' line (CompareF op a b when target) → IsFork when (pc' + 1) target hit miss → Takes locals low keeps hit 0 miss 0 fs → Waits single locals low keeps pc c a (OperandNext op y line ∷ fs)
      wait_compare : {single when : Bool} {locals : List Local} {low low' : ℕ} {keeps : Keeps} {pc c line target hit miss : ℕ} {a b : Operand} {op : Operator} {u : Value} {fs : List SFrame} → low' ≤ low → Bounded low' locals keeps → is_comparison op ≡ true
          → HasAt g pc c line (CompareF op a b when target) → IsFork when (pc + 1) target hit miss → Takes locals low' keeps hit 0 miss 0 fs → Waits single locals low ((a, u) ∷ keeps) pc c b (OperateNow op u line ∷ fs)
      wait_test : {single when : Bool} {locals : List Local} {low : ℕ} {keeps : Keeps} {pc c target hit miss : ℕ} {a : Operand} {fs : List SFrame} → Has g pc c (TestF when a target) → IsFork when (pc + 1) target hit miss → Takes locals low keeps hit 0 miss 0 fs → Waits single locals low keeps pc c a fs
      -- a call: the function is there, and its arguments follow; an object is, whose function is found; and that function is
      wait_arguments : {single : Bool} {locals : List Local} {low : ℕ} {keeps : Keeps} {pc c q line c' pc' to : ℕ} {es : CExps} {arguments wanted : Wanted} {fs : List SFrame} → low ≤ q → q < g.registers → IsRow g locals (q + 1) es c pc c' pc' arguments
          → HasAt g pc' c' line (CallF to q arguments wanted) → LandsMany wanted locals low keeps (pc' + 1) to fs → Waits single locals low keeps pc c (RegisterO q) (ArgumentsNext es line ∷ fs)
      wait_object : {single : Bool} {locals : List Local} {low : ℕ} {keeps : Keeps} {pc c q x line c' pc' to : ℕ} {a : Operand} {es : CExps} {arguments wanted : Wanted} {fs : List SFrame} → low ≤ q → q + 1 < g.registers → HasAt g pc c line (MethodF q a x) → IsRow g locals (q + 2) es 0 (pc + 1) c' pc' arguments
          → HasAt g pc' c' line (CallF to q (one_more arguments) wanted) → LandsMany wanted locals low keeps (pc' + 1) to fs → Waits single locals low keeps pc c a (MethodNext (cs x) es line ∷ fs)
      wait_method : {single : Bool} {locals : List Local} {low low' : ℕ} {keeps : Keeps} {pc q line c' pc' to : ℕ} {object : Value} {es : CExps} {arguments wanted : Wanted} {fs : List SFrame} → low' ≤ q → q + 1 < low → q + 1 < g.registers → Bounded low' locals keeps → IsRow g locals (q + 2) es 0 pc c' pc' arguments
          → HasAt g pc' c' line (CallF to q (one_more arguments) wanted) → LandsMany wanted locals low' keeps (pc' + 1) to fs → Waits single locals low ((RegisterO (q + 1), object) ∷ keeps) pc 0 (RegisterO q) (MethodNow object es line ∷ fs)
      -- a list with all its values: others follow; this was the last one
      wait_more : {single : Bool} {locals : List Local} {low low' : ℕ} {keeps : Keeps} {r c' pc pc' : ℕ} {e : CExp} {es : CExps} {before : List Value} {count : Wanted} {fs : List SFrame} → low' ≤ low → low ≤ r + length before → Bounded low' locals keeps
          → IsRow g locals (r + length before + 1) (MoreC e es) 0 pc c' pc' count → RowWaits locals low' keeps pc' c' r (counted_from (length before + 1) count) fs → Waits single locals low (in_row r before keeps) pc 0 (RegisterO (r + length before)) (MoreNext (MoreC e es) before ∷ fs)
      wait_last : {locals : List Local} {low low' : ℕ} {keeps : Keeps} {r pc : ℕ} {before : List Value} {fs : List SFrame} → low' ≤ low → low ≤ r + length before → Bounded low' locals keeps → RowWaits locals low' keeps pc 0 r (Exactly (length before + 1)) fs
          → Waits true locals low (in_row r before keeps) pc 0 (RegisterO (r + length before)) (MoreNext NoC before ∷ fs)
      -- a list that is adjusted to n values: others follow; this was the last one, and nils may be missing; a value that is not wanted
      exact_goes_on : {single : Bool} {locals : List Local} {low low' : ℕ} {keeps : Keeps} {r n c' pc pc' : ℕ} {e : CExp} {es : CExps} {before : List Value} {fs : List SFrame} → low' ≤ low → low ≤ r + length before → Bounded low' locals keeps → IsExact g locals (r + length before + 1) (MoreC e es) n 0 pc c' pc'
          → StatExact cs g under beneath locals low' keeps pc' c' r (length before + 1 + n) fs → Waits single locals low (in_row r before keeps) pc 0 (RegisterO (r + length before)) (MoreNext (MoreC e es) before ∷ fs)
      exact_ends : {locals : List Local} {low low' : ℕ} {keeps : Keeps} {r pc : ℕ} {before : List Value} {fs : List SFrame} → low' ≤ low → low ≤ r + length before → Bounded low' locals keeps → StatExact cs g under beneath locals low' keeps pc 0 r (length before + 1) fs
          → Waits true locals low (in_row r before keeps) pc 0 (RegisterO (r + length before)) (MoreNext NoC before ∷ fs)
      exact_adds : {locals : List Local} {low low' : ℕ} {keeps : Keeps} {r n pc : ℕ} {before : List Value} {fs : List SFrame} → low' ≤ low → low ≤ r + length before → Bounded low' locals keeps → Has g pc 0 (NilsF (r + length before + 1) n) → StatExact cs g under beneath locals low' keeps (pc + 1) 0 r (length before + 1 + n) fs
          → Waits true locals low (in_row r before keeps) pc 0 (RegisterO (r + length before)) (MoreNext NoC before ∷ fs)
      exact_drops : {single : Bool} {locals : List Local} {low low' : ℕ} {keeps : Keeps} {r n c' pc pc' : ℕ} {e : CExp} {es : CExps} {before : List Value} {fs : List SFrame} → low' ≤ low → low ≤ r + n → n ≤ length before → Bounded low' locals keeps → IsExact g locals (r + n) (MoreC e es) 0 0 pc c' pc'
          → StatExact cs g under beneath locals low' keeps pc' c' r n fs → Waits single locals low (in_row r (take n before) keeps) pc 0 (RegisterO (r + n)) (MoreNext (MoreC e es) before ∷ fs)
      exact_drops_last : {single : Bool} {locals : List Local} {low low' : ℕ} {keeps : Keeps} {r n pc : ℕ} {before : List Value} {fs : List SFrame} → low' ≤ low → low ≤ r + n → n ≤ length before → Bounded low' locals keeps → StatExact cs g under beneath locals low' keeps pc 0 r n fs
          → Waits single locals low (in_row r (take n before) keeps) pc 0 (RegisterO (r + n)) (MoreNext NoC before ∷ fs)
      -- constructors: an item; the key of a pair; its value
      wait_item : {single one : Bool} {locals : List Local} {low low' : ℕ} {keeps : Keeps} {pc c t table n line free end : ℕ} {a : Operand} {more : CFields} {fs : List SFrame} → low' ≤ table → table < low → table < free → IsItem more single → Bounded low' locals keeps → HasAt g pc c line (SetFieldF table (ConstantO (Number (pos n))) a)
          → IsFields g locals free more table (n + 1) line (pc + 1) end → Waits one locals low' keeps end 0 (RegisterO table) fs → Waits single locals low ((RegisterO table, Table t) ∷ keeps) pc c a (ItemNow t n more line ∷ fs)
      wait_pair_key : {single one : Bool} {locals : List Local} {low low' : ℕ} {keeps : Keeps} {pc c t table n line free fields c' pc' free' end : ℕ} {a b : Operand} {e : CExp} {more : CFields} {fs : List SFrame} → low' ≤ table → table < low → low ≤ free → table < fields → IsBelow free a → Bounded low' locals keeps
          → IsOperand g locals false free e c b pc c' pc' free' → HasAt g pc' c' line (SetFieldF table a b) → IsFields g locals fields more table n line (pc' + 1) end → Waits one locals low' keeps end 0 (RegisterO table) fs
          → Waits single locals low ((RegisterO table, Table t) ∷ keeps) pc c a (PairNext t n e more line ∷ fs)
      wait_pair : {single one : Bool} {locals : List Local} {low low' : ℕ} {keeps : Keeps} {pc c t table n line free end : ℕ} {a b : Operand} {key : Value} {more : CFields} {fs : List SFrame} → low' ≤ table → table < low → table < free → Bounded low' locals keeps → HasAt g pc c line (SetFieldF table a b)
          → IsFields g locals free more table n line (pc + 1) end → Waits one locals low' keeps end 0 (RegisterO table) fs → Waits single locals low ((a, key) ∷ (RegisterO table, Table t) ∷ keeps) pc c b (PairNow t n key more line ∷ fs)
      -- an assignment to one variable; and what waits between statements
      wait_assign : {single : Bool} {away : Option ℕ} {locals : List Local} {low low' : ℕ} {k keeps : Keeps} {pc c : ℕ} {a : Operand} {t : STarget} {u : FlatTarget} {fs : List SFrame} → low' ≤ low → Tidy low' locals keeps → IsFound cs g locals t u k → IsSetting g u a c pc → Resumes cs g under beneath away locals low' keeps (pc + 1) 0 fs
          → Waits single locals low (k ++ keeps) pc c a (MoreNext NoC [] ∷ AssignNow (t ∷ []) ∷ fs)
      wait_stat : {single : Bool} {locals : List Local} {low : ℕ} {keeps : Keeps} {pc c : ℕ} {a : Operand} {fs : List SFrame} → StatWaits cs g under beneath locals low keeps pc c a fs → Waits single locals low keeps pc c a fs

    -- A VALUE lands in a register from where it is taken; or in that of a plain variable, to which it is assigned, where the last operation alone
    -- writes it
    pub data Lands : (last single : Bool) (locals : List Local) (low : ℕ) (keeps : Keeps) (pc to : ℕ) (fs : List SFrame) → Type 0 where
      in_register : {last single : Bool} {locals : List Local} {low : ℕ} {keeps : Keeps} {pc to : ℕ} {fs : List SFrame} → low ≤ to → Waits single locals low keeps pc 0 (RegisterO to) fs → Lands last single locals low keeps pc to fs
      in_variable : {single : Bool} {away : Option ℕ} {locals : List Local} {low i : ℕ} {keeps : Keeps} {pc to : ℕ} {fs : List SFrame} → Tidy low locals keeps → slice_get locals i ≡ Some (PlainL to) → Resumes cs g under beneath away locals low keeps pc 0 fs
          → Lands true single locals low keeps pc to (MoreNext NoC [] ∷ AssignNow (PlaceS (Reg i) ∷ []) ∷ fs)

    -- SEVERAL VALUES land in registers in a row
    pub data LandsMany : (wanted : Wanted) (locals : List Local) (low : ℕ) (keeps : Keeps) (pc to : ℕ) (fs : List SFrame) → Type 0 where
      land_first : {locals : List Local} {low : ℕ} {keeps : Keeps} {pc to : ℕ} {fs : List SFrame} → Lands true false locals low keeps pc to fs → LandsMany (Exactly 1) locals low keeps pc to fs
      land_nothing : {away : Option ℕ} {locals : List Local} {low : ℕ} {keeps : Keeps} {pc to : ℕ} {fs : List SFrame} → Resumes cs g under beneath away locals low keeps pc 0 fs → LandsMany (Exactly 0) locals low keeps pc to fs
      land_row : {locals : List Local} {low low' r : ℕ} {keeps : Keeps} {pc : ℕ} {before : List Value} {fs : List SFrame} → low' ≤ low → low ≤ r + length before → Bounded low' locals keeps → RowWaits locals low' keeps pc 0 r Every fs
          → LandsMany Every locals low (in_row r before keeps) pc (r + length before) (MoreNext NoC before ∷ fs)
      land_exact : {locals : List Local} {low low' r n : ℕ} {keeps : Keeps} {pc : ℕ} {before : List Value} {fs : List SFrame} → low' ≤ low → low ≤ r + length before → Bounded low' locals keeps → StatExact cs g under beneath locals low' keeps pc 0 r (length before + n) fs
          → LandsMany (Exactly n) locals low (in_row r before keeps) pc (r + length before) (MoreNext NoC before ∷ fs)
      -- nothing is wanted behind the first m of those before
      land_dropped : {locals : List Local} {low low' r m : ℕ} {keeps : Keeps} {pc to : ℕ} {before : List Value} {fs : List SFrame} → low' ≤ low → m ≤ length before → Bounded low' locals keeps → StatExact cs g under beneath locals low' keeps pc 0 r m fs
          → LandsMany (Exactly 0) locals low (in_row r (take m before) keeps) pc to (MoreNext NoC before ∷ fs)
      land_all : {locals : List Local} {low : ℕ} {keeps : Keeps} {pc to : ℕ} {fs : List SFrame} → low ≤ to → RowWaits locals low keeps pc 0 to Every fs → LandsMany Every locals low keeps pc to fs

    -- A LIST WITH ALL ITS VALUES, in registers from r on: exactly so many, or up to the top
    pub data RowWaits : (locals : List Local) (low : ℕ) (keeps : Keeps) (pc c r : ℕ) (count : Wanted) (fs : List SFrame) → Type 0 where
      row_call : {locals : List Local} {low low' : ℕ} {keeps : Keeps} {pc c q line to : ℕ} {f : Value} {count wanted : Wanted} {fs : List SFrame} → low' ≤ q → q < low → Bounded low' locals keeps → HasAt g pc c line (CallF to q count wanted) → LandsMany wanted locals low' keeps (pc + 1) to fs
          → RowWaits locals low ((RegisterO q, f) ∷ keeps) pc c (q + 1) count (CallNow f line ∷ fs)
      -- the last item of a constructor
      row_items : {one : Bool} {locals : List Local} {low low' : ℕ} {keeps : Keeps} {pc c t table n line from : ℕ} {fs : List SFrame} → low' ≤ table → table < low → Bounded low' locals keeps → HasAt g pc c line (SetItemsF table n from) → Waits one locals low' keeps (pc + 1) 0 (RegisterO table) fs
          → RowWaits locals low ((RegisterO table, Table t) ∷ keeps) pc c from Every (ItemNow t n NoFieldC line ∷ fs)
      row_stat : {locals : List Local} {low : ℕ} {keeps : Keeps} {pc c r : ℕ} {count : Wanted} {fs : List SFrame} → StatRow cs g under beneath locals low keeps pc c r count fs → RowWaits locals low keeps pc c r count fs

    -- A TRUTH: code at `hit` does what these frames do with a true value, and code at `miss` what they do with a false one
    pub data Takes : (locals : List Local) (low : ℕ) (keeps : Keeps) (hit ch miss cm : ℕ) (fs : List SFrame) → Type 0 where
      take_first : {locals : List Local} {low : ℕ} {keeps : Keeps} {hit ch miss cm : ℕ} {fs : List SFrame} → Takes locals low keeps hit ch miss cm fs → Takes locals low keeps hit ch miss cm (First ∷ fs)
      take_not : {locals : List Local} {low : ℕ} {keeps : Keeps} {hit ch miss cm line : ℕ} {fs : List SFrame} → Takes locals low keeps miss cm hit ch fs → Takes locals low keeps hit ch miss cm (UnaryNow sign.Not line ∷ fs)
      take_and : {locals : List Local} {low : ℕ} {keeps : Keeps} {hit ch miss cm free hit' ch' : ℕ} {y : CExp} {fs : List SFrame} → low ≤ free → IsTest g locals free y ch hit hit' ch' miss cm → Takes locals low keeps hit' ch' miss cm fs → Takes locals low keeps hit ch miss cm (DecideNext false y ∷ fs)
      take_or : {locals : List Local} {low : ℕ} {keeps : Keeps} {hit ch miss cm free miss' cm' : ℕ} {y : CExp} {fs : List SFrame} → low ≤ free → IsTest g locals free y cm miss hit ch miss' cm' → Takes locals low keeps hit ch miss' cm' fs → Takes locals low keeps hit ch miss cm (DecideNext true y ∷ fs)
      take_stat : {locals : List Local} {low : ℕ} {keeps : Keeps} {hit ch miss cm : ℕ} {fs : List SFrame} → StatTakes cs g under beneath locals low keeps hit ch miss cm fs → Takes locals low keeps hit ch miss cm fs

  -- A FIELD OF A CONSTRUCTOR that was set: others follow
  pub data FieldWaits : (locals : List Local) (low : ℕ) (keeps : Keeps) (pc : ℕ) (fs : List SFrame) → Type 0 where
    field_next : {one : Bool} {locals : List Local} {low low' : ℕ} {keeps : Keeps} {pc t table n line free end : ℕ} {more : CFields} {fs : List SFrame} → low' ≤ table → table < low → table < free → Bounded low' locals keeps → IsFields g locals free more table n line pc end → Waits one locals low' keeps end 0 (RegisterO table) fs
        → FieldWaits locals low ((RegisterO table, Table t) ∷ keeps) pc (FieldsNext t n more line ∷ fs)
    -- the last item's values, one after another, of which none is left
    field_last : {one : Bool} {locals : List Local} {low low' : ℕ} {keeps : Keeps} {pc t table n line : ℕ} {fs : List SFrame} → low' ≤ table → table < low → Bounded low' locals keeps → Waits one locals low' keeps pc 0 (RegisterO table) fs
        → FieldWaits locals low ((RegisterO table, Table t) ∷ keeps) pc (ItemsNext t n [] line ∷ fs)
