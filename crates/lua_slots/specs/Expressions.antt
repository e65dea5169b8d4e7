-- EXPRESSIONS (manual 2.5). Each begins with its node; operands are evaluated from left to right.
use Rattle.std.specs.Prelude.{ℕ, ◌+◌, pos, Bool, true, false, not, List, [], ◌∷◌, ◌++◌, length, Some}
use Rattle.lua_meaning.specs.LuaHeapValue.{Value, Number, Text, Table, is_true}
use Rattle.lua_meaning.specs.LuaHeapHeap.{new_table}
use Rattle.lua_meaning.specs.Charges.{table_charge, closure_charge}
use Rattle.lua_meaning.specs.Values.{first}
use Rattle.lua_slots.specs.Code.{Constants, CExp, ConstantC, TextC, DotsC, FunctionC, LocalC, GlobalC, IndexC, CallC, MethodC, TableC, AndC, OrC, OperateC, UnaryC, ParenC, CExps, NoC, MoreC, CFields, NoFieldC, ItemC, PairC}
use Rattle.lua_slots.specs.Slots.{Slots, function_of, read_place, proc_of, with_closure, next_closure, with_heap}
use Rattle.lua_slots.specs.Points.{SFrame, First, KeyNext, DecideNext, OperandNext, UnaryNow, ArgumentsNext, MethodNext, MoreNext, ItemNow, PairNext, FieldsNext, ItemsNext, Evals, Lists, Move, Costs, Now}
use Rattle.lua_slots.specs.Errors.{node, choose, gives}
use Rattle.lua_slots.specs.Index.{index_table, set_entry}

-- LISTS (2.5): the last expression gives all its values, each other one gives one
abbrev pub lists : CExps → List Value → List SFrame → Slots → Move
lists NoC before fs s = gives before fs s
lists (MoreC e es) before fs s = Now (Evals e (MoreNext es before ∷ fs)) s

abbrev pub more_values : CExps → List Value → List Value → List SFrame → Slots → Move
more_values NoC before vs fs s = gives (before ++ vs) fs s
more_values (MoreC e es) before vs fs s = Now (Lists (MoreC e es) (before ++ first vs ∷ []) fs) s

-- TABLE CONSTRUCTORS (2.5.7): a table that is there gets the fields in order, without metamethods; the next item has place n
abbrev pub fields : ℕ → ℕ → CFields → ℕ → List SFrame → Slots → Move
fields t n NoFieldC line fs s = gives (Table t ∷ []) fs s
fields t n (ItemC e more) line fs s = Now (Evals e (ItemNow t n more line ∷ fs)) s
fields t n (PairC key e more) line fs s = Now (Evals key (PairNext t n e more line ∷ fs)) s

-- the values of the last item, one after another
abbrev pub items : ℕ → ℕ → List Value → ℕ → List SFrame → Slots → Move
items t n [] line fs s = gives (Table t ∷ []) fs s
items t n (v ∷ vs) line fs s = set_entry t (Number (pos n)) v (Some line) (ItemsNext t (n + 1) vs line ∷ fs) s

abbrev pub item : ℕ → ℕ → CFields → List Value → ℕ → List SFrame → Slots → Move
item t n NoFieldC vs line fs s = items t n vs line fs s
item t n more vs line fs s = set_entry t (Number (pos n)) (first vs) (Some line) (FieldsNext t (n + 1) more line ∷ fs) s

abbrev pub with_table : Slots → Slots
with_table s = with_heap (new_table s.heap).0 s

-- a new table costs 8 steps, and so does a new closure; `...` costs a step for each of its values. Texts and names are found among the
-- constants of the running function's module.
abbrev pub evals : Constants → CExp → List SFrame → Slots → Move
evals constants (ConstantC v) fs s = node (gives (v ∷ []) fs s)
evals constants (TextC n) fs s = node (gives (Text (constants n) ∷ []) fs s)
evals constants DotsC fs s = node (Costs (length (function_of s).dots) (gives (function_of s).dots fs s))
evals constants (FunctionC index places) fs s = node (Costs closure_charge (gives (next_closure s ∷ []) fs (with_closure (proc_of index places s) s)))
evals constants (LocalC p) fs s = node (gives (read_place s p ∷ []) fs s)
evals constants (GlobalC x line) fs s = node (index_table s.globals (Text (constants x)) (Some line) (First ∷ fs) s)
evals constants (IndexC of key line) fs s = node (Now (Evals of (KeyNext key line ∷ fs)) s)
evals constants (CallC f args line) fs s = node (Now (Evals f (ArgumentsNext args line ∷ fs)) s)
evals constants (MethodC of x args line) fs s = node (Now (Evals of (MethodNext (constants x) args line ∷ fs)) s)
evals constants (TableC cs line) fs s = node (Costs table_charge (fields (new_table s.heap).1 1 cs line fs (with_table s)))
evals constants (AndC a b) fs s = node (Now (Evals a (DecideNext false b ∷ fs)) s)
evals constants (OrC a b) fs s = node (Now (Evals a (DecideNext true b ∷ fs)) s)
evals constants (OperateC o a b line) fs s = node (Now (Evals a (OperandNext o b line ∷ fs)) s)
evals constants (UnaryC o a line) fs s = node (Now (Evals a (UnaryNow o line ∷ fs)) s)
evals constants (ParenC a) fs s = node (Now (Evals a (First ∷ fs)) s)

-- `and` and `or` give an operand: the first where it decides, by being false or true (2.5.3)
abbrev pub decides : Bool → Bool → Bool
decides true b = b
decides false b = not b

abbrev pub choose_operand : Bool → CExp → Value → List SFrame → Slots → Move
choose_operand deciding b v fs s = choose (decides deciding (is_true v)) (gives (v ∷ []) fs s) (Now (Evals b (First ∷ fs)) s)
