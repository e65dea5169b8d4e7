-- Each mark of a move stands behind a charge of its own: so no move marks more than it costs.
use Rattle.std.proofs.Common.{◌≡◌, ℕ, ◌+◌, ◌-◌, ◌≤◌, Bool, List, [], ◌∷◌, Option, Some, None, refl, arith}
use Rattle.std.specs.Prelude.{ℤ, pos, ◌+ℤ◌}
use Rattle.lua_meaning.specs.PageRunOutcome.{Goes, Jumps}
use Rattle.lua_meaning.specs.LuaNumberWhole.{fits}
use Rattle.lua_meaning.specs.LuaHeapProc.{Proc}
use Rattle.lua_meaning.specs.LuaHeapHeap.{new_table}
use Rattle.lua_meaning.specs.LuaHeapValue.{Value, Number, Text, Table, is_true, is_nil}
use Rattle.lua_meaning.specs.Values.{first, second, third, number_in, text_in}
use Rattle.lua_meaning.specs.Acts.{Jump, Broke}
use Rattle.lua_meaning.specs.Loops.{is_within}
use Rattle.lua_meaning.specs.Libraries.{form}
use Rattle.lua_slots.specs.Code.{Constants, CExp, ConstantC, TextC, DotsC, FunctionC, LocalC, GlobalC, IndexC, CallC, MethodC, TableC, AndC, OrC, OperateC, UnaryC, ParenC}
use Rattle.lua_slots.specs.Code.{CExps, NoC, MoreC, CFields, NoFieldC, ItemC, PairC, PlaceC, GlobalTargetC, EntryC, RefusedC}
use Rattle.lua_slots.specs.Code.{CStat, AssignC, CallStatC, DoC, WhileC, RepeatC, IfC, IfElseC, CountC, CountByC, EachC, ReturnC, BreakC, CBlock, EndC, DeclareC, LocalFunctionC, ThenC, CArms, NoArmC, ArmC, CProto, CWorld}
use Rattle.lua_slots.specs.Slots.{Slots, cut}
use Rattle.lua_slots.specs.Points.{STarget, PlaceS, GlobalS, EntryS, SThing, WhileTurnS, RepeatTurnS, CountTurnS, EachTurnS, BodyS, LibraryS, IndexLinkS, SetLinkS, CallLinkS}
use Rattle.lua_slots.specs.Points.{SFrame, First, Verdict, KeyNext, IndexNow, DecideNext, OperandNext, OperateNow, UnaryNow, ArgumentsNext, CallNow, MethodNext, MethodNow, MoreNext, ItemNow, PairNext, PairNow, FieldsNext, ItemsNext, TargetKey, TargetNow, AssignNow, SetsNext, DeclareNow, StatsNext, BranchNext, BlockEnd, BodyEnd, LibraryEnd, WhileTest, WhileEnd, TestNext, TestNow, CountFrom, CountTo, CountBy, CountEnd, EachValues, EachNext, EachEnd, ReturnNow, Waits, Hears, ModuleFound, FunctionFound, AnswerNow, TextNow, DataNow}
use Rattle.lua_slots.specs.Points.{Gives, Evals, Lists, Finds, Sets, Runs, Starts, Texts, Asking, Works, Move, Costs, Marks, Enters, Exits, Now}
use Rattle.lua_slots.specs.Errors as errors
use Rattle.lua_slots.specs.Calls as calls
use Rattle.lua_slots.specs.Expressions as expressions
use Rattle.lua_slots.specs.Statements as statements
use Rattle.lua_slots.specs.Loops as loops
use Rattle.lua_slots.specs.Libraries as libraries
use Rattle.lua_slots.specs.Moves as to
use Rattle.lua_slots.specs.Laws.{costs_of, marks_of, MarksArePaid, IsAhead, ChargesComeFirst}
use Rattle.lua_slots.proofs.QuietValues.{IsQuiet, still, both, fails, call, after_body, index_table, index, index_link, set_entry, set_index, set_link, operate, apply}
use Rattle.lua_slots.proofs.QuietLibrary.{does, resumes, hears, texts, text_given, invoke_in, invoke_function, works}

-- EXPRESSIONS
more_values : (es : CExps) (before vs : List Value) (fs : List SFrame) (s : Slots) → IsQuiet (expressions.more_values es before vs fs s)
more_values NoC before vs fs s = still refl
more_values (MoreC e es) before vs fs s = still refl

fields : (t n : ℕ) (cs : CFields) (line : ℕ) (fs : List SFrame) (s : Slots) → IsQuiet (expressions.fields t n cs line fs s)
fields t n NoFieldC line fs s = still refl
fields t n (ItemC e more) line fs s = still refl
fields t n (PairC key e more) line fs s = still refl

items : (t n : ℕ) (vs : List Value) (line : ℕ) (fs : List SFrame) (s : Slots) → IsQuiet (expressions.items t n vs line fs s)
items t n [] line fs s = still refl
items t n (v ∷ vs) line fs s = set_entry t (Number (pos n)) v (Some line) _ s

item : (t n : ℕ) (cs : CFields) (vs : List Value) (line : ℕ) (fs : List SFrame) (s : Slots) → IsQuiet (expressions.item t n cs vs line fs s)
item t n NoFieldC vs line fs s = items t n vs line fs s
item t n (ItemC e more) vs line fs s = set_entry t (Number (pos n)) (first vs) (Some line) _ s
item t n (PairC key e more) vs line fs s = set_entry t (Number (pos n)) (first vs) (Some line) _ s

choose_operand : (d : Bool) (b : CExp) (v : Value) (fs : List SFrame) (s : Slots) → IsQuiet (expressions.choose_operand d b v fs s)
choose_operand d b v fs s = both (expressions.decides d (is_true v)) (errors.gives (v ∷ []) fs s) (Now (Evals b (First ∷ fs)) s) (still refl) (still refl)

-- STATEMENTS
within : (b : CBlock) (fs : List SFrame) (s : Slots) → IsQuiet (statements.within b fs s)
within b fs s = still refl

branches : (arms : CArms) (other : Option CBlock) (fs : List SFrame) (s : Slots) → IsQuiet (statements.branches arms other fs s)
branches NoArmC None fs s = still refl
branches NoArmC (Some b) fs s = still refl
branches (ArmC test b more) other fs s = still refl

sets_one : (t : STarget) (v : Value) (fs : List SFrame) (s : Slots) → IsQuiet (statements.sets_one t v fs s)
sets_one (PlaceS p) v fs s = still refl
sets_one (GlobalS x line) v fs s = set_index (Table s.globals) (Text x) v (Some line) fs s
sets_one (EntryS of key line) v fs s = set_index of key v (Some line) fs s

-- LOOPS
after_turn : (j : Jump) (fs : List SFrame) (s : Slots) → IsQuiet (loops.after_turn j fs s)
after_turn Broke fs s = still refl
after_turn j fs s = still refl

while_next : (test : CExp) (b : CBlock) (v : Value) (fs : List SFrame) (s : Slots) → IsQuiet (loops.while_next test b v fs s)
while_next test b v fs s = both (is_true v) (Now (Starts (WhileTurnS test b) fs) s) (errors.gives [] fs s) (still refl) (still refl)

repeat_next : (b : CBlock) (test : CExp) (v : Value) (fs : List SFrame) (s : Slots) → IsQuiet (loops.repeat_next b test v fs s)
repeat_next b test v fs s = both (is_true v) (errors.gives [] fs s) (Now (Starts (RepeatTurnS b test) fs) s) (still refl) (still refl)

count_from : (boxed : Bool) (i l st : ℤ) (b : CBlock) (fs : List SFrame) (s : Slots) → IsQuiet (loops.count_from boxed i l st b fs s)
count_from boxed i l st b fs s = both (is_within i l st) (Now (Starts (CountTurnS boxed i l st b) fs) s) (errors.gives [] fs s) (still refl) (still refl)

counts : (boxed : Bool) (i l st : Option ℤ) (b : CBlock) (line : ℕ) (fs : List SFrame) (s : Slots) → IsQuiet (loops.counts boxed i l st b line fs s)
counts boxed (Some i) (Some l) (Some st) b line fs s = count_from boxed i l st b fs s
counts boxed (Some i) (Some l) None b line fs s = fails (Some line) _ fs s
counts boxed (Some i) None st b line fs s = fails (Some line) _ fs s
counts boxed None l st b line fs s = fails (Some line) _ fs s

step_next : (boxed : Bool) (from to : Value) (by : Option CExp) (b : CBlock) (line : ℕ) (fs : List SFrame) (s : Slots) → IsQuiet (loops.step_next boxed from to by b line fs s)
step_next boxed from to None b line fs s = counts boxed (number_in from) (number_in to) (number_in (Number (pos 1))) b line fs s
step_next boxed from to (Some by) b line fs s = still refl

count_next : (boxed : Bool) (i l st : ℤ) (b : CBlock) (fs : List SFrame) (s : Slots) → IsQuiet (loops.count_next boxed i l st b fs s)
count_next boxed i l st b fs s = both (fits (i +ℤ st)) _ (errors.gives [] fs s) (count_from boxed (i +ℤ st) l st b fs s) (still refl)

each_next : (flags : List Bool) (f st : Value) (vs : List Value) (b : CBlock) (line : ℕ) (fs : List SFrame) (s : Slots) → IsQuiet (loops.each_next flags f st vs b line fs s)
each_next flags f st vs b line fs s = both (is_nil (first vs)) (errors.gives [] fs s) (Now (Starts (EachTurnS flags f st vs b line) fs) s) (still refl) (still refl)

-- FRAMES
goes : (world : CWorld) (f : SFrame) (vs : List Value) (fs : List SFrame) (s : Slots) → IsQuiet (to.goes world f vs fs s)
goes world First vs fs s = still refl
goes world (Verdict n) vs fs s = still refl
goes world (KeyNext key line) vs fs s = still refl
goes world (IndexNow of line) vs fs s = index of (first vs) (Some line) _ s
goes world (DecideNext d b) vs fs s = choose_operand d b (first vs) fs s
goes world (OperandNext o b line) vs fs s = still refl
goes world (OperateNow o a line) vs fs s = operate o a (first vs) (Some line) fs s
goes world (UnaryNow o line) vs fs s = apply o (first vs) (Some line) fs s
goes world (ArgumentsNext args line) vs fs s = still refl
goes world (CallNow f line) vs fs s = call f vs (Some line) fs s
goes world (MethodNext x args line) vs fs s = index (first vs) (Text x) (Some line) _ s
goes world (MethodNow object args line) vs fs s = still refl
goes world (MoreNext es before) vs fs s = more_values es before vs fs s
goes world (ItemNow t n more line) vs fs s = item t n more vs line fs s
goes world (PairNext t n e more line) vs fs s = still refl
goes world (PairNow t n key more line) vs fs s = set_entry t key (first vs) (Some line) _ s
goes world (FieldsNext t n more line) vs fs s = fields t n more line fs s
goes world (ItemsNext t n left line) vs fs s = items t n left line fs s
goes world (TargetKey key line more before values) vs fs s = still refl
goes world (TargetNow of line more before values) vs fs s = still refl
goes world (AssignNow targets) vs fs s = still refl
goes world (SetsNext pairs) vs fs s = still refl
goes world (DeclareNow flags more) vs fs s = still refl
goes world (StatsNext more) vs fs s = still refl
goes world (BranchNext b more other) vs fs s = both (is_true (first vs)) _ _ (within b fs s) (branches more other fs s)
goes world (BlockEnd d) vs fs s = still refl
goes world BodyEnd vs fs s = still refl
goes world LibraryEnd vs fs s = still refl
goes world (WhileTest test b) vs fs s = while_next test b (first vs) fs s
goes world (WhileEnd d test b) vs fs s = still refl
goes world (TestNext test d b) vs fs s = still refl
goes world (TestNow test d b) vs fs s = repeat_next b test (first vs) fs (cut d s)
goes world (CountFrom boxed to by b line) vs fs s = still refl
goes world (CountTo boxed from by b line) vs fs s = step_next boxed from (first vs) by b line fs s
goes world (CountBy boxed from to b line) vs fs s = counts boxed (number_in from) (number_in to) (number_in (first vs)) b line fs s
goes world (CountEnd d boxed i l st b) vs fs s = count_next boxed i l st b fs (cut d s)
goes world (EachValues flags b line) vs fs s = call (first vs) (second vs ∷ third vs ∷ []) (Some line) _ s
goes world (EachNext flags f st b line) vs fs s = each_next flags f st vs b line fs s
goes world (EachEnd d flags f st before b line) vs fs s = call f (st ∷ before ∷ []) (Some line) _ (cut d s)
goes world ReturnNow vs fs s = still refl
goes world (Waits pending line) vs fs s = resumes pending (Goes vs) line fs s
goes world (Hears asked line) vs fs s = hears asked (Goes vs) line fs s
goes world (ModuleFound name frame) vs fs s = invoke_in name (first vs) frame fs s
goes world (FunctionFound name frame) vs fs s = invoke_function name (first vs) frame fs s
goes world AnswerNow vs fs s = still refl
goes world (TextNow more before) vs fs s = text_given (text_in (first vs)) more before fs s
goes world DataNow vs fs s = still refl

passes : (f : SFrame) (j : Jump) (fs : List SFrame) (s : Slots) → IsQuiet (to.passes f j fs s)
passes (BlockEnd d) j fs s = still refl
passes BodyEnd j fs s = still (after_body j fs (calls.left_function s)).none
passes LibraryEnd j fs s = still refl
passes (WhileEnd d test b) j fs s = after_turn j fs (cut d s)
passes (TestNext test d b) j fs s = after_turn j fs (cut d s)
passes (TestNow test d b) j fs s = after_turn j fs (cut d s)
passes (CountEnd d boxed i l st b) j fs s = after_turn j fs (cut d s)
passes (EachEnd d flags f st before b line) j fs s = after_turn j fs (cut d s)
passes (Waits pending line) j fs s = resumes pending (Jumps j) line fs s
passes (Hears asked line) j fs s = hears asked (Jumps j) line fs s
passes f j fs s = still refl

-- CHARGES COME FIRST: what has no mark is ahead wherever it stands
quiet-ahead : (mv : Move) (c : ℕ) → marks_of mv ≡ 0 → IsAhead c mv
quiet-ahead (Now p s) c e = tt
quiet-ahead (Costs n mv) c e = quiet-ahead mv (c + n) e
quiet-ahead (Marks mv) c e = absurd (omega (arith, e))
quiet-ahead (Enters mv) c e = quiet-ahead mv c e
quiet-ahead (Exits mv) c e = quiet-ahead mv c e

ahead : {mv : Move} (c : ℕ) → IsQuiet mv → IsAhead c mv
ahead {mv} c q = quiet-ahead mv c q.none

evals-ahead : (constants : Constants) (e : CExp) (fs : List SFrame) (s : Slots) → IsAhead 0 (expressions.evals constants e fs s)
evals-ahead constants (ConstantC v) fs s = (omega arith, tt)
evals-ahead constants (TextC n) fs s = (omega arith, tt)
evals-ahead constants DotsC fs s = (omega arith, tt)
evals-ahead constants (FunctionC i ps) fs s = (omega arith, tt)
evals-ahead constants (LocalC p) fs s = (omega arith, tt)
evals-ahead constants (GlobalC x line) fs s = let q = index_table s.globals (Text (constants x)) (Some line) (First ∷ fs) s in (omega arith, ahead 0 q)
evals-ahead constants (IndexC of key line) fs s = (omega arith, tt)
evals-ahead constants (CallC f args line) fs s = (omega arith, tt)
evals-ahead constants (MethodC of x args line) fs s = (omega arith, tt)
evals-ahead constants (TableC cs line) fs s = let q = fields (new_table s.heap).1 1 cs line fs (expressions.with_table s) in (omega arith, ahead 8 q)
evals-ahead constants (AndC a b) fs s = (omega arith, tt)
evals-ahead constants (OrC a b) fs s = (omega arith, tt)
evals-ahead constants (OperateC o a b line) fs s = (omega arith, tt)
evals-ahead constants (UnaryC o a line) fs s = (omega arith, tt)
evals-ahead constants (ParenC a) fs s = (omega arith, tt)

executes-ahead : (c : CStat) (fs : List SFrame) (s : Slots) → IsAhead 0 (statements.executes c fs s)
executes-ahead (AssignC ts es) fs s = (omega arith, tt)
executes-ahead (CallStatC e) fs s = (omega arith, tt)
executes-ahead (DoC b) fs s = (omega arith, tt)
executes-ahead (WhileC e b) fs s = (omega arith, tt)
executes-ahead (RepeatC b e) fs s = (omega arith, tt)
executes-ahead (IfC arms) fs s = let q = branches arms None fs s in (omega arith, ahead 0 q)
executes-ahead (IfElseC arms b) fs s = let q = branches arms (Some b) fs s in (omega arith, ahead 0 q)
executes-ahead (CountC boxed from to b line) fs s = (omega arith, tt)
executes-ahead (CountByC boxed from to by b line) fs s = (omega arith, tt)
executes-ahead (EachC flags es b line) fs s = (omega arith, tt)
executes-ahead (ReturnC es) fs s = (omega arith, tt)
executes-ahead BreakC fs s = (omega arith, tt)

body-ahead : (o : Option CProto) (f : Proc) (args : List Value) (line : Option ℕ) (fs : List SFrame) (s : Slots) → IsAhead 1 (calls.body_of o f args line fs s)
body-ahead None f args line fs s = tt
body-ahead (Some p) f args line fs s = (omega arith, tt)

begins-ahead : (world : CWorld) (t : SThing) (fs : List SFrame) (s : Slots) → IsAhead 1 (to.begins world t fs s)
begins-ahead world (WhileTurnS e b) fs s = (omega arith, tt)
begins-ahead world (RepeatTurnS b e) fs s = (omega arith, tt)
begins-ahead world (CountTurnS boxed i l st b) fs s = (omega arith, tt)
begins-ahead world (EachTurnS flags f st vs b line) fs s = (omega arith, tt)
begins-ahead world (BodyS f args line) fs s = body-ahead ((calls.code_of (world.modules f.title)).function f.index) f args line fs s
begins-ahead world (LibraryS which args line) fs s = let q = does world (form (libraries.page_alone world) which args s.heap s.frames) args line (LibraryEnd ∷ fs) s in (omega arith, ahead 0 q)
begins-ahead world (IndexLinkS o h k line) fs s = let q = index_link o h k line fs s in ahead 1 q
begins-ahead world (SetLinkS o h k v line) fs s = let q = set_link o h k v line fs s in ahead 1 q
begins-ahead world (CallLinkS h args line) fs s = let q = call h args line fs s in ahead 1 q

pub charges_come_first : ChargesComeFirst
charges_come_first world (Gives (Goes vs) []) s = tt
charges_come_first world (Gives (Jumps j) []) s = tt
charges_come_first world (Gives (Goes vs) (f ∷ fs)) s = let q = goes world f vs fs s in ahead 0 q
charges_come_first world (Gives (Jumps j) (f ∷ fs)) s = let q = passes f j fs s in ahead 0 q
charges_come_first world (Evals e fs) s = evals-ahead (calls.constants_of world s) e fs s
charges_come_first world (Lists NoC before fs) s = tt
charges_come_first world (Lists (MoreC e es) before fs) s = tt
charges_come_first world (Finds [] before es fs) s = tt
charges_come_first world (Finds (PlaceC p ∷ ts) before es fs) s = tt
charges_come_first world (Finds (GlobalTargetC x line ∷ ts) before es fs) s = tt
charges_come_first world (Finds (EntryC of key line ∷ ts) before es fs) s = (omega arith, tt)
charges_come_first world (Finds (RefusedC ∷ ts) before es fs) s = tt
charges_come_first world (Sets [] fs) s = tt
charges_come_first world (Sets (p ∷ ps) fs) s = let q = sets_one p.0 p.1 (SetsNext ps ∷ fs) s in ahead 0 q
charges_come_first world (Runs EndC fs) s = tt
charges_come_first world (Runs (DeclareC flags es b) fs) s = (omega arith, tt)
charges_come_first world (Runs (LocalFunctionC boxed i ps b) fs) s = (omega arith, tt)
charges_come_first world (Runs (ThenC c b) fs) s = executes-ahead c (StatsNext b ∷ fs) s
charges_come_first world (Starts t fs) s = begins-ahead world t fs s
charges_come_first world (Texts vs before fs) s = let q = texts vs before fs s in ahead 0 q
charges_come_first world (Asking q fs) s = tt
charges_come_first world (Works w) s = let q = works world w s in ahead 0 q

-- and what is ahead is paid
paid : (mv : Move) (c : ℕ) → IsAhead c mv → marks_of mv ≤ c + costs_of mv
paid (Now p s) c a = omega arith
paid (Costs n mv) c a = let k = paid mv (c + n) a in omega (arith, k)
paid (Marks mv) c a = let k = paid mv (c - 1) a.1 in omega (arith, k, a.0)
paid (Enters mv) c a = paid mv c a
paid (Exits mv) c a = paid mv c a

pub marks_are_paid : MarksArePaid
marks_are_paid world point s = let k = paid (to.moves world point s) 0 (charges_come_first world point s) in omega (arith, k)
