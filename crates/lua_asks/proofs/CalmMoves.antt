-- Each move keeps what is loaded, and asks only for what is not.
use Rattle.std.proofs.Common.{ℕ, Bool, List, [], ◌∷◌, Option, Some, None, refl}
use Rattle.std.specs.Prelude.{ℤ, pos, ◌+ℤ◌}
use Rattle.lua_slots.specs.PageRunOutcome.{Goes, Jumps}
use Rattle.lua_slots.specs.LuaNumberWhole.{fits}
use Rattle.lua_slots.specs.LuaHeapProc.{Proc}
use Rattle.lua_slots.specs.LuaHeapHeap.{new_table}
use Rattle.lua_slots.specs.LuaHeapValue.{Value, Nil, Number, Text, Table, is_true, is_nil}
use Rattle.lua_slots.specs.LuaMeaningValues.{first, second, third, number_in, text_in}
use Rattle.lua_slots.specs.LuaMeaningActs.{Jump, Broke}
use Rattle.lua_slots.specs.LuaMeaningLoops.{is_within}
use Rattle.lua_slots.specs.LuaMeaningLibraries.{form}
use Rattle.lua_slots.specs.Code.{Constants, CExp, ConstantC, TextC, DotsC, FunctionC, LocalC, GlobalC, IndexC, CallC, MethodC, TableC, AndC, OrC, OperateC, UnaryC, ParenC}
use Rattle.lua_slots.specs.Code.{CExps, NoC, MoreC, CFields, NoFieldC, ItemC, PairC, PlaceC, GlobalTargetC, EntryC, RefusedC}
use Rattle.lua_slots.specs.Code.{CStat, AssignC, CallStatC, DoC, WhileC, RepeatC, IfC, IfElseC, CountC, CountByC, EachC, ReturnC, BreakC, CBlock, EndC, DeclareC, LocalFunctionC, ThenC, CArms, NoArmC, ArmC, CProto, CWorld}
use Rattle.lua_slots.specs.Sight.{newest}
use Rattle.lua_slots.specs.Slots.{Slots, cut, opened, with_closure, proc_of, next_closure}
use Rattle.lua_slots.specs.Points.{STarget, PlaceS, GlobalS, EntryS, SThing, WhileTurnS, RepeatTurnS, CountTurnS, EachTurnS, BodyS, LibraryS, IndexLinkS, SetLinkS, CallLinkS}
use Rattle.lua_slots.specs.Points.{SFrame, First, Verdict, KeyNext, IndexNow, DecideNext, OperandNext, OperateNow, UnaryNow, ArgumentsNext, CallNow, MethodNext, MethodNow, MoreNext, ItemNow, PairNext, PairNow, FieldsNext, ItemsNext, TargetKey, TargetNow, AssignNow, SetsNext, DeclareNow, StatsNext, BranchNext, BlockEnd, BodyEnd, LibraryEnd, WhileTest, WhileEnd, TestNext, TestNow, CountFrom, CountTo, CountBy, CountEnd, EachValues, EachNext, EachEnd, ReturnNow, Waits, Hears, ModuleFound, FunctionFound, AnswerNow, TextNow, DataNow}
use Rattle.lua_slots.specs.Points.{Gives, Evals, Lists, Finds, Sets, Runs, Starts, Texts, Asking, Works, Point, Now}
use Rattle.lua_slots.specs.Errors as errors
use Rattle.lua_slots.specs.Calls as calls
use Rattle.lua_slots.specs.Expressions as expressions
use Rattle.lua_slots.specs.Statements as statements
use Rattle.lua_slots.specs.Loops as loops
use Rattle.lua_slots.specs.Libraries as libraries
use Rattle.lua_slots.specs.Moves as to
use Rattle.lua_asks.proofs.Loading.{IsGood, calm, good, stands_still, written}
use Rattle.lua_asks.proofs.NoData.{needs_no_data}
use Rattle.lua_asks.specs.Laws.{AsksAnew}
use Rattle.lua_asks.proofs.CalmValues.{IsCalm, still, both, fails, call, after_body, index_table, index, index_link, set_entry, set_index, set_link, operate, apply}
use Rattle.lua_asks.proofs.CalmLibrary.{does, resumes, hears, texts, text_given, invoke_in, invoke_function, works}

-- EXPRESSIONS
more_values : (es : CExps) (before vs : List Value) (fs : List SFrame) (s : Slots) → IsCalm s.data_ (expressions.more_values es before vs fs s)
more_values NoC before vs fs s = still (refl, tt)
more_values (MoreC e es) before vs fs s = still (refl, tt)

fields : (t n : ℕ) (cs : CFields) (line : ℕ) (fs : List SFrame) (s : Slots) → IsCalm s.data_ (expressions.fields t n cs line fs s)
fields t n NoFieldC line fs s = still (refl, tt)
fields t n (ItemC e more) line fs s = still (refl, tt)
fields t n (PairC key e more) line fs s = still (refl, tt)

items : (t n : ℕ) (vs : List Value) (line : ℕ) (fs : List SFrame) (s : Slots) → IsCalm s.data_ (expressions.items t n vs line fs s)
items t n [] line fs s = still (refl, tt)
items t n (v ∷ vs) line fs s = set_entry t (Number (pos n)) v (Some line) _ s

item : (t n : ℕ) (cs : CFields) (vs : List Value) (line : ℕ) (fs : List SFrame) (s : Slots) → IsCalm s.data_ (expressions.item t n cs vs line fs s)
item t n NoFieldC vs line fs s = items t n vs line fs s
item t n (ItemC e more) vs line fs s = set_entry t (Number (pos n)) (first vs) (Some line) _ s
item t n (PairC key e more) vs line fs s = set_entry t (Number (pos n)) (first vs) (Some line) _ s

choose_operand : (d : Bool) (b : CExp) (v : Value) (fs : List SFrame) (s : Slots) → IsCalm s.data_ (expressions.choose_operand d b v fs s)
choose_operand d b v fs s = both (expressions.decides d (is_true v)) (errors.gives (v ∷ []) fs s) (Now (Evals b (First ∷ fs)) s) (still (refl, tt)) (still (refl, tt))

-- STATEMENTS
within : (b : CBlock) (fs : List SFrame) (s : Slots) → IsCalm s.data_ (statements.within b fs s)
within b fs s = still (refl, tt)

branches : (arms : CArms) (other : Option CBlock) (fs : List SFrame) (s : Slots) → IsCalm s.data_ (statements.branches arms other fs s)
branches NoArmC None fs s = still (refl, tt)
branches NoArmC (Some b) fs s = still (refl, tt)
branches (ArmC test b more) other fs s = still (refl, tt)

sets_one : (t : STarget) (v : Value) (fs : List SFrame) (s : Slots) → IsCalm s.data_ (statements.sets_one t v fs s)
sets_one (PlaceS p) v fs s = still (written s p v, tt)
sets_one (GlobalS x line) v fs s = set_index (Table s.globals) (Text x) v (Some line) fs s
sets_one (EntryS of key line) v fs s = set_index of key v (Some line) fs s

-- LOOPS
after_turn : (j : Jump) (fs : List SFrame) (s : Slots) → IsCalm s.data_ (loops.after_turn j fs s)
after_turn Broke fs s = still (refl, tt)
after_turn j fs s = still (refl, tt)

while_next : (test : CExp) (b : CBlock) (v : Value) (fs : List SFrame) (s : Slots) → IsCalm s.data_ (loops.while_next test b v fs s)
while_next test b v fs s = both (is_true v) (Now (Starts (WhileTurnS test b) fs) s) (errors.gives [] fs s) (still (refl, tt)) (still (refl, tt))

repeat_next : (b : CBlock) (test : CExp) (v : Value) (fs : List SFrame) (s : Slots) → IsCalm s.data_ (loops.repeat_next b test v fs s)
repeat_next b test v fs s = both (is_true v) (errors.gives [] fs s) (Now (Starts (RepeatTurnS b test) fs) s) (still (refl, tt)) (still (refl, tt))

count_from : (boxed : Bool) (i l st : ℤ) (b : CBlock) (fs : List SFrame) (s : Slots) → IsCalm s.data_ (loops.count_from boxed i l st b fs s)
count_from boxed i l st b fs s = both (is_within i l st) (Now (Starts (CountTurnS boxed i l st b) fs) s) (errors.gives [] fs s) (still (refl, tt)) (still (refl, tt))

counts : (boxed : Bool) (i l st : Option ℤ) (b : CBlock) (line : ℕ) (fs : List SFrame) (s : Slots) → IsCalm s.data_ (loops.counts boxed i l st b line fs s)
counts boxed (Some i) (Some l) (Some st) b line fs s = count_from boxed i l st b fs s
counts boxed (Some i) (Some l) None b line fs s = fails (Some line) _ fs s
counts boxed (Some i) None st b line fs s = fails (Some line) _ fs s
counts boxed None l st b line fs s = fails (Some line) _ fs s

step_next : (boxed : Bool) (from to : Value) (by : Option CExp) (b : CBlock) (line : ℕ) (fs : List SFrame) (s : Slots) → IsCalm s.data_ (loops.step_next boxed from to by b line fs s)
step_next boxed from to None b line fs s = counts boxed (number_in from) (number_in to) (number_in (Number (pos 1))) b line fs s
step_next boxed from to (Some by) b line fs s = still (refl, tt)

count_next : (boxed : Bool) (i l st : ℤ) (b : CBlock) (fs : List SFrame) (s : Slots) → IsCalm s.data_ (loops.count_next boxed i l st b fs s)
count_next boxed i l st b fs s = both (fits (i +ℤ st)) _ (errors.gives [] fs s) (count_from boxed (i +ℤ st) l st b fs s) (still (refl, tt))

each_next : (flags : List Bool) (f st : Value) (vs : List Value) (b : CBlock) (line : ℕ) (fs : List SFrame) (s : Slots) → IsCalm s.data_ (loops.each_next flags f st vs b line fs s)
each_next flags f st vs b line fs s = both (is_nil (first vs)) (errors.gives [] fs s) (Now (Starts (EachTurnS flags f st vs b line) fs) s) (still (refl, tt)) (still (refl, tt))

-- FRAMES
goes : (world : CWorld) (f : SFrame) (vs : List Value) (fs : List SFrame) (s : Slots) → IsGood s (to.goes world f vs fs s)
goes world First vs fs s = calm (still (refl, tt))
goes world (Verdict n) vs fs s = calm (still (refl, tt))
goes world (KeyNext key line) vs fs s = calm (still (refl, tt))
goes world (IndexNow of line) vs fs s = calm (index of (first vs) (Some line) _ s)
goes world (DecideNext d b) vs fs s = calm (choose_operand d b (first vs) fs s)
goes world (OperandNext o b line) vs fs s = calm (still (refl, tt))
goes world (OperateNow o a line) vs fs s = calm (operate o a (first vs) (Some line) fs s)
goes world (UnaryNow o line) vs fs s = calm (apply o (first vs) (Some line) fs s)
goes world (ArgumentsNext args line) vs fs s = calm (still (refl, tt))
goes world (CallNow f line) vs fs s = calm (call f vs (Some line) fs s)
goes world (MethodNext x args line) vs fs s = calm (index (first vs) (Text x) (Some line) _ s)
goes world (MethodNow object args line) vs fs s = calm (still (refl, tt))
goes world (MoreNext es before) vs fs s = calm (more_values es before vs fs s)
goes world (ItemNow t n more line) vs fs s = calm (item t n more vs line fs s)
goes world (PairNext t n e more line) vs fs s = calm (still (refl, tt))
goes world (PairNow t n key more line) vs fs s = calm (set_entry t key (first vs) (Some line) _ s)
goes world (FieldsNext t n more line) vs fs s = calm (fields t n more line fs s)
goes world (ItemsNext t n left line) vs fs s = calm (items t n left line fs s)
goes world (TargetKey key line more before values) vs fs s = calm (still (refl, tt))
goes world (TargetNow of line more before values) vs fs s = calm (still (refl, tt))
goes world (AssignNow targets) vs fs s = calm (still (refl, tt))
goes world (SetsNext pairs) vs fs s = calm (still (refl, tt))
goes world (DeclareNow flags more) vs fs s = calm (still (refl, tt))
goes world (StatsNext more) vs fs s = calm (still (refl, tt))
goes world (BranchNext b more other) vs fs s = calm (both (is_true (first vs)) _ _ (within b fs s) (branches more other fs s))
goes world (BlockEnd d) vs fs s = calm (still (refl, tt))
goes world BodyEnd vs fs s = calm (still (refl, tt))
goes world LibraryEnd vs fs s = calm (still (refl, tt))
goes world (WhileTest test b) vs fs s = calm (while_next test b (first vs) fs s)
goes world (WhileEnd d test b) vs fs s = calm (still (refl, tt))
goes world (TestNext test d b) vs fs s = calm (still (refl, tt))
goes world (TestNow test d b) vs fs s = calm (repeat_next b test (first vs) fs (cut d s))
goes world (CountFrom boxed to by b line) vs fs s = calm (still (refl, tt))
goes world (CountTo boxed from by b line) vs fs s = calm (step_next boxed from (first vs) by b line fs s)
goes world (CountBy boxed from to b line) vs fs s = calm (counts boxed (number_in from) (number_in to) (number_in (first vs)) b line fs s)
goes world (CountEnd d boxed i l st b) vs fs s = calm (count_next boxed i l st b fs (cut d s))
goes world (EachValues flags b line) vs fs s = calm (call (first vs) (second vs ∷ third vs ∷ []) (Some line) _ s)
goes world (EachNext flags f st b line) vs fs s = calm (each_next flags f st vs b line fs s)
goes world (EachEnd d flags f st before b line) vs fs s = calm (call f (st ∷ before ∷ []) (Some line) _ (cut d s))
goes world ReturnNow vs fs s = calm (still (refl, tt))
goes world (Waits pending line) vs fs s = calm (resumes pending (Goes vs) line fs s)
goes world (Hears asked line) vs fs s = hears asked (Goes vs) line fs s
goes world (ModuleFound name frame) vs fs s = calm (invoke_in name (first vs) frame fs s)
goes world (FunctionFound name frame) vs fs s = calm (invoke_function name (first vs) frame fs s)
goes world AnswerNow vs fs s = calm (still (refl, tt))
goes world (TextNow more before) vs fs s = calm (text_given (text_in (first vs)) more before fs s)
goes world DataNow vs fs s = calm (still (refl, tt))

passes : (f : SFrame) (j : Jump) (fs : List SFrame) (s : Slots) → IsGood s (to.passes f j fs s)
passes (BlockEnd d) j fs s = calm (still (refl, tt))
passes BodyEnd j fs s = calm (still (after_body j fs (calls.left_function s)).stays)
passes LibraryEnd j fs s = calm (still (refl, tt))
passes (WhileEnd d test b) j fs s = calm (after_turn j fs (cut d s))
passes (TestNext test d b) j fs s = calm (after_turn j fs (cut d s))
passes (TestNow test d b) j fs s = calm (after_turn j fs (cut d s))
passes (CountEnd d boxed i l st b) j fs s = calm (after_turn j fs (cut d s))
passes (EachEnd d flags f st before b line) j fs s = calm (after_turn j fs (cut d s))
passes (Waits pending line) j fs s = calm (resumes pending (Jumps j) line fs s)
passes (Hears asked line) j fs s = hears asked (Jumps j) line fs s
passes f j fs s = calm (still (refl, tt))

-- POINTS
evals : (constants : Constants) (e : CExp) (fs : List SFrame) (s : Slots) → IsCalm s.data_ (expressions.evals constants e fs s)
evals constants (ConstantC v) fs s = still (refl, tt)
evals constants (TextC n) fs s = still (refl, tt)
evals constants DotsC fs s = still (refl, tt)
evals constants (FunctionC i ps) fs s = still (refl, tt)
evals constants (LocalC p) fs s = still (refl, tt)
evals constants (GlobalC x line) fs s = still (index_table s.globals (Text (constants x)) (Some line) (First ∷ fs) s).stays
evals constants (IndexC of key line) fs s = still (refl, tt)
evals constants (CallC f args line) fs s = still (refl, tt)
evals constants (MethodC of x args line) fs s = still (refl, tt)
evals constants (TableC cs line) fs s = still (fields (new_table s.heap).1 1 cs line fs (expressions.with_table s)).stays
evals constants (AndC a b) fs s = still (refl, tt)
evals constants (OrC a b) fs s = still (refl, tt)
evals constants (OperateC o a b line) fs s = still (refl, tt)
evals constants (UnaryC o a line) fs s = still (refl, tt)
evals constants (ParenC a) fs s = still (refl, tt)

executes : (c : CStat) (fs : List SFrame) (s : Slots) → IsCalm s.data_ (statements.executes c fs s)
executes (AssignC ts es) fs s = still (refl, tt)
executes (CallStatC e) fs s = still (refl, tt)
executes (DoC b) fs s = still (refl, tt)
executes (WhileC e b) fs s = still (refl, tt)
executes (RepeatC b e) fs s = still (refl, tt)
executes (IfC arms) fs s = still (branches arms None fs s).stays
executes (IfElseC arms b) fs s = still (branches arms (Some b) fs s).stays
executes (CountC boxed from to b line) fs s = still (refl, tt)
executes (CountByC boxed from to by b line) fs s = still (refl, tt)
executes (EachC flags es b line) fs s = still (refl, tt)
executes (ReturnC es) fs s = still (refl, tt)
executes BreakC fs s = still (refl, tt)

body_of : (o : Option CProto) (f : Proc) (args : List Value) (line : Option ℕ) (fs : List SFrame) (s : Slots) → IsCalm s.data_ (calls.body_of o f args line fs s)
body_of None f args line fs s = still (refl, tt)
body_of (Some p) f args line fs s = still (refl, tt)

begins : (world : CWorld) (t : SThing) (fs : List SFrame) (s : Slots) → IsGood s (to.begins world t fs s)
begins world (WhileTurnS e b) fs s = calm (still (refl, tt))
begins world (RepeatTurnS b e) fs s = calm (still (refl, tt))
begins world (CountTurnS boxed i l st b) fs s = calm (still (refl, tt))
begins world (EachTurnS flags f st vs b line) fs s = calm (still (refl, tt))
begins world (BodyS f args line) fs s = calm (still (body_of ((calls.code_of (world.modules f.title)).function f.index) f args line fs s).stays)
begins world (LibraryS which args line) fs s = good (does world (form (libraries.page_alone world) which args s.heap s.frames) args line (LibraryEnd ∷ fs) s (needs_no_data s.heap s.frames (libraries.page_alone world) which args)).leads
begins world (IndexLinkS o h k line) fs s = calm (still (index_link o h k line fs s).stays)
begins world (SetLinkS o h k v line) fs s = calm (still (set_link o h k v line fs s).stays)
begins world (CallLinkS h args line) fs s = calm (still (call h args line fs s).stays)

pub moves_good : (world : CWorld) (point : Point) (s : Slots) → AsksAnew point s → IsGood s (to.moves world point s)
moves_good world (Gives (Goes vs) []) s a = calm (still (refl, tt))
moves_good world (Gives (Jumps j) []) s a = calm (still (refl, tt))
moves_good world (Gives (Goes vs) (f ∷ fs)) s a = goes world f vs fs s
moves_good world (Gives (Jumps j) (f ∷ fs)) s a = passes f j fs s
moves_good world (Evals e fs) s a = calm (evals (calls.constants_of world s) e fs s)
moves_good world (Lists NoC before fs) s a = calm (still (refl, tt))
moves_good world (Lists (MoreC e es) before fs) s a = calm (still (refl, tt))
moves_good world (Finds [] before es fs) s a = calm (still (refl, tt))
moves_good world (Finds (PlaceC p ∷ ts) before es fs) s a = calm (still (refl, tt))
moves_good world (Finds (GlobalTargetC x line ∷ ts) before es fs) s a = calm (still (refl, tt))
moves_good world (Finds (EntryC of key line ∷ ts) before es fs) s a = calm (still (refl, tt))
moves_good world (Finds (RefusedC ∷ ts) before es fs) s a = calm (still (refl, tt))
moves_good world (Sets [] fs) s a = calm (still (refl, tt))
moves_good world (Sets (p ∷ ps) fs) s a = calm (still (sets_one p.0 p.1 (SetsNext ps ∷ fs) s).stays)
moves_good world (Runs EndC fs) s a = calm (still (refl, tt))
moves_good world (Runs (DeclareC flags es b) fs) s a = calm (still (refl, tt))
moves_good world (Runs (LocalFunctionC boxed i ps b) fs) s a = calm (still (written (with_closure (proc_of i ps (opened boxed Nil s)) (opened boxed Nil s)) (newest boxed) (next_closure (opened boxed Nil s)), tt))
moves_good world (Runs (ThenC c b) fs) s a = calm (still (executes c (StatsNext b ∷ fs) s).stays)
moves_good world (Starts t fs) s a = good (begins world t fs s).leads
moves_good world (Texts vs before fs) s a = calm (still (texts vs before fs s).stays)
moves_good world (Asking q fs) s a = stands_still (Asking q fs) s a
moves_good world (Works w) s a = calm (still (works world w s).stays)
