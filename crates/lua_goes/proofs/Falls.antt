-- A move that costs no step lowers the weight.
use Rattle.std.proofs.Common.{◌≡◌, ℕ, suc, ◌+◌, ◌*◌, ◌<◌, Bool, List, [], ◌∷◌, length, reverse, Option, Some, None, refl, ap, ◌∙◌, arith}
use Rattle.std.specs.Prelude.{ℤ, pos, ◌+ℤ◌}
use Rattle.std.proofs.lemmas.List.{length-append, length-reverse}
use Rattle.lua_slots.specs.PageRunOutcome.{Goes, Jumps}
use Rattle.lua_slots.specs.LuaNumberWhole.{fits}
use Rattle.lua_slots.specs.LuaHeapValue.{Value, Number, Text, Table, is_true, is_nil}
use Rattle.lua_slots.specs.LuaMeaningValues.{first, rest, second, third, number_in, text_in}
use Rattle.lua_slots.specs.LuaMeaningActs.{Jump, Returned, Broke, Raised}
use Rattle.lua_slots.specs.LuaMeaningLoops.{is_within}
use Rattle.lua_slots.specs.Code.{Constants, CExp, DotsC, CExps, NoC, MoreC, CFields, NoFieldC, ItemC, PairC, PlaceC, GlobalTargetC, EntryC, RefusedC}
use Rattle.lua_slots.specs.Code.{CStat, BreakC, CBlock, EndC, DeclareC, LocalFunctionC, ThenC, CArms, NoArmC, ArmC, CWorld}
use Rattle.lua_slots.specs.Slots.{Slots, cut}
use Rattle.lua_slots.specs.Points.{STarget, PlaceS, GlobalS, EntryS, WhileTurnS, RepeatTurnS, CountTurnS, EachTurnS}
use Rattle.lua_slots.specs.Points.{SFrame, First, Verdict, KeyNext, IndexNow, DecideNext, OperandNext, OperateNow, UnaryNow, ArgumentsNext, CallNow, MethodNext, MethodNow, MoreNext, ItemNow, PairNext, PairNow, FieldsNext, ItemsNext, TargetKey, TargetNow, AssignNow, SetsNext, DeclareNow, StatsNext, BranchNext, BlockEnd, BodyEnd, LibraryEnd, WhileTest, WhileEnd, TestNext, TestNow, CountFrom, CountTo, CountBy, CountEnd, EachValues, EachNext, EachEnd, ReturnNow, Waits, Hears, ModuleFound, FunctionFound, AnswerNow, TextNow, DataNow}
use Rattle.lua_slots.specs.Points.{Gives, Evals, Lists, Finds, Sets, Runs, Starts, Texts, Asking, Works, Now}
use Rattle.lua_slots.specs.LuaMeaningStart.{Work, Invoke, DataOf}
use Rattle.lua_slots.specs.Calls.{constants_of}
use Rattle.lua_slots.specs.Errors as errors
use Rattle.lua_slots.specs.Expressions as expressions
use Rattle.lua_slots.specs.Statements as statements
use Rattle.lua_slots.specs.Loops as loops
use Rattle.lua_slots.specs.Starts as starts
use Rattle.lua_slots.specs.Moves as to
use Rattle.lua_slots.specs.Laws.{costs_of}
use Rattle.lua_goes.specs.Weight.{of_outcome, of_frame, of_frames}
use Rattle.lua_goes.specs.Laws.{FreeMovesFall}
use Rattle.lua_goes.proofs.LowValues.{IsLow, now, below, exits, both, fails, call, index, set_entry, set_index, operate, apply}
use Rattle.lua_goes.proofs.LowLibrary.{resumes, hears, invoke_jumps, data_jumps, data_given, texts, text_given, invoke_in, invoke_function}

-- EXPRESSIONS
more_values : (es : CExps) (before vs : List Value) (fs : List SFrame) (s : Slots) → IsLow (expressions.more_values es before vs fs s) (2 * length vs + 1 + (2 * length before + 4 + of_frames fs))
more_values NoC before vs fs s = let e = length-append before vs in now (omega (arith, e))
more_values (MoreC e es) before vs fs s = let l = length-append before (first vs ∷ []) in now (omega (arith, l))

fields : (t n : ℕ) (cs : CFields) (line : ℕ) (fs : List SFrame) (s : Slots) → IsLow (expressions.fields t n cs line fs s) (4 + of_frames fs)
fields t n NoFieldC line fs s = now (omega arith)
fields t n (ItemC e more) line fs s = now (omega arith)
fields t n (PairC key e more) line fs s = now (omega arith)

items : (t n : ℕ) (vs : List Value) (line : ℕ) (fs : List SFrame) (s : Slots) → IsLow (expressions.items t n vs line fs s) (length vs + 4 + of_frames fs)
items t n [] line fs s = now (omega arith)
items t n (v ∷ vs) line fs s = below (omega arith) (set_entry t (Number (pos n)) v (Some line) (ItemsNext t (n + 1) vs line ∷ fs) s)

item : (t n : ℕ) (cs : CFields) (vs : List Value) (line : ℕ) (fs : List SFrame) (s : Slots) → IsLow (expressions.item t n cs vs line fs s) (2 * length vs + 1 + (4 + of_frames fs))
item t n NoFieldC vs line fs s = below (omega arith) (items t n vs line fs s)
item t n (ItemC e more) vs line fs s = below (omega arith) (set_entry t (Number (pos n)) (first vs) (Some line) (FieldsNext t (n + 1) (ItemC e more) line ∷ fs) s)
item t n (PairC key e more) vs line fs s = below (omega arith) (set_entry t (Number (pos n)) (first vs) (Some line) (FieldsNext t (n + 1) (PairC key e more) line ∷ fs) s)

choose_operand : (d : Bool) (b : CExp) (v : Value) (fs : List SFrame) (s : Slots) → IsLow (expressions.choose_operand d b v fs s) (4 + of_frames fs)
choose_operand d b v fs s = both (expressions.decides d (is_true v)) (errors.gives (v ∷ []) fs s) (Now (Evals b (First ∷ fs)) s) (now (omega arith)) (now (omega arith))

-- STATEMENTS
within : (b : CBlock) (fs : List SFrame) (s : Slots) → IsLow (statements.within b fs s) (4 + of_frames fs)
within b fs s = now (omega arith)

branches : (arms : CArms) (other : Option CBlock) (fs : List SFrame) (s : Slots) → IsLow (statements.branches arms other fs s) (4 + of_frames fs)
branches NoArmC None fs s = now (omega arith)
branches NoArmC (Some b) fs s = within b fs s
branches (ArmC test b more) other fs s = now (omega arith)

sets_one : (t : STarget) (v : Value) (fs : List SFrame) (s : Slots) → IsLow (statements.sets_one t v fs s) (2 + of_frames fs)
sets_one (PlaceS p) v fs s = now (omega arith)
sets_one (GlobalS x line) v fs s = set_index (Table s.globals) (Text x) v (Some line) fs s
sets_one (EntryS of key line) v fs s = set_index of key v (Some line) fs s

length-valued : (ts : List STarget) (vs : List Value) → length (statements.with_values ts vs) ≡ length ts
length-valued [] vs = refl
length-valued (t ∷ ts) vs = ap suc (length-valued ts (rest vs))

length-paired : (ts : List STarget) (vs : List Value) → length (reverse (statements.with_values ts vs)) ≡ length ts
length-paired ts vs = length-reverse (statements.with_values ts vs) ∙ length-valued ts vs

-- LOOPS
after_turn : (j : Jump) (n : ℕ) (fs : List SFrame) (s : Slots) → IsLow (loops.after_turn j fs s) (of_outcome (Jumps j) + (1 + n + of_frames fs))
after_turn (Returned vs) n fs s = now (omega arith)
after_turn Broke n fs s = now (omega arith)
after_turn (Raised v) n fs s = now (omega arith)

while_next : (test : CExp) (b : CBlock) (v : Value) (fs : List SFrame) (s : Slots) → IsLow (loops.while_next test b v fs s) (2 + of_frames fs)
while_next test b v fs s = both (is_true v) (Now (Starts (WhileTurnS test b) fs) s) (errors.gives [] fs s) (now (omega arith)) (now (omega arith))

repeat_next : (b : CBlock) (test : CExp) (v : Value) (fs : List SFrame) (s : Slots) → IsLow (loops.repeat_next b test v fs s) (2 + of_frames fs)
repeat_next b test v fs s = both (is_true v) (errors.gives [] fs s) (Now (Starts (RepeatTurnS b test) fs) s) (now (omega arith)) (now (omega arith))

count_from : (boxed : Bool) (i l st : ℤ) (b : CBlock) (fs : List SFrame) (s : Slots) → IsLow (loops.count_from boxed i l st b fs s) (2 + of_frames fs)
count_from boxed i l st b fs s = both (is_within i l st) (Now (Starts (CountTurnS boxed i l st b) fs) s) (errors.gives [] fs s) (now (omega arith)) (now (omega arith))

counts : (boxed : Bool) (i l st : Option ℤ) (b : CBlock) (line : ℕ) (fs : List SFrame) (s : Slots) → IsLow (loops.counts boxed i l st b line fs s) (2 + of_frames fs)
counts boxed (Some i) (Some l) (Some st) b line fs s = count_from boxed i l st b fs s
counts boxed (Some i) (Some l) None b line fs s = fails (Some line) _ fs s
counts boxed (Some i) None st b line fs s = fails (Some line) _ fs s
counts boxed None l st b line fs s = fails (Some line) _ fs s

step_next : (boxed : Bool) (from to : Value) (by : Option CExp) (b : CBlock) (line : ℕ) (fs : List SFrame) (s : Slots) → IsLow (loops.step_next boxed from to by b line fs s) (2 + of_frames fs)
step_next boxed from to None b line fs s = counts boxed (number_in from) (number_in to) (number_in (Number (pos 1))) b line fs s
step_next boxed from to (Some by) b line fs s = now (omega arith)

count_next : (boxed : Bool) (i l st : ℤ) (b : CBlock) (fs : List SFrame) (s : Slots) → IsLow (loops.count_next boxed i l st b fs s) (2 + of_frames fs)
count_next boxed i l st b fs s = both (fits (i +ℤ st)) _ (errors.gives [] fs s) (count_from boxed (i +ℤ st) l st b fs s) (now (omega arith))

each_next : (flags : List Bool) (f st : Value) (vs : List Value) (b : CBlock) (line : ℕ) (fs : List SFrame) (s : Slots) → IsLow (loops.each_next flags f st vs b line fs s) (2 + of_frames fs)
each_next flags f st vs b line fs s = both (is_nil (first vs)) (errors.gives [] fs s) (Now (Starts (EachTurnS flags f st vs b line) fs) s) (now (omega arith)) (now (omega arith))

-- FRAMES, with values
goes : (world : CWorld) (f : SFrame) (vs : List Value) (fs : List SFrame) (s : Slots) → IsLow (to.goes world f vs fs s) (2 * length vs + 1 + (of_frame f + of_frames fs))
goes world First vs fs s = now (omega arith)
goes world (Verdict n) vs fs s = now (omega arith)
goes world (KeyNext key line) vs fs s = now (omega arith)
goes world (IndexNow of line) vs fs s = below (omega arith) (index of (first vs) (Some line) (First ∷ fs) s)
goes world (DecideNext d b) vs fs s = below (omega arith) (choose_operand d b (first vs) fs s)
goes world (OperandNext o b line) vs fs s = now (omega arith)
goes world (OperateNow o a line) vs fs s = below (omega arith) (operate o a (first vs) (Some line) fs s)
goes world (UnaryNow o line) vs fs s = below (omega arith) (apply o (first vs) (Some line) fs s)
goes world (ArgumentsNext args line) vs fs s = now (omega arith)
goes world (CallNow f line) vs fs s = below (omega arith) (call f vs (Some line) fs s)
goes world (MethodNext x args line) vs fs s = below (omega arith) (index (first vs) (Text x) (Some line) (MethodNow (first vs) args line ∷ fs) s)
goes world (MethodNow object args line) vs fs s = now (omega arith)
goes world (MoreNext es before) vs fs s = more_values es before vs fs s
goes world (ItemNow t n more line) vs fs s = item t n more vs line fs s
goes world (PairNext t n e more line) vs fs s = now (omega arith)
goes world (PairNow t n key more line) vs fs s = below (omega arith) (set_entry t key (first vs) (Some line) (FieldsNext t n more line ∷ fs) s)
goes world (FieldsNext t n more line) vs fs s = below (omega arith) (fields t n more line fs s)
goes world (ItemsNext t n left line) vs fs s = below (omega arith) (items t n left line fs s)
goes world (TargetKey key line more before values) vs fs s = now (omega arith)
goes world (TargetNow of line more before values) vs fs s = let e = length-append before (EntryS of (first vs) line ∷ []) in now (omega (arith, e))
goes world (AssignNow targets) vs fs s = let e = length-paired targets vs in now (omega (arith, e))
goes world (SetsNext pairs) vs fs s = now (omega arith)
goes world (DeclareNow flags more) vs fs s = now (omega arith)
goes world (StatsNext more) vs fs s = now (omega arith)
goes world (BranchNext b more other) vs fs s = below (omega arith) (both (is_true (first vs)) _ _ (within b fs s) (branches more other fs s))
goes world (BlockEnd d) vs fs s = now (omega arith)
goes world BodyEnd vs fs s = exits (now (omega arith))
goes world LibraryEnd vs fs s = exits (now (omega arith))
goes world (WhileTest test b) vs fs s = below (omega arith) (while_next test b (first vs) fs s)
goes world (WhileEnd d test b) vs fs s = now (omega arith)
goes world (TestNext test d b) vs fs s = now (omega arith)
goes world (TestNow test d b) vs fs s = below (omega arith) (repeat_next b test (first vs) fs (cut d s))
goes world (CountFrom boxed to by b line) vs fs s = now (omega arith)
goes world (CountTo boxed from by b line) vs fs s = below (omega arith) (step_next boxed from (first vs) by b line fs s)
goes world (CountBy boxed from to b line) vs fs s = below (omega arith) (counts boxed (number_in from) (number_in to) (number_in (first vs)) b line fs s)
goes world (CountEnd d boxed i l st b) vs fs s = below (omega arith) (count_next boxed i l st b fs (cut d s))
goes world (EachValues flags b line) vs fs s = below (omega arith) (call (first vs) (second vs ∷ third vs ∷ []) (Some line) (EachNext flags (first vs) (second vs) b line ∷ fs) s)
goes world (EachNext flags f st b line) vs fs s = below (omega arith) (each_next flags f st vs b line fs s)
goes world (EachEnd d flags f st before b line) vs fs s = below (omega arith) (call f (st ∷ before ∷ []) (Some line) (EachNext flags f st b line ∷ fs) (cut d s))
goes world ReturnNow vs fs s = now (omega arith)
goes world (Waits pending line) vs fs s = resumes pending (Goes vs) line fs s
goes world (Hears asked line) vs fs s = hears asked (Goes vs) line fs s
goes world (ModuleFound name frame) vs fs s = below (omega arith) (invoke_in name (first vs) frame (2 * length vs) fs s)
goes world (FunctionFound name frame) vs fs s = below (omega arith) (invoke_function name (first vs) frame (2 * length vs) fs s)
goes world AnswerNow vs fs s = now (omega arith)
goes world (TextNow more before) vs fs s = below (omega arith) (text_given (text_in (first vs)) (2 * length vs) more before fs s)
goes world DataNow vs fs s = below (omega arith) (data_given (first vs) (2 * length vs) fs s)

-- and with a jump
passes : (f : SFrame) (j : Jump) (fs : List SFrame) (s : Slots) → IsLow (to.passes f j fs s) (of_outcome (Jumps j) + (of_frame f + of_frames fs))
passes BodyEnd (Returned vs) fs s = exits (now (omega arith))
passes BodyEnd j fs s = exits (now (omega arith))
passes LibraryEnd j fs s = exits (now (omega arith))
passes (WhileEnd d test b) j fs s = below (omega arith) (after_turn j 0 fs (cut d s))
passes (TestNext test d b) j fs s = below (omega arith) (after_turn j 0 fs (cut d s))
passes (TestNow test d b) j fs s = below (omega arith) (after_turn j 0 fs (cut d s))
passes (CountEnd d boxed i l st b) j fs s = below (omega arith) (after_turn j 0 fs (cut d s))
passes (EachEnd d flags f st before b line) j fs s = below (omega arith) (after_turn j 1 fs (cut d s))
passes (Waits pending line) j fs s = resumes pending (Jumps j) line fs s
passes (Hears asked line) j fs s = hears asked (Jumps j) line fs s
passes (ModuleFound name frame) j fs s = below (omega arith) (invoke_jumps j 7 fs s)
passes (FunctionFound name frame) j fs s = below (omega arith) (invoke_jumps j 4 fs s)
passes AnswerNow j fs s = below (omega arith) (invoke_jumps j 3 fs s)
passes (TextNow more before) j fs s = below (omega arith) (invoke_jumps j (2 * length more + 3) fs s)
passes DataNow j fs s = data_jumps j fs s
passes f j fs s = now (omega arith)

-- WHAT TAKES A STEP in each move
evals-pay : (constants : Constants) (e : CExp) (fs : List SFrame) (s : Slots) → 0 < costs_of (expressions.evals constants e fs s)
evals-pay constants DotsC fs s = omega arith
evals-pay constants e fs s = omega arith

executes-pay : (c : CStat) (fs : List SFrame) (s : Slots) → 0 < costs_of (statements.executes c fs s)
executes-pay BreakC fs s = omega arith
executes-pay c fs s = omega arith

works-pay : (w : Work) (world : CWorld) (s : Slots) → 0 < costs_of (starts.works world w s)
works-pay (Invoke job) world s = omega arith
works-pay (DataOf title) world s = omega arith

pub free_moves_fall : FreeMovesFall
free_moves_fall world (Gives (Goes vs) []) s w e = absurd w
free_moves_fall world (Gives (Jumps j) []) s w e = absurd w
free_moves_fall world (Gives (Goes vs) (f ∷ fs)) s w e = (goes world f vs fs s).lower e
free_moves_fall world (Gives (Jumps j) (f ∷ fs)) s w e = (passes f j fs s).lower e
free_moves_fall world (Evals c fs) s w e = let h = evals-pay (constants_of world s) c fs s in absurd (omega (arith, e, h))
free_moves_fall world (Lists NoC before fs) s w e = omega arith
free_moves_fall world (Lists (MoreC c es) before fs) s w e = omega arith
free_moves_fall world (Finds [] before es fs) s w e = omega arith
free_moves_fall world (Finds (PlaceC p ∷ ts) before es fs) s w e = let l = length-append before (PlaceS p ∷ []) in omega (arith, l)
free_moves_fall world (Finds (GlobalTargetC x line ∷ ts) before es fs) s w e = let l = length-append before (GlobalS (constants_of world s x) line ∷ []) in omega (arith, l)
free_moves_fall world (Finds (EntryC of key line ∷ ts) before es fs) s w e = absurd (omega (arith, e))
free_moves_fall world (Finds (RefusedC ∷ ts) before es fs) s w e = omega arith
free_moves_fall world (Sets [] fs) s w e = omega arith
free_moves_fall world (Sets (p ∷ ps) fs) s w e = let l = (sets_one p.0 p.1 (SetsNext ps ∷ fs) s).lower e in omega (arith, l)
free_moves_fall world (Runs EndC fs) s w e = omega arith
free_moves_fall world (Runs (DeclareC flags es b) fs) s w e = absurd (omega (arith, e))
free_moves_fall world (Runs (LocalFunctionC boxed i ps b) fs) s w e = absurd (omega (arith, e))
free_moves_fall world (Runs (ThenC c b) fs) s w e = let h = executes-pay c (StatsNext b ∷ fs) s in absurd (omega (arith, e, h))
free_moves_fall world (Starts t fs) s w e = absurd (omega (arith, e))
free_moves_fall world (Texts vs before fs) s w e = (texts vs before fs s).lower e
free_moves_fall world (Asking q fs) s w e = absurd w
free_moves_fall world (Works work) s w e = let h = works-pay work world s in absurd (omega (arith, e, h))
