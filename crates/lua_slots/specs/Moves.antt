-- THE MOVES OF A MACHINE: from a point to the next one. Here is one line for each thing that begins, for each frame with values and
-- with a jump, and for each point.
use Rattle.std.specs.Prelude.{List, [], ◌∷◌, ◌++◌, reverse, Some}
use Rattle.lua_meaning.specs.PageRunOutcome.{Outcome, Goes, Jumps}
use Rattle.lua_meaning.specs.LuaHeapValue.{Value, Text, is_true}
use Rattle.lua_meaning.specs.Values.{first, second, third, text_in}
use Rattle.lua_meaning.specs.Acts.{Jump, Returned}
use Rattle.lua_slots.specs.Code.{CWorld}
use Rattle.lua_slots.specs.Slots.{Slots, all_opened, cut}
use Rattle.lua_slots.specs.Points.{EntryS, SThing, WhileTurnS, RepeatTurnS, CountTurnS, EachTurnS, BodyS, LibraryS, IndexLinkS, SetLinkS, CallLinkS}
use Rattle.lua_slots.specs.Points.{SFrame, First, Verdict, KeyNext, IndexNow, DecideNext, OperandNext, OperateNow, UnaryNow, ArgumentsNext, CallNow, MethodNext, MethodNow, MoreNext, ItemNow, PairNext, PairNow, FieldsNext, ItemsNext, TargetKey, TargetNow, AssignNow, SetsNext, DeclareNow, StatsNext, BranchNext, BlockEnd, BodyEnd, LibraryEnd, WhileTest, WhileEnd, TestNext, TestNow, CountFrom, CountTo, CountBy, CountEnd, EachValues, EachNext, EachEnd, ReturnNow, Waits, Hears, ModuleFound, FunctionFound, AnswerNow, TextNow, DataNow}
use Rattle.lua_slots.specs.Points.{Point, Gives, Evals, Lists, Finds, Sets, Runs, Starts, Texts, Asking, Works, Move, Costs, Exits, Now}
use Rattle.lua_slots.specs.Errors.{choose, gives, jumps}
use Rattle.lua_slots.specs.Calls.{call, enters_body, constants_of, left_function, after_body}
use Rattle.lua_slots.specs.Index.{index, index_link, set_entry, set_link}
use Rattle.lua_slots.specs.Operators.{answers, operate, apply}
use Rattle.lua_slots.specs.Expressions.{lists, more_values, fields, items, item, evals, choose_operand}
use Rattle.lua_slots.specs.Statements.{finds, with_values, sets, within, branches, runs}
use Rattle.lua_slots.specs.Loops.{after_turn, while_next, while_turn, repeat_turn, repeat_next, step_next, counting, count_turn, count_next, each_from, each_next, each_turn}
use Rattle.lua_slots.specs.Libraries.{enters_library, resumes, hears}
use Rattle.lua_slots.specs.Starts.{invoke_ends, data_ends, texts, text_given, invoke_in, invoke_function, works}
use Rattle.lua_meaning.specs.Start.{data_value}

-- THINGS
abbrev pub begins : CWorld → SThing → List SFrame → Slots → Move
begins world (WhileTurnS test b) fs s = while_turn test b fs s
begins world (RepeatTurnS b test) fs s = repeat_turn b test fs s
begins world (CountTurnS boxed index limit step b) fs s = count_turn boxed index limit step b fs s
begins world (EachTurnS flags f state results b line) fs s = each_turn flags f state results b line fs s
begins world (BodyS f args line) fs s = enters_body world f args line fs s
begins world (LibraryS which args line) fs s = enters_library world which args line fs s
begins world (IndexLinkS object h key line) fs s = index_link object h key line fs s
begins world (SetLinkS object h key value line) fs s = set_link object h key value line fs s
begins world (CallLinkS h args line) fs s = call h args line fs s

-- WHAT A FRAME DOES with values
abbrev pub goes : CWorld → SFrame → List Value → List SFrame → Slots → Move
goes world First vs fs s = gives (first vs ∷ []) fs s
goes world (Verdict negated) vs fs s = answers negated (is_true (first vs)) fs s
goes world (KeyNext key line) vs fs s = Now (Evals key (IndexNow (first vs) line ∷ fs)) s
goes world (IndexNow of line) vs fs s = index of (first vs) (Some line) (First ∷ fs) s
goes world (DecideNext deciding b) vs fs s = choose_operand deciding b (first vs) fs s
goes world (OperandNext o b line) vs fs s = Now (Evals b (OperateNow o (first vs) line ∷ fs)) s
goes world (OperateNow o a line) vs fs s = operate o a (first vs) (Some line) fs s
goes world (UnaryNow o line) vs fs s = apply o (first vs) (Some line) fs s
goes world (ArgumentsNext args line) vs fs s = Now (Lists args [] (CallNow (first vs) line ∷ fs)) s
goes world (CallNow f line) vs fs s = call f vs (Some line) fs s
goes world (MethodNext x args line) vs fs s = index (first vs) (Text x) (Some line) (MethodNow (first vs) args line ∷ fs) s
goes world (MethodNow object args line) vs fs s = Now (Lists args (object ∷ []) (CallNow (first vs) line ∷ fs)) s
goes world (MoreNext es before) vs fs s = more_values es before vs fs s
goes world (ItemNow t n more line) vs fs s = item t n more vs line fs s
goes world (PairNext t n e more line) vs fs s = Now (Evals e (PairNow t n (first vs) more line ∷ fs)) s
goes world (PairNow t n key more line) vs fs s = set_entry t key (first vs) (Some line) (FieldsNext t n more line ∷ fs) s
goes world (FieldsNext t n more line) vs fs s = fields t n more line fs s
goes world (ItemsNext t n left line) vs fs s = items t n left line fs s
goes world (TargetKey key line more before values) vs fs s = Now (Evals key (TargetNow (first vs) line more before values ∷ fs)) s
goes world (TargetNow of line more before values) vs fs s = Now (Finds more (before ++ EntryS of (first vs) line ∷ []) values fs) s
goes world (AssignNow targets) vs fs s = Now (Sets (reverse (with_values targets vs)) fs) s
goes world (SetsNext pairs) vs fs s = Now (Sets pairs fs) s
goes world (DeclareNow flags more) vs fs s = Now (Runs more fs) (all_opened flags vs s)
goes world (StatsNext more) vs fs s = Now (Runs more fs) s
goes world (BranchNext b more other) vs fs s = choose (is_true (first vs)) (within b fs s) (branches more other fs s)
goes world (BlockEnd d) vs fs s = gives [] fs (cut d s)
goes world BodyEnd vs fs s = Exits (gives [] fs (left_function s))
goes world LibraryEnd vs fs s = Exits (gives vs fs s)
goes world (WhileTest test b) vs fs s = while_next test b (first vs) fs s
goes world (WhileEnd d test b) vs fs s = Now (Evals test (WhileTest test b ∷ fs)) (cut d s)
goes world (TestNext test d b) vs fs s = Now (Evals test (TestNow test d b ∷ fs)) s
goes world (TestNow test d b) vs fs s = repeat_next b test (first vs) fs (cut d s)
goes world (CountFrom boxed to by b line) vs fs s = Now (Evals to (CountTo boxed (first vs) by b line ∷ fs)) s
goes world (CountTo boxed from by b line) vs fs s = step_next boxed from (first vs) by b line fs s
goes world (CountBy boxed from to b line) vs fs s = counting boxed from to (first vs) b line fs s
goes world (CountEnd d boxed index limit step b) vs fs s = count_next boxed index limit step b fs (cut d s)
goes world (EachValues flags b line) vs fs s = each_from flags (first vs) (second vs) (third vs) b line fs s
goes world (EachNext flags f state b line) vs fs s = each_next flags f state vs b line fs s
goes world (EachEnd d flags f state before b line) vs fs s = each_from flags f state before b line fs (cut d s)
goes world ReturnNow vs fs s = jumps (Returned vs) fs s
goes world (Waits pending line) vs fs s = resumes pending (Goes vs) line fs s
goes world (Hears asked line) vs fs s = hears asked (Goes vs) line fs s
goes world (ModuleFound name frame) vs fs s = invoke_in name (first vs) frame fs s
goes world (FunctionFound name frame) vs fs s = invoke_function name (first vs) frame fs s
goes world AnswerNow vs fs s = Now (Texts vs [] fs) s
goes world (TextNow more before) vs fs s = text_given (text_in (first vs)) more before fs s
goes world DataNow vs fs s = data_ends (Goes (data_value (first vs))) fs s

-- and with a jump: most pass it on
abbrev pub passes : SFrame → Jump → List SFrame → Slots → Move
passes (BlockEnd d) j fs s = jumps j fs (cut d s)
passes BodyEnd j fs s = Exits (after_body j fs (left_function s))
passes LibraryEnd j fs s = Exits (jumps j fs s)
passes (WhileEnd d test b) j fs s = after_turn j fs (cut d s)
passes (TestNext test d b) j fs s = after_turn j fs (cut d s)
passes (TestNow test d b) j fs s = after_turn j fs (cut d s)
passes (CountEnd d boxed index limit step b) j fs s = after_turn j fs (cut d s)
passes (EachEnd d flags f state before b line) j fs s = after_turn j fs (cut d s)
passes (Waits pending line) j fs s = resumes pending (Jumps j) line fs s
passes (Hears asked line) j fs s = hears asked (Jumps j) line fs s
passes (ModuleFound name frame) j fs s = invoke_ends (Jumps j) fs s
passes (FunctionFound name frame) j fs s = invoke_ends (Jumps j) fs s
passes AnswerNow j fs s = invoke_ends (Jumps j) fs s
passes (TextNow more before) j fs s = invoke_ends (Jumps j) fs s
passes DataNow j fs s = data_ends (Jumps j) fs s
passes f j fs s = jumps j fs s

abbrev pub goes_on : CWorld → Outcome (List Value) Jump → List SFrame → Slots → Move
goes_on world o [] s = Now (Gives o []) s
goes_on world (Goes vs) (f ∷ fs) s = goes world f vs fs s
goes_on world (Jumps j) (f ∷ fs) s = passes f j fs s

-- THE NEXT MOVE. At its end, and at a question, a machine stops.
abbrev pub moves : CWorld → Point → Slots → Move
moves world (Gives o fs) s = goes_on world o fs s
moves world (Evals e fs) s = evals (constants_of world s) e fs s
moves world (Lists es before fs) s = lists es before fs s
moves world (Finds targets before values fs) s = finds (constants_of world s) targets before values fs s
moves world (Sets pairs fs) s = sets pairs fs s
moves world (Runs b fs) s = runs b fs s
moves world (Starts t fs) s = Costs 1 (begins world t fs s)
moves world (Texts vs before fs) s = texts vs before fs s
moves world (Asking q fs) s = Now (Asking q fs) s
moves world (Works work) s = works world work s
