-- The functions of the library, and all things that begin.
use Rattle.std.specs.Prelude.{ℕ, List, [], ◌∷◌}
use Rattle.page_run.specs.Outcome.{Outcome, Goes, Jumps}
use Rattle.lua_meaning.specs.LuaSyntaxTree.{Block, Fun, Lambda}
use Rattle.lua_meaning.specs.LuaHeapDeclaredLibraryLibrary.{Library}
use Rattle.lua_walk.specs.LuaHeapValue.{Value, Text}
use Rattle.lua_meaning.specs.Scope.{Bytes, Scope, Function, Levels}
use Rattle.lua_meaning.specs.World.{World}
use Rattle.lua_meaning.specs.Questions.{Asked, TemplateAsked, TextAsked, DataAsked}
use Rattle.lua_meaning.specs.Acts.{Jump, Returned, Thing, WhileTurn, RepeatTurn, CountTurn, EachTurn, Body, LibraryBody, ChunkBody, IndexLink, SetLink, CallLink}
use Rattle.lua_meaning.specs.FrameMethods.{FramedEnd, FrameEnds, FrameQuotes, FrameAsks, FrameWalks}
use Rattle.lua_meaning.specs.Libraries as libraries
use Rattle.lua_meaning.specs.Libraries.{Caller, Pcall, Xpcall, ToString, Pairs, Ipairs, NextPlace, Require, LoadData, StrictRead, StrictWrite, Gsub, Form, Answers, InFrames, CallsBack, form}
use Rattle.lua_meaning.specs.Meaning as tree
use Rattle.lua_meaning.specs.Meaning.{params_of, exp_part, block_part}
use Rattle.lua_meaning.specs.Pending as pending
use Rattle.lua_meaning.specs.Things as things
use Rattle.lua_meaning.specs.Things.{body_scope, chunk_scope}
use Rattle.lua_uses.specs.Uses.{Names, with_names, expr_uses, function_uses, block_uses, block_scope}
use Rattle.lua_lint_laws.proofs.Told.{Allowed, AreAllowed, names_of, IsSound, IsAllowedThing, Quiet, IsScope, ◌>>=◌, ◌>>◌, give, jump, catch, tick, count, in_call, look, change, forget, knowing}
use Rattle.lua_lint_laws.proofs.Heaps.{declare, fail_quoting}
use Rattle.lua_lint_laws.proofs.Calls.{call, index_link, set_link}
use Rattle.lua_lint_laws.proofs.Loops.{while_turn, repeat_turn, count_turn, each_turn}
use Rattle.lua_lint_laws.proofs.Tree.{expression, block, in_scope}
use Rattle.lua_lint_laws.proofs.CallBacks.{pcall, xpcall, to_string, pairs, ipairs, ipairs_step, asking, refuse_answer, text_value}
use Rattle.lua_lint_laws.proofs.Answers.{end_act, plain_act}
use Rattle.lua_lint_laws.proofs.Replacing.{gsub}
use Rattle.lua_lint_laws.proofs.Modules.{IsAllowedWorld, require, load_data, data_answer, strict_index, strict_new_index}
use Rattle.lua_lint_laws.proofs.KeptForms.{KeepsForm, form_kept}

-- WHAT WAITS FOR AN ANSWER
text_answer : {P : Allowed} → (o : Outcome (List Value) Jump) → Quiet P (pending.text_answer o)
text_answer (Goes (Text t ∷ [])) = text_value t
text_answer outcome = refuse_answer

template_answer : {P : Allowed} → (text : Bytes) (callers : Levels) (o : Outcome (List Value) Jump) → Quiet P (pending.template_answer text callers o)
template_answer text callers (Goes []) = fail_quoting callers _
template_answer text callers (Goes (v ∷ vs)) = text_answer (Goes (v ∷ vs))
template_answer text callers (Jumps j) = text_answer (Jumps j)

hears : {P : Allowed} → (asked : Asked) (callers : Levels) (o : Outcome (List Value) Jump) → Quiet P (pending.hears asked callers o)
hears (TemplateAsked text) callers = template_answer text callers
hears TextAsked callers = text_answer
hears (DataAsked text title) callers = data_answer text title callers

-- FUNCTIONS OF THE LIBRARY
framed_end : {P : Allowed} → (end : FramedEnd) (callers : Levels) → Quiet P (libraries.framed_end end callers)
framed_end (FrameEnds end) callers = end_act end callers
framed_end (FrameQuotes message) callers = fail_quoting callers message
framed_end (FrameAsks question asked) callers = asking question (hears asked callers)
framed_end (FrameWalks v) callers = pairs (v ∷ []) callers

call_back : {P : Allowed} → (world : World) → IsAllowedWorld P world → (caller : Caller) (args : List Value) (callers : Levels) → Quiet P (libraries.call_back world caller args callers)
call_back world ok Pcall args callers = pcall args
call_back world ok Xpcall args callers = xpcall args
call_back world ok ToString args callers = to_string args callers
call_back world ok Pairs args callers = pairs args callers
call_back world ok Ipairs args callers = ipairs args callers
call_back world ok NextPlace args callers = ipairs_step args callers
call_back world ok Require args callers = require world ok args callers
call_back world ok LoadData args callers = load_data args callers
call_back world ok StrictRead args callers = strict_index args callers
call_back world ok StrictWrite args callers = strict_new_index args callers
call_back world ok (Gsub alphabet) args callers = gsub alphabet args callers

do_form : {P : Allowed} → (world : World) → IsAllowedWorld P world → (f : Form Function) → KeepsForm P f → (args : List Value) (callers : Levels) → Quiet P (libraries.do_form world f args callers)
do_form world ok (Answers plain) kept args callers = plain_act plain kept.sound callers
do_form world ok (InFrames framed) kept args callers = do
  tick framed.charge
  look (λ s e. change (record s { heap = framed.heap; frames = framed.frames }) kept.sound >> framed_end framed.end callers)
do_form world ok (CallsBack caller) kept args callers = call_back world ok caller args callers

library : {P : Allowed} → (world : World) → IsAllowedWorld P world → (which : Library) (args : List Value) (callers : Levels) → Quiet P (libraries.library world which args callers)
library world ok which args callers = look (λ s e. do_form world ok (form world which args s.heap s.frames) (form_kept s.heap e world which args s.frames) args callers)

-- BODIES
after_body : {P : Allowed} → (o : Outcome Scope Jump) → Quiet P (things.after_body o)
after_body (Goes scope) = give _
after_body (Jumps (Returned vs)) = give _
after_body (Jumps j) = jump j

-- in a scope with its parameters
body_of : {P : Allowed} (node : Fun) (source : List ℕ) (names : Names) → AreAllowed P source (function_uses node names) → (inner : Scope) → IsScope source (with_names (params_of node) names) inner → Quiet P (tree.body_of node inner)
body_of (Lambda params dots b) source names ok inner is = forget (block b inner (in_scope (with_names params names) (block_uses b) ok inner is))

enter_function : {P : Allowed} → (f : Function) → IsSound P f → (args : List Value) (callers : Levels) → Quiet P (things.enter_function f args callers)
enter_function f ok args callers = in_call (do
  count
  knowing (declare (params_of f.node) args (body_scope f args callers)) (λ inner is. catch (body_of f.node f.source (names_of f.names) ok inner is) after_body))

enter_library : {P : Allowed} → (world : World) → IsAllowedWorld P world → (which : Library) (args : List Value) (callers : Levels) → Quiet P (things.enter_library world which args callers)
enter_library world ok which args callers = in_call (do
  count
  library world ok which args callers)

enter_chunk : {P : Allowed} → (source : Bytes) (b : Block) → AreAllowed P source (block_uses b []) → Quiet P (things.enter_chunk source b)
enter_chunk source b ok = in_call (do
  count
  catch (forget (block b (chunk_scope source) ok)) after_body)

-- EACH THING
pub meaning_of : {P : Allowed} → (world : World) → IsAllowedWorld P world → (thing : Thing) → IsAllowedThing P thing → Quiet P (things.meaning_of world thing)
meaning_of world all (WhileTurn test body scope) (ok, fine) = while_turn (exp_part test) (block_part body) scope ok fine (expression test scope ok) (forget (block body scope fine))
meaning_of world all (RepeatTurn body test scope) (ok, fine) = repeat_turn (block_part body) (exp_part test) scope ok fine (block body scope ok) (λ inner is. expression test inner (in_scope (block_scope body (names_of scope.names)) (expr_uses test) fine inner is))
meaning_of world all (CountTurn name index limit step body scope) ok = count_turn name index limit step (block_part body) scope ok (λ inner is. forget (block body inner (in_scope (name ∷ names_of scope.names) (block_uses body) ok inner is)))
meaning_of world all (EachTurn names f state results body line scope) ok = each_turn names f state results (block_part body) line scope ok (λ inner is. forget (block body inner (in_scope (with_names names (names_of scope.names)) (block_uses body) ok inner is)))
meaning_of world all (Body f args callers) ok = enter_function f ok args callers
meaning_of world all (LibraryBody which args callers) ok = enter_library world all which args callers
meaning_of world all (ChunkBody source b) ok = enter_chunk source b ok
meaning_of world all (IndexLink object h key ls) ok = index_link object h key ls
meaning_of world all (SetLink object h key value ls) ok = set_link object h key value ls
meaning_of world all (CallLink h args ls) ok = call h args ls
