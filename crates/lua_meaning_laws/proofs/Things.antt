-- The functions of the library, and all things that begin.
use Rattle.std.proofs.Common.{subst, sym}
use Rattle.std.specs.Prelude.{List, [], ◌∷◌}
use Rattle.lua_meaning.specs.PageRunOutcome.{Outcome, Goes, Jumps}
use Rattle.lua_meaning.specs.LuaSyntaxTree.{Block}
use Rattle.lua_meaning.specs.LuaHeapDeclaredLibraryLibrary.{Library}
use Rattle.lua_meaning.specs.LuaHeapValue.{Value}
use Rattle.lua_meaning.specs.Scope.{Bytes, Scope, Function, Levels}
use Rattle.lua_meaning.specs.World.{World}
use Rattle.lua_meaning.specs.Acts.{Jump, Returned, Frame, Thing, WhileTurn, RepeatTurn, CountTurn, EachTurn, Body, LibraryBody, ChunkBody, IndexLink, SetLink, CallLink}
use Rattle.lua_meaning.specs.FrameMethods.{Framed, FramedEnd, FrameEnds, FrameQuotes, FrameAsks, FrameWalks}
use Rattle.lua_meaning.specs.Laws.{AsksNothing, NeedsNoFrame}
use Rattle.lua_meaning.specs.Libraries as libraries
use Rattle.lua_meaning.specs.Libraries.{Caller, Pcall, Xpcall, ToString, Pairs, Ipairs, NextPlace, Require, LoadData, StrictRead, StrictWrite, Gsub, Form, Answers, InFrames, CallsBack, form}
use Rattle.lua_meaning.specs.Meaning.{params_of, exp_part, block_part}
use Rattle.lua_meaning.specs.Things as things
use Rattle.lua_meaning.specs.Things.{body_scope, chunk_scope}
use Rattle.lua_meaning.proofs.FrameLaws.{frames_are_needed}
use Rattle.lua_meaning_laws.proofs.OnlyData.{Quiet, ◌>>=◌, ◌>>◌, give, jump, catch, tick, count, in_call, look, change}
use Rattle.lua_meaning_laws.proofs.Heaps.{declare, fail_quoting}
use Rattle.lua_meaning_laws.proofs.Calls.{call, index_link, set_link}
use Rattle.lua_meaning_laws.proofs.Loops.{while_turn, repeat_turn, count_turn, each_turn}
use Rattle.lua_meaning_laws.proofs.Tree.{expression, block, body_of}
use Rattle.lua_meaning_laws.proofs.CallBacks.{pcall, xpcall, to_string, pairs, ipairs, ipairs_step}
use Rattle.lua_meaning_laws.proofs.Answers.{end_act, plain_act}
use Rattle.lua_meaning_laws.proofs.Replacing.{gsub}
use Rattle.lua_meaning_laws.proofs.Modules.{require, load_data, strict_index, strict_new_index}

-- FUNCTIONS OF THE LIBRARY
framed_end : (end : FramedEnd) → AsksNothing end → (callers : Levels) → Quiet (libraries.framed_end end callers)
framed_end (FrameEnds end) nothing callers = end_act end callers
framed_end (FrameQuotes message) nothing callers = fail_quoting callers message
framed_end (FrameAsks question asked) nothing callers = absurd nothing
framed_end (FrameWalks v) nothing callers = pairs (v ∷ []) callers

framed_act : (f : Framed Function) → NeedsNoFrame (InFrames f) → (callers : Levels) → Quiet (libraries.framed_act f callers)
framed_act f (nothing, none) callers = do
  tick f.charge
  look (λ s e. change (record s { heap = f.heap; frames = f.frames }) none >> framed_end f.end nothing callers)

call_back : (world : World) (caller : Caller) (args : List Value) (callers : Levels) → Quiet (libraries.call_back world caller args callers)
call_back world Pcall args callers = pcall args
call_back world Xpcall args callers = xpcall args
call_back world ToString args callers = to_string args callers
call_back world Pairs args callers = pairs args callers
call_back world Ipairs args callers = ipairs args callers
call_back world NextPlace args callers = ipairs_step args callers
call_back world Require args callers = require world args callers
call_back world LoadData args callers = load_data args callers
call_back world StrictRead args callers = strict_index args callers
call_back world StrictWrite args callers = strict_new_index args callers
call_back world (Gsub alphabet) args callers = gsub alphabet args callers

do_form : (world : World) (f : Form Function) → NeedsNoFrame f → (args : List Value) (callers : Levels) → Quiet (libraries.do_form world f args callers)
do_form world (Answers plain) needs args callers = plain_act plain callers
do_form world (InFrames framed) needs args callers = framed_act framed needs callers
do_form world (CallsBack caller) needs args callers = call_back world caller args callers

library : (world : World) (which : Library) (args : List Value) (callers : Levels) → Quiet (libraries.library world which args callers)
library world which args callers =
    look (λ s e. do_form world (form world which args s.heap s.frames) (subst (λ (fs : List Frame). NeedsNoFrame (form world which args s.heap fs)) (sym e) (frames_are_needed world which args s.heap)) args callers)

-- BODIES
after_body : (o : Outcome Scope Jump) → Quiet (things.after_body o)
after_body (Goes scope) = give _
after_body (Jumps (Returned vs)) = give _
after_body (Jumps j) = jump j

enter_function : (f : Function) (args : List Value) (callers : Levels) → Quiet (things.enter_function f args callers)
enter_function f args callers = in_call (do
  count
  scope ← declare (params_of f.node) args (body_scope f args callers)
  catch ((body_of f.node).at scope) after_body)

enter_library : (world : World) (which : Library) (args : List Value) (callers : Levels) → Quiet (things.enter_library world which args callers)
enter_library world which args callers = in_call (do
  count
  library world which args callers)

enter_chunk : (source : Bytes) (b : Block) → Quiet (things.enter_chunk source b)
enter_chunk source b = in_call (do
  count
  catch ((block b).at (chunk_scope source)) after_body)

-- EACH THING
pub meaning_of : (world : World) (thing : Thing) → Quiet (things.meaning_of world thing)
meaning_of world (WhileTurn test body scope) = while_turn (exp_part test) (block_part body) (expression test) (block body) scope
meaning_of world (RepeatTurn body test scope) = repeat_turn (block_part body) (exp_part test) (block body) (expression test) scope
meaning_of world (CountTurn name index limit step body scope) = count_turn name index limit step (block_part body) (block body) scope
meaning_of world (EachTurn names f state results body line scope) = each_turn names f state results (block_part body) (block body) line scope
meaning_of world (Body f args callers) = enter_function f args callers
meaning_of world (LibraryBody which args callers) = enter_library world which args callers
meaning_of world (ChunkBody source b) = enter_chunk source b
meaning_of world (IndexLink object h key ls) = index_link object h key ls
meaning_of world (SetLink object h key value ls) = set_link object h key value ls
meaning_of world (CallLink h args ls) = call h args ls
