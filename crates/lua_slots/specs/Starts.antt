-- A WHOLE RUN (Scribunto, "Invoking modules" and mw.loadData): its start with its charges, and its end. What is still to be done
-- waits at the bottom of the frames; an error that reaches it ends the run.
use Rattle.std.specs.Prelude.{List, [], ◌∷◌, ◌++◌, length, Option, Some, None, codes}
use Rattle.lua_meaning.specs.WkBaseDeclaredTitleTitle.{Title}
use Rattle.lua_meaning.specs.WkBaseTitles.{title_text}
use Rattle.lua_meaning.specs.MwFrameDeclaredSceneJob.{Job}
use Rattle.lua_meaning.specs.PageRunOutcome.{Outcome, Goes, Jumps}
use Rattle.lua_meaning.specs.MwHtmlRender.{Piece, Whole, Deep, count, render}
use Rattle.lua_meaning.specs.LuaHeapValue.{Value, Text, Table, Markup, is_nil}
use Rattle.lua_meaning.specs.Charges.{run_charge}
use Rattle.lua_meaning.specs.Scope.{Bytes}
use Rattle.lua_meaning.specs.Values.{is_function}
use Rattle.lua_meaning.specs.Acts.{Jump, Raised, Unmade}
use Rattle.lua_meaning.specs.Messages.{no_data_module}
use Rattle.lua_meaning.specs.Metatables.{handler}
use Rattle.lua_meaning.specs.Html.{nested_too_deeply}
use Rattle.lua_meaning.specs.CallBacks.{text_of}
use Rattle.lua_meaning.specs.Frames.{args_charge, make_frame, frame_table, new_frame}
use Rattle.lua_meaning.specs.Start.{Work, Invoke, DataOf, End, Done, Failed, invoke_outcome, data_outcome}
use Rattle.lua_slots.specs.Code.{CModule, CWorld}
use Rattle.lua_slots.specs.Slots.{Slots}
use Rattle.lua_slots.specs.Points.{SFrame, ModuleFound, FunctionFound, AnswerNow, TextNow, DataNow, Gives, Texts, Move, Costs, Now}
use Rattle.lua_slots.specs.Errors.{choose, fails}
use Rattle.lua_slots.specs.Calls.{call}
use Rattle.lua_slots.specs.Index.{index_table}
use Rattle.lua_slots.specs.Modules.{runs_text, require_module}

-- HOW A RUN ENDS: the outcome that the meaning gives it
abbrev pub invoke_ends : Outcome End Jump → List SFrame → Slots → Move
invoke_ends o fs s = Now (Gives (invoke_outcome o) fs) s

abbrev pub data_ends : Outcome End Jump → List SFrame → Slots → Move
data_ends o fs s = Now (Gives (data_outcome o) fs) s

-- THE ANSWER: the texts of the values, one after another; the whole costs its length, and an object of mw.html its rendering
abbrev pub text_by : Value → Value → List Value → Bytes → List SFrame → Slots → Move
text_by h v vs before fs s = choose (is_nil h) (Now (Texts vs (before ++ text_of v) fs) s) (call h (v ∷ []) None (TextNow vs before ∷ fs) s)

abbrev pub whole_or_fail : Piece → List Value → Bytes → List SFrame → Slots → Move
whole_or_fail (Whole bytes begun) vs before fs s = Now (Texts vs (before ++ bytes) fs) s
whole_or_fail (Deep bytes begun) vs before fs s = invoke_ends (Jumps (Raised (Text nested_too_deeply))) fs s

abbrev pub rendered : Piece → List Value → Bytes → List SFrame → Slots → Move
rendered p vs before fs s = Costs (count p) (whole_or_fail p vs before fs s)

abbrev pub next_text : Value → List Value → Bytes → List SFrame → Slots → Move
next_text (Markup m) vs before fs s = rendered (render s.heap.markup m) vs before fs s
next_text v vs before fs s = text_by (handler s.heap v (codes "__tostring")) v vs before fs s

abbrev pub texts : List Value → Bytes → List SFrame → Slots → Move
texts [] before fs s = Costs (length before) (invoke_ends (Goes (Done before)) fs s)
texts (v ∷ vs) before fs s = next_text v vs before fs s

-- what `__tostring` gave
abbrev pub text_given : Option Bytes → List Value → Bytes → List SFrame → Slots → Move
text_given (Some t) vs before fs s = Now (Texts vs (before ++ t) fs) s
text_given None vs before fs s = invoke_ends (Jumps (Raised (Text (codes "'tostring' must return a string")))) fs s

-- AN INVOCATION: the frame is made, the module runs as `require` would run it, and its function is called with the frame
abbrev pub with_frame : Job → Slots → Slots
with_frame job s = record s { heap = make_frame job.scene 0 s.heap; frames = new_frame s.heap job.scene (Unmade job.parent) ∷ [] }

abbrev pub invokes : CWorld → Job → List SFrame → Slots → Move
invokes world job fs s =
    Costs run_charge (Costs (args_charge job.scene.args)
    (require_module world (title_text job.«module») job.«module» None (ModuleFound job.function (frame_table s.heap) ∷ fs) (with_frame job s)))

abbrev pub invoke_in : Bytes → Value → Value → List SFrame → Slots → Move
invoke_in name (Table t) frame fs s = index_table t (Text name) None (FunctionFound name frame ∷ fs) s
invoke_in name v frame fs s = invoke_ends (Goes (Failed (codes "Script error: The module returned no table."))) fs s

abbrev pub invoke_function : Bytes → Value → Value → List SFrame → Slots → Move
invoke_function name f frame fs s =
    choose (is_function f)
    (call f (frame ∷ []) None (AnswerNow ∷ fs) s)
    (invoke_ends (Goes (Failed (codes "Script error: The function \"" ++ name ++ codes "\" does not exist."))) fs s)

-- THE RUN OF A DATA MODULE
abbrev pub runs_data : Title → Option CModule → List SFrame → Slots → Move
runs_data title (Some m) fs s = runs_text title m fs s
runs_data title None fs s = fails None (no_data_module (title_text title)) fs s

abbrev pub works : CWorld → Work → Slots → Move
works world (Invoke job) s = invokes world job [] s
works world (DataOf title) s = Costs run_charge (runs_data title (world.modules (title_text title)) (DataNow ∷ []) s)
