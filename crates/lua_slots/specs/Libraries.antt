-- FUNCTIONS OF THE LIBRARY (manual 5). What a function does with its arguments is what the meaning says of it, at the machine's own
-- heap and frames; here is how it charges, ends, asks and calls, and what waits.
use Rattle.std.specs.Prelude.{ℕ, List, [], ◌∷◌, Option, None}
use Rattle.lua_meaning.specs.PageRunOutcome.{Outcome, Goes}
use Rattle.lua_meaning.specs.LuaHeapProc.{Proc}
use Rattle.lua_meaning.specs.LuaHeapValue.{Value, Text}
use Rattle.lua_meaning.specs.LuaHeapDeclaredLibraryLibrary.{Library}
use Rattle.lua_meaning.specs.Scope.{Bytes}
use Rattle.lua_meaning.specs.World.{World}
use Rattle.lua_meaning.specs.Questions.{Asked, TemplateAsked, TextAsked, DataAsked}
use Rattle.lua_meaning.specs.Acts.{Jump, Raised}
use Rattle.lua_meaning.specs.Messages.{no_template, wrong_answer}
use Rattle.lua_meaning.specs.FrameMethods.{FramedEnd, FrameEnds, FrameQuotes, FrameAsks, FrameWalks, Framed}
use Rattle.lua_meaning.specs.Gsub.{nothing_yet, GsubForm, GsubAnswers, GsubAsks, gsub_form}
use Rattle.lua_meaning.specs.Pending.{Pending, PcallWaits, XpcallWaits, HandlerWaits, ToStringWaits, PairsWaits, GsubWaits, ModuleWaits}
use Rattle.lua_meaning.specs.Libraries.{Caller, Pcall, Xpcall, ToString, Pairs, Ipairs, NextPlace, Require, LoadData, StrictRead, StrictWrite, Gsub, Form, Answers, InFrames, CallsBack, form}
use Rattle.lua_slots.specs.Code.{CWorld}
use Rattle.lua_slots.specs.Slots.{Slots}
use Rattle.lua_slots.specs.Points.{SFrame, LibraryEnd, Hears, Asking, Move, Costs, Marks, Enters, Now}
pub use Rattle.lua_slots.specs.Errors.{plain}
use Rattle.lua_slots.specs.Errors.{jumps, fails_quoting, ends}
use Rattle.lua_slots.specs.CallBacks.{pcall, pcall_answer, xpcall, xpcall_answer, handler_answer, gives_text, to_string, string_answer, pairs, ipairs, three_answer, ipairs_step}
use Rattle.lua_slots.specs.Gsub.{replaces, gsub_answer}
use Rattle.lua_slots.specs.Modules.{require, module_answer, load_data, data_answer, strict_index, strict_new_index}

-- of the world such a function sees the page alone
abbrev pub page_alone : CWorld → World
page_alone world = record { page = world.page; modules = λ title. None }

-- a function that sees the frames
abbrev pub framed_end : FramedEnd → Option ℕ → List SFrame → Slots → Move
framed_end (FrameEnds end) line fs s = ends end line fs s
framed_end (FrameQuotes message) line fs s = fails_quoting line message fs s
framed_end (FrameAsks question asked) line fs s = Now (Asking question (Hears asked line ∷ fs)) s
framed_end (FrameWalks v) line fs s = pairs (v ∷ []) line fs s

abbrev pub with_frames : Framed Proc → Slots → Slots
with_frames f s = record s { heap = f.heap; frames = f.frames }

abbrev pub framed : Framed Proc → Option ℕ → List SFrame → Slots → Move
framed f line fs s = Costs f.charge (framed_end f.end line fs (with_frames f s))

-- `gsub` answers at once, or asks behind its charge
abbrev pub gsub : GsubForm Proc → Option ℕ → List SFrame → Slots → Move
gsub (GsubAnswers p) line fs s = plain p line fs s
gsub (GsubAsks charge job limit) line fs s = Costs charge (replaces job limit nothing_yet line fs s)

-- a function that calls back, or sees more of a run
abbrev pub call_back : CWorld → Caller → List Value → Option ℕ → List SFrame → Slots → Move
call_back world Pcall args line fs s = pcall args line fs s
call_back world Xpcall args line fs s = xpcall args line fs s
call_back world ToString args line fs s = to_string args line fs s
call_back world Pairs args line fs s = pairs args line fs s
call_back world Ipairs args line fs s = ipairs args line fs s
call_back world NextPlace args line fs s = ipairs_step args line fs s
call_back world Require args line fs s = require world args line fs s
call_back world LoadData args line fs s = load_data args line fs s
call_back world StrictRead args line fs s = strict_index args line fs s
call_back world StrictWrite args line fs s = strict_new_index args line fs s
call_back world (Gsub alphabet) args line fs s = gsub (gsub_form alphabet args s.heap) line fs s

abbrev pub does : CWorld → Form Proc → List Value → Option ℕ → List SFrame → Slots → Move
does world (Answers p) args line fs s = plain p line fs s
does world (InFrames f) args line fs s = framed f line fs s
does world (CallsBack caller) args line fs s = call_back world caller args line fs s

-- A FUNCTION OF THE LIBRARY IS ENTERED, at this line
abbrev pub enters_library : CWorld → Library → List Value → Option ℕ → List SFrame → Slots → Move
enters_library world which args line fs s = Enters (Marks (does world (form (page_alone world) which args s.heap s.frames) args line (LibraryEnd ∷ fs) s))

-- WHAT WAITS FOR A CALL
abbrev pub resumes : Pending → Outcome (List Value) Jump → Option ℕ → List SFrame → Slots → Move
resumes PcallWaits o line fs s = pcall_answer o fs s
resumes (XpcallWaits h) o line fs s = xpcall_answer h o line fs s
resumes HandlerWaits o line fs s = handler_answer o fs s
resumes ToStringWaits o line fs s = string_answer o line fs s
resumes PairsWaits o line fs s = three_answer o fs s
resumes (GsubWaits w) o line fs s = gsub_answer w o line fs s
resumes (ModuleWaits title) o line fs s = module_answer title o fs s

-- WHAT WAITS FOR AN ANSWER
abbrev pub text_answer : Outcome (List Value) Jump → List SFrame → Slots → Move
text_answer (Goes (Text t ∷ [])) fs s = gives_text t fs s
text_answer outcome fs s = jumps (Raised (Text wrong_answer)) fs s

abbrev pub template_answer : Bytes → Outcome (List Value) Jump → Option ℕ → List SFrame → Slots → Move
template_answer text (Goes []) line fs s = fails_quoting line (no_template text) fs s
template_answer text outcome line fs s = text_answer outcome fs s

abbrev pub hears : Asked → Outcome (List Value) Jump → Option ℕ → List SFrame → Slots → Move
hears (TemplateAsked text) o line fs s = template_answer text o line fs s
hears TextAsked o line fs s = text_answer o fs s
hears (DataAsked text title) o line fs s = data_answer text title o line fs s
