-- What functions of the library do has no mark, and neither has the start of a run.
use Rattle.std.proofs.Common.{ℕ, zero, suc, true, List, [], ◌∷◌, ◌++◌, Option, Some, None, refl}
use Rattle.std.specs.Prelude.{ℤ, pos, ◌+ℤ◌, Result, Ok, Err, bytes_eq, codes}
use Rattle.lua_meaning.specs.WkBaseDeclaredTitleTitle.{Title}
use Rattle.lua_meaning.specs.WkBaseDeclaredTitleNamespaceTheVariants.{Main}
use Rattle.lua_meaning.specs.WkBaseDeclaredTitleReadTitleFault.{TitleFault}
use Rattle.lua_meaning.specs.WkBaseTitles.{title_text, title_of}
use Rattle.lua_meaning.specs.LuaSyntaxDeclaredFaultFaultAt.{FaultAt}
use Rattle.lua_meaning.specs.PageRunOutcome.{Outcome, Goes, Jumps}
use Rattle.lua_meaning.specs.LuaNumberWhole.{fits}
use Rattle.lua_meaning.specs.MwHtmlRender.{Piece, Whole, Deep, render}
use Rattle.lua_meaning.specs.LuaHeapProc.{Proc}
use Rattle.lua_meaning.specs.LuaHeapValue.{Value, Nil, Truth, Number, Text, Table, Builtin, Markup, is_nil}
use Rattle.lua_meaning.specs.LuaHeapTable.{get}
use Rattle.lua_meaning.specs.LuaHeapHeap.{table_at}
use Rattle.lua_meaning.specs.LuaHeapDeclaredLibraryLibraryTheVariants.{BasicNext, IpairsStep}
use Rattle.lua_meaning.specs.Scope.{Bytes}
use Rattle.lua_meaning.specs.Titled.{item_of}
use Rattle.lua_meaning.specs.Questions.{Asked, TemplateAsked, TextAsked, DataAsked}
use Rattle.lua_meaning.specs.Values.{first, rest, text_in, is_function}
use Rattle.lua_meaning.specs.Acts.{Jump, Raised, Progress, Running, Finished}
use Rattle.lua_meaning.specs.Metatables.{handler}
use Rattle.lua_meaning.specs.Arguments.{Plain, a_table, a_number, a_text}
use Rattle.lua_meaning.specs.Html.{text_of_object}
use Rattle.lua_meaning.specs.CallBacks.{text_of}
use Rattle.lua_meaning.specs.FrameMethods.{FramedEnd, FrameEnds, FrameQuotes, FrameAsks, FrameWalks}
use Rattle.lua_meaning.specs.Gsub.{Replacement, ByText, ByTable, ByFunction, Job, Far, Replacing, Search, NoMatch, Matched, search, replacement_given, with_piece, nothing_yet, GsubForm, GsubAnswers, GsubAsks, gsub_form}
use Rattle.lua_meaning.specs.Pending.{Pending, PcallWaits, XpcallWaits, HandlerWaits, ToStringWaits, PairsWaits, GsubWaits, ModuleWaits}
use Rattle.lua_meaning.specs.Libraries.{Caller, Pcall, Xpcall, ToString, Pairs, Ipairs, NextPlace, Require, LoadData, StrictRead, StrictWrite, Gsub, Form, Answers, InFrames, CallsBack}
use Rattle.lua_meaning.specs.Start.{Work, Invoke, DataOf, Failed}
use Rattle.lua_slots.specs.Code.{Protos, CModule, CWorld}
use Rattle.lua_slots.specs.Slots.{Slots, with_heap}
use Rattle.lua_slots.specs.Points.{SFrame, Waits, DataNow, Texts, Costs, Now}
use Rattle.lua_slots.specs.Errors as errors
use Rattle.lua_slots.specs.CallBacks as callbacks
use Rattle.lua_slots.specs.Gsub as gsubs
use Rattle.lua_slots.specs.Modules as modules
use Rattle.lua_slots.specs.Libraries as libraries
use Rattle.lua_slots.specs.Starts as starts
use Rattle.lua_slots.proofs.QuietValues.{IsQuiet, still, both, fails, fails_quoting, ends, with_argument, call, index, index_table}

-- FUNCTIONS THAT CALL BACK
pub pcall_answer : (o : Outcome (List Value) Jump) (fs : List SFrame) (s : Slots) → IsQuiet (callbacks.pcall_answer o fs s)
pcall_answer (Goes vs) fs s = still refl
pcall_answer (Jumps (Raised v)) fs s = still refl
pcall_answer (Jumps j) fs s = still refl

pub xpcall_answer : (h : Value) (o : Outcome (List Value) Jump) (line : Option ℕ) (fs : List SFrame) (s : Slots) → IsQuiet (callbacks.xpcall_answer h o line fs s)
xpcall_answer h (Goes vs) line fs s = still refl
xpcall_answer h (Jumps (Raised v)) line fs s = call h (v ∷ []) None _ s
xpcall_answer h (Jumps j) line fs s = still refl

handler_answer : (o : Outcome (List Value) Jump) (fs : List SFrame) (s : Slots) → IsQuiet (callbacks.handler_answer o fs s)
handler_answer (Goes vs) fs s = still refl
handler_answer (Jumps (Raised v)) fs s = still refl
handler_answer (Jumps j) fs s = still refl

to_string_by : (h v : Value) (line : Option ℕ) (fs : List SFrame) (s : Slots) → IsQuiet (callbacks.to_string_by h v line fs s)
to_string_by h v line fs s = both (is_nil h) (callbacks.gives_text (text_of v) fs s) _ (still refl) (call h (v ∷ []) None _ s)

-- a function that calls back nobody
plain : (p : Plain Proc) (line : Option ℕ) (fs : List SFrame) (s : Slots) → IsQuiet (errors.plain p line fs s)
plain p line fs s = still (ends p.end line fs (with_heap p.heap s)).none

to_string_of : (v : Value) (line : Option ℕ) (fs : List SFrame) (s : Slots) → IsQuiet (callbacks.to_string_of v line fs s)
to_string_of (Markup m) line fs s = plain (text_of_object m s.heap) line fs s
to_string_of v line fs s = to_string_by (handler s.heap v (codes "__tostring")) v line fs s

string_given : (t : Option Bytes) (line : Option ℕ) (fs : List SFrame) (s : Slots) → IsQuiet (callbacks.string_given t line fs s)
string_given (Some t) line fs s = still refl
string_given None line fs s = fails line _ fs s

string_answer : (o : Outcome (List Value) Jump) (line : Option ℕ) (fs : List SFrame) (s : Slots) → IsQuiet (callbacks.string_answer o line fs s)
string_answer (Goes vs) line fs s = string_given (text_in (first vs)) line fs s
string_answer (Jumps j) line fs s = still refl

pairs_by : (h : Value) (args : List Value) (line : Option ℕ) (fs : List SFrame) (s : Slots) → IsQuiet (callbacks.pairs_by h args line fs s)
pairs_by h args line fs s = both (is_nil h) _ _ (with_argument (a_table 1 (codes "pairs") args) line fs s (λ t. errors.gives (Builtin BasicNext ∷ Table t ∷ Nil ∷ []) fs s) (λ t. still refl)) (call h (first args ∷ []) None _ s)

pairs : (args : List Value) (line : Option ℕ) (fs : List SFrame) (s : Slots) → IsQuiet (callbacks.pairs args line fs s)
pairs args line fs s = pairs_by (handler s.heap (first args) (codes "__pairs")) args line fs s

ipairs_by : (h : Value) (args : List Value) (line : Option ℕ) (fs : List SFrame) (s : Slots) → IsQuiet (callbacks.ipairs_by h args line fs s)
ipairs_by h args line fs s = both (is_nil h) _ _ (with_argument (a_table 1 (codes "ipairs") args) line fs s (λ t. errors.gives (Builtin IpairsStep ∷ Table t ∷ Number (pos 0) ∷ []) fs s) (λ t. still refl)) (call h (first args ∷ []) None _ s)

three_answer : (o : Outcome (List Value) Jump) (fs : List SFrame) (s : Slots) → IsQuiet (callbacks.three_answer o fs s)
three_answer (Goes vs) fs s = still refl
three_answer (Jumps j) fs s = still refl

next_place : (t : ℕ) (n : ℤ) (fs : List SFrame) (s : Slots) → IsQuiet (callbacks.next_place t n fs s)
next_place t n fs s = both (fits (n +ℤ pos 1)) (errors.gives (callbacks.place_and_value (n +ℤ pos 1) (get (table_at s.heap t).entries (Number (n +ℤ pos 1)))) fs s) (errors.gives (Nil ∷ []) fs s) (still refl) (still refl)

ipairs_step : (args : List Value) (line : Option ℕ) (fs : List SFrame) (s : Slots) → IsQuiet (callbacks.ipairs_step args line fs s)
ipairs_step args line fs s =
    with_argument (a_table 1 (codes "ipairs") args) line fs s _ (λ t.
    with_argument (a_number 2 (codes "ipairs") (rest args)) line fs s _ (λ n. next_place t n fs s))

-- `gsub`
asks : (by : Replacement) (captures : List Value) (fs : List SFrame) (s : Slots) → IsQuiet (gsubs.asks by captures fs s)
asks (ByFunction f) captures fs s = call f captures None fs s
asks (ByTable t) captures fs s = index (Table t) (first captures) None fs s
asks (ByText text) captures fs s = still refl

asks_on : (job : Job) (far : Far) (found : Search) (line : Option ℕ) (fs : List SFrame) (s : Slots) → IsQuiet (gsubs.asks_on job far found line fs s)
asks_on job far (NoMatch tries) line fs s = still refl
asks_on job far (Matched tries captures w) line fs s = still (asks w.job.by captures (Waits (GsubWaits w) line ∷ fs) s).none

replaces : (job : Job) (limit : ℕ) (far : Far) (line : Option ℕ) (fs : List SFrame) (s : Slots) → IsQuiet (gsubs.replaces job limit far line fs s)
replaces job zero far line fs s = still refl
replaces job (suc limit) far line fs s = asks_on job far (search job limit far) line fs s

gsub_answer : (w : Replacing) (o : Outcome (List Value) Jump) (line : Option ℕ) (fs : List SFrame) (s : Slots) → IsQuiet (gsubs.gsub_answer w o line fs s)
gsub_answer w (Goes vs) line fs s = with_argument (replacement_given w.matched (first vs)) line fs s _ (λ piece. still (replaces w.job w.limit (with_piece w.far piece) line fs s).none)
gsub_answer w (Jumps j) line fs s = still refl

gsub : (f : GsubForm Proc) (line : Option ℕ) (fs : List SFrame) (s : Slots) → IsQuiet (libraries.gsub f line fs s)
gsub (GsubAnswers p) line fs s = still (ends p.end line fs (with_heap p.heap s)).none
gsub (GsubAsks charge job limit) line fs s = still (replaces job limit nothing_yet line fs s).none

-- MODULES
begins_text : (title : Title) (code : Result Protos FaultAt) (fs : List SFrame) (s : Slots) → IsQuiet (modules.begins_text title code fs s)
begins_text title (Ok at) fs s = still refl
begins_text title (Err fault) fs s = still refl

runs_text : (title : Title) (m : CModule) (fs : List SFrame) (s : Slots) → IsQuiet (modules.runs_text title m fs s)
runs_text title m fs s = still (begins_text title m.code fs s).none

module_answer : (title : Title) (o : Outcome (List Value) Jump) (fs : List SFrame) (s : Slots) → IsQuiet (modules.module_answer title o fs s)
module_answer title (Goes vs) fs s = still refl
module_answer title (Jumps j) fs s = still refl

require_as : (text : Bytes) (title : Title) (p : Option Progress) (m : Option CModule) (line : Option ℕ) (fs : List SFrame) (s : Slots) → IsQuiet (modules.require_as text title p m line fs s)
require_as text title (Some (Finished v)) m line fs s = still refl
require_as text title (Some Running) m line fs s = fails_quoting line _ fs s
require_as text title None (Some m) line fs s = runs_text title m _ _
require_as text title None None line fs s = fails_quoting line _ fs s

require_module : (world : CWorld) (text : Bytes) (title : Title) (line : Option ℕ) (fs : List SFrame) (s : Slots) → IsQuiet (modules.require_module world text title line fs s)
require_module world text title line fs s = require_as text title (item_of s.modules title) (world.modules (title_text title)) line fs s

require_titled : (world : CWorld) (text : Bytes) (t : Result Title TitleFault) (line : Option ℕ) (fs : List SFrame) (s : Slots) → IsQuiet (modules.require_titled world text t line fs s)
require_titled world text (Ok title) line fs s = require_module world text title line fs s
require_titled world text (Err fault) line fs s = fails_quoting line _ fs s

require_text : (world : CWorld) (text : Bytes) (line : Option ℕ) (fs : List SFrame) (s : Slots) → IsQuiet (modules.require_text world text line fs s)
require_text world text line fs s = both (bytes_eq text (codes "strict")) (Costs 16 (errors.gives (Truth true ∷ []) fs (modules.with_strict s))) _ (still refl) (require_titled world text (title_of text Main) line fs s)

require : (world : CWorld) (args : List Value) (line : Option ℕ) (fs : List SFrame) (s : Slots) → IsQuiet (modules.require world args line fs s)
require world args line fs s = with_argument (a_text 1 (codes "require") args) line fs s _ (λ text. require_text world text line fs s)

data_answer : (text : Bytes) (title : Title) (o : Outcome (List Value) Jump) (line : Option ℕ) (fs : List SFrame) (s : Slots) → IsQuiet (modules.data_answer text title o line fs s)
data_answer text title (Goes (Table t ∷ [])) line fs s = still refl
data_answer text title (Goes []) line fs s = fails_quoting line _ fs s
data_answer text title (Jumps (Raised v)) line fs s = still refl
data_answer text title o line fs s = still refl

load_as : (text : Bytes) (title : Title) (root : Option Value) (line : Option ℕ) (fs : List SFrame) (s : Slots) → IsQuiet (modules.load_as text title root line fs s)
load_as text title (Some root) line fs s = still refl
load_as text title None line fs s = still refl

load_titled : (text : Bytes) (t : Result Title TitleFault) (line : Option ℕ) (fs : List SFrame) (s : Slots) → IsQuiet (modules.load_titled text t line fs s)
load_titled text (Ok title) line fs s = load_as text title (item_of s.data_ title) line fs s
load_titled text (Err fault) line fs s = fails_quoting line _ fs s

load_data : (args : List Value) (line : Option ℕ) (fs : List SFrame) (s : Slots) → IsQuiet (modules.load_data args line fs s)
load_data args line fs s = with_argument (a_text 1 (codes "loadData") args) line fs s _ (λ text. load_titled text (title_of text Main) line fs s)

-- THE LIBRARY
framed_end : (e : FramedEnd) (line : Option ℕ) (fs : List SFrame) (s : Slots) → IsQuiet (libraries.framed_end e line fs s)
framed_end (FrameEnds end) line fs s = ends end line fs s
framed_end (FrameQuotes message) line fs s = fails_quoting line message fs s
framed_end (FrameAsks question asked) line fs s = still refl
framed_end (FrameWalks v) line fs s = pairs (v ∷ []) line fs s

call_back : (world : CWorld) (c : Caller) (args : List Value) (line : Option ℕ) (fs : List SFrame) (s : Slots) → IsQuiet (libraries.call_back world c args line fs s)
call_back world Pcall args line fs s = call (first args) (rest args) None _ s
call_back world Xpcall args line fs s = call (first args) [] None _ s
call_back world ToString args line fs s = to_string_of (first args) line fs s
call_back world Pairs args line fs s = pairs args line fs s
call_back world Ipairs args line fs s = ipairs_by (handler s.heap (first args) (codes "__ipairs")) args line fs s
call_back world NextPlace args line fs s = ipairs_step args line fs s
call_back world Require args line fs s = require world args line fs s
call_back world LoadData args line fs s = load_data args line fs s
call_back world StrictRead args line fs s = fails_quoting line _ fs s
call_back world StrictWrite args line fs s = fails_quoting line _ fs s
call_back world (Gsub alphabet) args line fs s = gsub (gsub_form alphabet args s.heap) line fs s

pub does : (world : CWorld) (f : Form Proc) (args : List Value) (line : Option ℕ) (fs : List SFrame) (s : Slots) → IsQuiet (libraries.does world f args line fs s)
does world (Answers p) args line fs s = plain p line fs s
does world (InFrames f) args line fs s = still (framed_end f.end line fs (libraries.with_frames f s)).none
does world (CallsBack caller) args line fs s = call_back world caller args line fs s

pub resumes : (p : Pending) (o : Outcome (List Value) Jump) (line : Option ℕ) (fs : List SFrame) (s : Slots) → IsQuiet (libraries.resumes p o line fs s)
resumes PcallWaits o line fs s = pcall_answer o fs s
resumes (XpcallWaits h) o line fs s = xpcall_answer h o line fs s
resumes HandlerWaits o line fs s = handler_answer o fs s
resumes ToStringWaits o line fs s = string_answer o line fs s
resumes PairsWaits o line fs s = three_answer o fs s
resumes (GsubWaits w) o line fs s = gsub_answer w o line fs s
resumes (ModuleWaits title) o line fs s = module_answer title o fs s

text_answer : (o : Outcome (List Value) Jump) (fs : List SFrame) (s : Slots) → IsQuiet (libraries.text_answer o fs s)
text_answer (Goes (Text t ∷ [])) fs s = still refl
text_answer o fs s = still refl

template_answer : (text : Bytes) (o : Outcome (List Value) Jump) (line : Option ℕ) (fs : List SFrame) (s : Slots) → IsQuiet (libraries.template_answer text o line fs s)
template_answer text (Goes []) line fs s = fails_quoting line _ fs s
template_answer text (Goes (v ∷ vs)) line fs s = text_answer (Goes (v ∷ vs)) fs s
template_answer text (Jumps j) line fs s = still refl

pub hears : (a : Asked) (o : Outcome (List Value) Jump) (line : Option ℕ) (fs : List SFrame) (s : Slots) → IsQuiet (libraries.hears a o line fs s)
hears (TemplateAsked text) o line fs s = template_answer text o line fs s
hears TextAsked o line fs s = text_answer o fs s
hears (DataAsked text title) o line fs s = data_answer text title o line fs s

-- THE START AND THE END OF A RUN
whole_or_fail : (p : Piece) (vs : List Value) (before : Bytes) (fs : List SFrame) (s : Slots) → IsQuiet (starts.whole_or_fail p vs before fs s)
whole_or_fail (Whole bytes begun) vs before fs s = still refl
whole_or_fail (Deep bytes begun) vs before fs s = still refl

text_by : (h v : Value) (vs : List Value) (before : Bytes) (fs : List SFrame) (s : Slots) → IsQuiet (starts.text_by h v vs before fs s)
text_by h v vs before fs s = both (is_nil h) (Now (Texts vs (before ++ text_of v) fs) s) _ (still refl) (call h (v ∷ []) None _ s)

next_text : (v : Value) (vs : List Value) (before : Bytes) (fs : List SFrame) (s : Slots) → IsQuiet (starts.next_text v vs before fs s)
next_text (Markup m) vs before fs s = still (whole_or_fail (render s.heap.markup m) vs before fs s).none
next_text v vs before fs s = text_by (handler s.heap v (codes "__tostring")) v vs before fs s

pub texts : (vs : List Value) (before : Bytes) (fs : List SFrame) (s : Slots) → IsQuiet (starts.texts vs before fs s)
texts [] before fs s = still refl
texts (v ∷ vs) before fs s = next_text v vs before fs s

pub text_given : (t : Option Bytes) (vs : List Value) (before : Bytes) (fs : List SFrame) (s : Slots) → IsQuiet (starts.text_given t vs before fs s)
text_given (Some t) vs before fs s = still refl
text_given None vs before fs s = still refl

pub invoke_in : (name : Bytes) (v frame : Value) (fs : List SFrame) (s : Slots) → IsQuiet (starts.invoke_in name v frame fs s)
invoke_in name (Table t) frame fs s = index_table t (Text name) None _ s
invoke_in name v frame fs s = still refl

pub invoke_function : (name : Bytes) (f frame : Value) (fs : List SFrame) (s : Slots) → IsQuiet (starts.invoke_function name f frame fs s)
invoke_function name f frame fs s = both (is_function f) _ (starts.invoke_ends (Goes (Failed (codes "Script error: The function \"" ++ name ++ codes "\" does not exist."))) fs s) (call f (frame ∷ []) None _ s) (still refl)

runs_data : (title : Title) (m : Option CModule) (fs : List SFrame) (s : Slots) → IsQuiet (starts.runs_data title m fs s)
runs_data title (Some m) fs s = runs_text title m fs s
runs_data title None fs s = fails None _ fs s

pub works : (world : CWorld) (w : Work) (s : Slots) → IsQuiet (starts.works world w s)
works world (Invoke job) s = still (require_module world (title_text job.«module») job.«module» None _ (starts.with_frame job s)).none
works world (DataOf title) s = still (runs_data title (world.modules (title_text title)) (DataNow ∷ []) s).none
