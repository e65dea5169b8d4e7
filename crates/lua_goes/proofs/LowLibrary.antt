-- What waits in functions of the library, and at the bottom of a run, leads below its weight with the outcome.
use Rattle.std.proofs.Common.{◌≡◌, ℕ, zero, suc, ◌+◌, ◌*◌, List, [], ◌∷◌, ◌++◌, length, Option, Some, None, arith}
use Rattle.std.specs.Prelude.{Ok, Err, codes}
use Rattle.lua_slots.specs.WkBaseDeclaredTitleTitle.{Title}
use Rattle.lua_slots.specs.PageRunOutcome.{Outcome, Goes, Jumps}
use Rattle.lua_slots.specs.MwHtmlRender.{Piece, Whole, Deep, render}
use Rattle.lua_slots.specs.LuaHeapValue.{Value, Text, Table, Markup, is_nil}
use Rattle.lua_slots.specs.LuaMeaningScope.{Bytes}
use Rattle.lua_slots.specs.LuaMeaningQuestions.{Asked, TemplateAsked, TextAsked, DataAsked}
use Rattle.lua_slots.specs.LuaMeaningValues.{first, text_in, is_function}
use Rattle.lua_slots.specs.LuaMeaningActs.{Jump, Returned, Broke, Raised}
use Rattle.lua_slots.specs.LuaMeaningMetatables.{handler}
use Rattle.lua_slots.specs.LuaMeaningCallBacks.{text_of}
use Rattle.lua_slots.specs.LuaMeaningArguments.{Argument}
use Rattle.lua_slots.specs.LuaMeaningGsub.{Replacement, ByText, ByTable, ByFunction, Job, Far, Replacing, Search, NoMatch, Matched, search, GoesOnWith, replacement_given, with_piece}
use Rattle.lua_slots.specs.LuaMeaningPending.{Pending, PcallWaits, XpcallWaits, HandlerWaits, ToStringWaits, PairsWaits, GsubWaits, ModuleWaits}
use Rattle.lua_slots.specs.LuaMeaningStart.{Failed, data_value}
use Rattle.lua_slots.proofs.LuaMeaningGsubLaws.{matches_go_on}
use Rattle.lua_slots.specs.Slots.{Slots}
use Rattle.lua_slots.specs.Points.{SFrame, Waits, Texts, Now}
use Rattle.lua_slots.specs.CallBacks as callbacks
use Rattle.lua_slots.specs.Errors as errors
use Rattle.lua_slots.specs.Gsub as gsubs
use Rattle.lua_slots.specs.Modules as modules
use Rattle.lua_slots.specs.Libraries as libraries
use Rattle.lua_slots.specs.Starts as starts
use Rattle.lua_goes.specs.Weight.{of_outcome, of_texts, of_pending, of_frames}
use Rattle.lua_goes.proofs.LowValues.{IsLow, now, below, pays, both, fails, fails_quoting, call, index, index_table}

-- FUNCTIONS THAT CALL BACK
pcall_answer : (o : Outcome (List Value) Jump) (fs : List SFrame) (s : Slots) → IsLow (callbacks.pcall_answer o fs s) (of_outcome o + (5 + of_frames fs))
pcall_answer (Goes vs) fs s = now (omega arith)
pcall_answer (Jumps (Raised v)) fs s = now (omega arith)
pcall_answer (Jumps j) fs s = now (omega arith)

xpcall_answer : (h : Value) (o : Outcome (List Value) Jump) (line : Option ℕ) (fs : List SFrame) (s : Slots) → IsLow (callbacks.xpcall_answer h o line fs s) (of_outcome o + (6 + of_frames fs))
xpcall_answer h (Goes vs) line fs s = now (omega arith)
xpcall_answer h (Jumps (Raised v)) line fs s = below (omega arith) (call h (v ∷ []) None _ s)
xpcall_answer h (Jumps j) line fs s = now (omega arith)

handler_answer : (o : Outcome (List Value) Jump) (fs : List SFrame) (s : Slots) → IsLow (callbacks.handler_answer o fs s) (of_outcome o + (5 + of_frames fs))
handler_answer (Goes vs) fs s = now (omega arith)
handler_answer (Jumps (Raised v)) fs s = now (omega arith)
handler_answer (Jumps j) fs s = now (omega arith)

gives_text : (t : Bytes) (n : ℕ) (fs : List SFrame) (s : Slots) → IsLow (callbacks.gives_text t fs s) (n + (4 + of_frames fs))
gives_text t n fs s = pays _ _ (now (omega arith))

string_given : (t : Option Bytes) (n : ℕ) (line : Option ℕ) (fs : List SFrame) (s : Slots) → IsLow (callbacks.string_given t line fs s) (n + (4 + of_frames fs))
string_given (Some t) n line fs s = gives_text t n fs s
string_given None n line fs s = below (omega arith) (fails line _ fs s)

string_answer : (o : Outcome (List Value) Jump) (line : Option ℕ) (fs : List SFrame) (s : Slots) → IsLow (callbacks.string_answer o line fs s) (of_outcome o + (3 + of_frames fs))
string_answer (Goes vs) line fs s = below (omega arith) (string_given (text_in (first vs)) (2 * length vs) line fs s)
string_answer (Jumps j) line fs s = now (omega arith)

three_answer : (o : Outcome (List Value) Jump) (fs : List SFrame) (s : Slots) → IsLow (callbacks.three_answer o fs s) (of_outcome o + (7 + of_frames fs))
three_answer (Goes vs) fs s = now (omega arith)
three_answer (Jumps j) fs s = now (omega arith)

-- `gsub`: a search that costs nothing leads to one with fewer matches behind it
asks : (by : Replacement) (captures : List Value) (fs : List SFrame) (s : Slots) → IsLow (gsubs.asks by captures fs s) (4 + of_frames fs)
asks (ByFunction f) captures fs s = below (omega arith) (call f captures None fs s)
asks (ByTable t) captures fs s = index (Table t) (first captures) None fs s
asks (ByText text) captures fs s = now (omega arith)

finish : (job : Job) (far : Far) (n : ℕ) (fs : List SFrame) (s : Slots) → IsLow (gsubs.finish job far fs s) (6 + (n + of_frames fs))
finish job far n fs s = pays _ _ (now (omega arith))

asks_on : (job : Job) (limit : ℕ) (far : Far) (found : Search) → GoesOnWith job limit found → (line : Option ℕ) (fs : List SFrame) (s : Slots)
    → IsLow (gsubs.asks_on job far found line fs s) (9 + (3 * limit + of_frames fs))
asks_on job limit far (NoMatch tries) behind line fs s = pays _ _ (below (omega arith) (finish job far (3 * limit) fs s))
asks_on job limit far (Matched tries captures w) behind line fs s =
    let e : w.limit ≡ limit = behind.1 in
    pays _ _ (below (omega (arith, e)) (asks w.job.by captures (Waits (GsubWaits w) line ∷ fs) s))

replaces : (job : Job) (limit : ℕ) (far : Far) (line : Option ℕ) (fs : List SFrame) (s : Slots) → IsLow (gsubs.replaces job limit far line fs s) (6 + (3 * limit + of_frames fs))
replaces job zero far line fs s = finish job far 0 fs s
replaces job (suc limit) far line fs s = below (omega arith) (asks_on job limit far (search job limit far) (matches_go_on job limit far) line fs s)

piece_given : (w : Replacing) (a : Argument Bytes) (line : Option ℕ) (fs : List SFrame) (s : Slots)
    → IsLow (errors.with_argument a line fs s (λ piece. gsubs.puts w piece line fs s)) (6 + (3 * w.limit + of_frames fs))
piece_given w (Ok piece) line fs s = pays _ _ (replaces w.job w.limit (with_piece w.far piece) line fs s)
piece_given w (Err message) line fs s = below (omega arith) (fails line message fs s)

gsub_answer : (w : Replacing) (o : Outcome (List Value) Jump) (line : Option ℕ) (fs : List SFrame) (s : Slots) → IsLow (gsubs.gsub_answer w o line fs s) (of_outcome o + (3 * w.limit + 5 + of_frames fs))
gsub_answer w (Goes vs) line fs s = below (omega arith) (piece_given w (replacement_given w.matched (first vs)) line fs s)
gsub_answer w (Jumps j) line fs s = now (omega arith)

module_answer : (title : Title) (o : Outcome (List Value) Jump) (fs : List SFrame) (s : Slots) → IsLow (modules.module_answer title o fs s) (of_outcome o + (3 + of_frames fs))
module_answer title (Goes vs) fs s = now (omega arith)
module_answer title (Jumps j) fs s = now (omega arith)

pub resumes : (p : Pending) (o : Outcome (List Value) Jump) (line : Option ℕ) (fs : List SFrame) (s : Slots) → IsLow (libraries.resumes p o line fs s) (of_outcome o + (of_pending p + of_frames fs))
resumes PcallWaits o line fs s = pcall_answer o fs s
resumes (XpcallWaits h) o line fs s = xpcall_answer h o line fs s
resumes HandlerWaits o line fs s = handler_answer o fs s
resumes ToStringWaits o line fs s = string_answer o line fs s
resumes PairsWaits o line fs s = three_answer o fs s
resumes (GsubWaits w) o line fs s = gsub_answer w o line fs s
resumes (ModuleWaits title) o line fs s = module_answer title o fs s

-- ANSWERS
text_answer : (o : Outcome (List Value) Jump) (fs : List SFrame) (s : Slots) → IsLow (libraries.text_answer o fs s) (of_outcome o + (3 + of_frames fs))
text_answer (Goes (Text t ∷ [])) fs s = below (omega arith) (gives_text t 1 fs s)
text_answer (Goes vs) fs s = now (omega arith)
text_answer (Jumps (Returned vs)) fs s = now (omega arith)
text_answer (Jumps j) fs s = now (omega arith)

template_answer : (text : Bytes) (o : Outcome (List Value) Jump) (line : Option ℕ) (fs : List SFrame) (s : Slots) → IsLow (libraries.template_answer text o line fs s) (of_outcome o + (3 + of_frames fs))
template_answer text (Goes []) line fs s = below (omega arith) (fails_quoting line _ fs s)
template_answer text (Goes (v ∷ vs)) line fs s = text_answer (Goes (v ∷ vs)) fs s
template_answer text (Jumps j) line fs s = text_answer (Jumps j) fs s

data_answer : (text : Bytes) (title : Title) (o : Outcome (List Value) Jump) (line : Option ℕ) (fs : List SFrame) (s : Slots) → IsLow (modules.data_answer text title o line fs s) (of_outcome o + (3 + of_frames fs))
data_answer text title (Goes (Table t ∷ [])) line fs s = now (omega arith)
data_answer text title (Goes []) line fs s = below (omega arith) (fails_quoting line _ fs s)
data_answer text title (Goes vs) line fs s = now (omega arith)
data_answer text title (Jumps (Returned vs)) line fs s = now (omega arith)
data_answer text title (Jumps j) line fs s = now (omega arith)

pub hears : (a : Asked) (o : Outcome (List Value) Jump) (line : Option ℕ) (fs : List SFrame) (s : Slots) → IsLow (libraries.hears a o line fs s) (of_outcome o + (3 + of_frames fs))
hears (TemplateAsked text) o line fs s = template_answer text o line fs s
hears TextAsked o line fs s = text_answer o fs s
hears (DataAsked text title) o line fs s = data_answer text title o line fs s

-- THE END OF A RUN
pub invoke_jumps : (j : Jump) (n : ℕ) (fs : List SFrame) (s : Slots) → IsLow (starts.invoke_ends (Jumps j) fs s) (of_outcome (Jumps j) + (1 + n + of_frames fs))
invoke_jumps (Returned vs) n fs s = now (omega arith)
invoke_jumps Broke n fs s = now (omega arith)
invoke_jumps (Raised v) n fs s = now (omega arith)

pub data_jumps : (j : Jump) (fs : List SFrame) (s : Slots) → IsLow (starts.data_ends (Jumps j) fs s) (of_outcome (Jumps j) + (3 + of_frames fs))
data_jumps (Returned vs) fs s = now (omega arith)
data_jumps Broke fs s = now (omega arith)
data_jumps (Raised v) fs s = now (omega arith)

pub data_given : (v : Value) (n : ℕ) (fs : List SFrame) (s : Slots) → IsLow (starts.data_ends (Goes (data_value v)) fs s) (n + (4 + of_frames fs))
data_given (Table t) n fs s = now (omega arith)
data_given v n fs s = now (omega arith)

whole_or_fail : (p : Piece) (vs : List Value) (before : Bytes) (fs : List SFrame) (s : Slots) → IsLow (starts.whole_or_fail p vs before fs s) (2 + of_texts (length vs) + of_frames fs)
whole_or_fail (Whole bytes begun) vs before fs s = now (omega arith)
whole_or_fail (Deep bytes begun) vs before fs s = now (omega arith)

text_by : (h v : Value) (vs : List Value) (before : Bytes) (fs : List SFrame) (s : Slots) → IsLow (starts.text_by h v vs before fs s) (2 + of_texts (length vs) + of_frames fs)
text_by h v vs before fs s = both (is_nil h) (Now (Texts vs (before ++ text_of v) fs) s) _ (now (omega arith)) (below (omega arith) (call h (v ∷ []) None _ s))

next_text : (v : Value) (vs : List Value) (before : Bytes) (fs : List SFrame) (s : Slots) → IsLow (starts.next_text v vs before fs s) (2 + of_texts (length vs) + of_frames fs)
next_text (Markup m) vs before fs s = pays _ _ (whole_or_fail (render s.heap.markup m) vs before fs s)
next_text v vs before fs s = text_by (handler s.heap v (codes "__tostring")) v vs before fs s

pub texts : (vs : List Value) (before : Bytes) (fs : List SFrame) (s : Slots) → IsLow (starts.texts vs before fs s) (of_texts (length vs) + of_frames fs)
texts [] before fs s = pays _ _ (now (omega arith))
texts (v ∷ vs) before fs s = below (omega arith) (next_text v vs before fs s)

pub text_given : (t : Option Bytes) (n : ℕ) (vs : List Value) (before : Bytes) (fs : List SFrame) (s : Slots) → IsLow (starts.text_given t vs before fs s) (n + (1 + of_texts (length vs) + of_frames fs))
text_given (Some t) n vs before fs s = now (omega arith)
text_given None n vs before fs s = now (omega arith)

pub invoke_in : (name : Bytes) (v frame : Value) (n : ℕ) (fs : List SFrame) (s : Slots) → IsLow (starts.invoke_in name v frame fs s) (n + (9 + of_frames fs))
invoke_in name (Table t) frame n fs s = below (omega arith) (index_table t (Text name) None _ s)
invoke_in name v frame n fs s = now (omega arith)

pub invoke_function : (name : Bytes) (f frame : Value) (n : ℕ) (fs : List SFrame) (s : Slots) → IsLow (starts.invoke_function name f frame fs s) (n + (6 + of_frames fs))
invoke_function name f frame n fs s =
    both (is_function f) _ (starts.invoke_ends (Goes (Failed (codes "Script error: The function \"" ++ name ++ codes "\" does not exist."))) fs s)
    (below (omega arith) (call f (frame ∷ []) None _ s)) (now (omega arith))
