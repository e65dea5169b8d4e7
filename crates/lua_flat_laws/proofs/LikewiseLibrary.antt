-- What functions of the library do, and a run's start and end, is the same above other frames; and so is each move at which no code is.
use Rattle.std.proofs.Common.{ℕ, zero, suc, true, List, [], ◌∷◌, ◌++◌, ◌+◌, Option, Some, None}
use Rattle.std.specs.Prelude.{ℤ, pos, ◌+ℤ◌, Result, Ok, Err, bytes_eq, codes}
use Rattle.lua_goes.specs.WkBaseDeclaredTitleTitle.{Title}
use Rattle.lua_goes.specs.WkBaseDeclaredTitleNamespaceTheVariants.{Main}
use Rattle.lua_goes.specs.WkBaseDeclaredTitleReadTitleFault.{TitleFault}
use Rattle.lua_flat.specs.WkBaseTitles.{title_text, title_of}
use Rattle.lua_goes.specs.LuaSyntaxDeclaredFaultFaultAt.{FaultAt}
use Rattle.lua_goes.specs.MwFrameDeclaredQuestionAskTheVariants.{Data}
use Rattle.lua_goes.specs.PageRunOutcome.{Outcome, Goes, Jumps}
use Rattle.lua_goes.specs.LuaNumberWhole.{fits}
use Rattle.lua_goes.specs.MwHtmlRender.{Piece, Whole, Deep, render}
use Rattle.lua_goes.specs.LuaHeapProc.{Proc}
use Rattle.lua_goes.specs.LuaHeapValue.{Value, Nil, Truth, Number, Text, Table, Builtin, Markup, is_nil}
use Rattle.lua_goes.specs.LuaHeapTable.{get}
use Rattle.lua_goes.specs.LuaHeapHeap.{table_at}
use Rattle.lua_goes.specs.LuaHeapDeclaredLibraryLibrary.{Library}
use Rattle.lua_goes.specs.LuaHeapDeclaredLibraryLibraryTheVariants.{BasicNext, IpairsStep}
use Rattle.lua_flat.specs.LuaMeaningScope.{Bytes}
use Rattle.lua_goes.specs.LuaMeaningTitled.{item_of}
use Rattle.lua_flat.specs.LuaMeaningQuestions.{Asked, TemplateAsked, TextAsked, DataAsked}
use Rattle.lua_goes.specs.LuaMeaningValues.{first, rest, second, text_in, is_function}
use Rattle.lua_goes.specs.LuaMeaningActs.{Jump, Returned, Broke, Raised, Progress, Running, Finished}
use Rattle.lua_goes.specs.LuaMeaningMetatables.{handler}
use Rattle.lua_goes.specs.LuaMeaningArguments.{Plain, a_table, a_number, a_text}
use Rattle.lua_goes.specs.LuaMeaningHtml.{text_of_object}
use Rattle.lua_goes.specs.LuaMeaningCallBacks.{text_of}
use Rattle.lua_goes.specs.LuaMeaningFrameMethods.{FramedEnd, FrameEnds, FrameQuotes, FrameAsks, FrameWalks}
use Rattle.lua_goes.specs.LuaMeaningGsub.{Replacement, ByText, ByTable, ByFunction, Job, Far, Replacing, Search, NoMatch, Matched, search, replacement_given, with_piece, nothing_yet, GsubForm, GsubAnswers, GsubAsks, gsub_form}
use Rattle.lua_goes.specs.LuaMeaningModules.{value_or_true}
use Rattle.lua_goes.specs.LuaMeaningPending.{Pending, PcallWaits, XpcallWaits, HandlerWaits, ToStringWaits, PairsWaits, GsubWaits, ModuleWaits}
use Rattle.lua_goes.specs.LuaMeaningLibraries.{Caller, Pcall, Xpcall, ToString, Pairs, Ipairs, NextPlace, Require, LoadData, StrictRead, StrictWrite, Gsub, Form, Answers, InFrames, CallsBack, form}
use Rattle.lua_flat.specs.LuaMeaningStart.{Work, Invoke, DataOf, End, Done, DoneData, Failed, data_value, in_html, outcome_of}
use Rattle.lua_goes.specs.LuaMeaningFrames.{frame_table}
use Rattle.lua_goes.specs.MwFrameDeclaredSceneJob.{Job as RunJob}
use Rattle.lua_goes.specs.LuaSlotsCode.{Protos, CModule, CWorld}
use Rattle.lua_goes.specs.LuaSlotsSlots.{Slots, with_heap}
use Rattle.lua_goes.specs.LuaSlotsPoints.{BodyS, LibraryS, IndexLinkS, SetLinkS, CallLinkS}
use Rattle.lua_goes.specs.LuaSlotsPoints.{SFrame, First, Verdict, ItemsNext, LibraryEnd, Waits, Hears, ModuleFound, FunctionFound, AnswerNow, TextNow, DataNow, Gives, Starts, Texts, Move, Now}
use Rattle.lua_goes.specs.LuaSlotsErrors as errors
use Rattle.lua_goes.specs.LuaSlotsCalls.{text_of_module}
use Rattle.lua_goes.specs.LuaSlotsCallBacks as callbacks
use Rattle.lua_goes.specs.LuaSlotsGsub as gsubs
use Rattle.lua_goes.specs.LuaSlotsModules as modules
use Rattle.lua_goes.specs.LuaSlotsLibraries as libraries
use Rattle.lua_goes.specs.LuaSlotsExpressions as expressions
use Rattle.lua_goes.specs.LuaSlotsStarts as starts
use Rattle.lua_goes.specs.LuaSlotsMoves as to
use Rattle.lua_flat.specs.Stands.{erased, AllAway, IsAwayFrame, IsAwayOutcome}
use Rattle.lua_flat_laws.proofs.Likewise as like
use Rattle.lua_flat_laws.proofs.Likewise.{Likewise, like_costs, like_marks, like_enters, like_exits, like_goes, like_raises, like_starts, like_texts, like_asks}

away_end : (e : End) → IsAwayOutcome (outcome_of e)
away_end (Done t) = tt
away_end (DoneData v) = tt
away_end (Failed t) = tt

away_in_html : (e : End) → IsAwayOutcome (outcome_of (in_html e))
away_in_html (Failed t) = tt
away_in_html (Done t) = tt
away_in_html (DoneData v) = tt

module _ (hs fs : List SFrame) where
  abbrev Like : Slots → Move → Move → Type 0
  Like s m mv = Likewise hs fs s.regs s.functions m mv

  -- an outcome that is handed on
  handed : (gs : List SFrame) → AllAway gs → (o : Outcome (List Value) Jump) → IsAwayOutcome o → (s : Slots) → Like s (Now (Gives o (gs ++ hs)) (erased s)) (Now (Gives o (gs ++ fs)) s)
  handed gs a (Goes vs) i s = like_goes gs vs s a
  handed gs a (Jumps (Raised v)) i s = like_raises gs v s a
  handed gs a (Jumps (Returned vs)) i s = absurd i
  handed gs a (Jumps Broke) i s = absurd i

  -- FUNCTIONS THAT CALL BACK
  pcall_answer : (gs : List SFrame) → AllAway gs → (o : Outcome (List Value) Jump) → IsAwayOutcome o → (s : Slots) → Like s (callbacks.pcall_answer o (gs ++ hs) (erased s)) (callbacks.pcall_answer o (gs ++ fs) s)
  pcall_answer gs a (Goes vs) i s = like_goes gs (Truth true ∷ vs) s a
  pcall_answer gs a (Jumps (Raised v)) i s = like_goes gs _ s a
  pcall_answer gs a (Jumps (Returned vs)) i s = absurd i
  pcall_answer gs a (Jumps Broke) i s = absurd i

  xpcall_answer : (gs : List SFrame) → AllAway gs → (h : Value) (o : Outcome (List Value) Jump) → IsAwayOutcome o → (line : Option ℕ) (s : Slots) → Like s (callbacks.xpcall_answer h o line (gs ++ hs) (erased s)) (callbacks.xpcall_answer h o line (gs ++ fs) s)
  xpcall_answer gs a h (Goes vs) i line s = like_goes gs (Truth true ∷ vs) s a
  xpcall_answer gs a h (Jumps (Raised v)) i line s = like.call hs fs (Waits HandlerWaits line ∷ gs) (tt, a) h (v ∷ []) None s
  xpcall_answer gs a h (Jumps (Returned vs)) i line s = absurd i
  xpcall_answer gs a h (Jumps Broke) i line s = absurd i

  handler_answer : (gs : List SFrame) → AllAway gs → (o : Outcome (List Value) Jump) → IsAwayOutcome o → (s : Slots) → Like s (callbacks.handler_answer o (gs ++ hs) (erased s)) (callbacks.handler_answer o (gs ++ fs) s)
  handler_answer gs a (Goes vs) i s = like_goes gs _ s a
  handler_answer gs a (Jumps (Raised v)) i s = like_goes gs _ s a
  handler_answer gs a (Jumps (Returned vs)) i s = absurd i
  handler_answer gs a (Jumps Broke) i s = absurd i

  gives_text : (gs : List SFrame) → AllAway gs → (t : Bytes) (s : Slots) → Like s (callbacks.gives_text t (gs ++ hs) (erased s)) (callbacks.gives_text t (gs ++ fs) s)
  gives_text gs a t s = like_costs (like_goes gs (Text t ∷ []) s a)

  plain : (gs : List SFrame) → AllAway gs → (p : Plain Proc) (line : Option ℕ) (s : Slots) → Like s (errors.plain p line (gs ++ hs) (erased s)) (errors.plain p line (gs ++ fs) s)
  plain gs a p line s = like_costs (like.ends hs fs gs a p.end line (with_heap p.heap s))

  to_string_by : (gs : List SFrame) → AllAway gs → (h v : Value) (line : Option ℕ) (s : Slots) → Like s (callbacks.to_string_by h v line (gs ++ hs) (erased s)) (callbacks.to_string_by h v line (gs ++ fs) s)
  to_string_by gs a h v line s = like.both hs fs s (is_nil h) _ _ _ _ (gives_text gs a (text_of v) s) (like.call hs fs (Waits ToStringWaits line ∷ gs) (tt, a) h (v ∷ []) None s)

  to_string_of : (gs : List SFrame) → AllAway gs → (v : Value) (line : Option ℕ) (s : Slots) → Like s (callbacks.to_string_of v line (gs ++ hs) (erased s)) (callbacks.to_string_of v line (gs ++ fs) s)
  to_string_of gs a (Markup m) line s = plain gs a (text_of_object m s.heap) line s
  to_string_of gs a v line s = to_string_by gs a (handler s.heap v (codes "__tostring")) v line s

  string_given : (gs : List SFrame) → AllAway gs → (t : Option Bytes) (line : Option ℕ) (s : Slots) → Like s (callbacks.string_given t line (gs ++ hs) (erased s)) (callbacks.string_given t line (gs ++ fs) s)
  string_given gs a (Some t) line s = gives_text gs a t s
  string_given gs a None line s = like.fails hs fs gs a line _ s

  string_answer : (gs : List SFrame) → AllAway gs → (o : Outcome (List Value) Jump) → IsAwayOutcome o → (line : Option ℕ) (s : Slots) → Like s (callbacks.string_answer o line (gs ++ hs) (erased s)) (callbacks.string_answer o line (gs ++ fs) s)
  string_answer gs a (Goes vs) i line s = string_given gs a (text_in (first vs)) line s
  string_answer gs a (Jumps j) i line s = handed gs a (Jumps j) i s

  pairs_by : (gs : List SFrame) → AllAway gs → (h : Value) (args : List Value) (line : Option ℕ) (s : Slots) → Like s (callbacks.pairs_by h args line (gs ++ hs) (erased s)) (callbacks.pairs_by h args line (gs ++ fs) s)
  pairs_by gs a h args line s =
      like.both hs fs s (is_nil h) _ _ _ _ (like.with_argument hs fs gs a (a_table 1 (codes "pairs") args) line s _ _ (λ t. like_goes gs (Builtin BasicNext ∷ Table t ∷ Nil ∷ []) s a)) (like.call hs fs (Waits PairsWaits line ∷ gs) (tt, a) h (first args ∷ []) None s)

  pairs : (gs : List SFrame) → AllAway gs → (args : List Value) (line : Option ℕ) (s : Slots) → Like s (callbacks.pairs args line (gs ++ hs) (erased s)) (callbacks.pairs args line (gs ++ fs) s)
  pairs gs a args line s = pairs_by gs a (handler s.heap (first args) (codes "__pairs")) args line s

  ipairs_by : (gs : List SFrame) → AllAway gs → (h : Value) (args : List Value) (line : Option ℕ) (s : Slots) → Like s (callbacks.ipairs_by h args line (gs ++ hs) (erased s)) (callbacks.ipairs_by h args line (gs ++ fs) s)
  ipairs_by gs a h args line s =
      like.both hs fs s (is_nil h) _ _ _ _ (like.with_argument hs fs gs a (a_table 1 (codes "ipairs") args) line s _ _ (λ t. like_goes gs (Builtin IpairsStep ∷ Table t ∷ Number (pos 0) ∷ []) s a)) (like.call hs fs (Waits PairsWaits line ∷ gs) (tt, a) h (first args ∷ []) None s)

  three_answer : (gs : List SFrame) → AllAway gs → (o : Outcome (List Value) Jump) → IsAwayOutcome o → (s : Slots) → Like s (callbacks.three_answer o (gs ++ hs) (erased s)) (callbacks.three_answer o (gs ++ fs) s)
  three_answer gs a (Goes vs) i s = like_goes gs _ s a
  three_answer gs a (Jumps j) i s = handed gs a (Jumps j) i s

  next_place : (gs : List SFrame) → AllAway gs → (t : ℕ) (n : ℤ) (s : Slots) → Like s (callbacks.next_place t n (gs ++ hs) (erased s)) (callbacks.next_place t n (gs ++ fs) s)
  next_place gs a t n s = like.both hs fs s (fits (n +ℤ pos 1)) _ _ _ _ (like_goes gs (callbacks.place_and_value (n +ℤ pos 1) (get (table_at s.heap t).entries (Number (n +ℤ pos 1)))) s a) (like_goes gs (Nil ∷ []) s a)

  ipairs_step : (gs : List SFrame) → AllAway gs → (args : List Value) (line : Option ℕ) (s : Slots) → Like s (callbacks.ipairs_step args line (gs ++ hs) (erased s)) (callbacks.ipairs_step args line (gs ++ fs) s)
  ipairs_step gs a args line s =
      like.with_argument hs fs gs a (a_table 1 (codes "ipairs") args) line s _ _ (λ t.
      like.with_argument hs fs gs a (a_number 2 (codes "ipairs") (rest args)) line s _ _ (λ n. next_place gs a t n s))

  -- `gsub`
  asks : (gs : List SFrame) → AllAway gs → (by : Replacement) (captures : List Value) (s : Slots) → Like s (gsubs.asks by captures (gs ++ hs) (erased s)) (gsubs.asks by captures (gs ++ fs) s)
  asks gs a (ByFunction f) captures s = like.call hs fs gs a f captures None s
  asks gs a (ByTable t) captures s = like.index hs fs gs a (Table t) (first captures) None s
  asks gs a (ByText text) captures s = like_goes gs (Text text ∷ []) s a

  finish : (gs : List SFrame) → AllAway gs → (job : Job) (far : Far) (s : Slots) → Like s (gsubs.finish job far (gs ++ hs) (erased s)) (gsubs.finish job far (gs ++ fs) s)
  finish gs a job far s = like_costs (like_goes gs _ s a)

  asks_on : (gs : List SFrame) → AllAway gs → (job : Job) (far : Far) (found : Search) (line : Option ℕ) (s : Slots) → Like s (gsubs.asks_on job far found line (gs ++ hs) (erased s)) (gsubs.asks_on job far found line (gs ++ fs) s)
  asks_on gs a job far (NoMatch tries) line s = like_costs (finish gs a job far s)
  asks_on gs a job far (Matched tries captures w) line s = like_costs (asks (Waits (GsubWaits w) line ∷ gs) (tt, a) w.job.by captures s)

  replaces : (gs : List SFrame) → AllAway gs → (job : Job) (limit : ℕ) (far : Far) (line : Option ℕ) (s : Slots) → Like s (gsubs.replaces job limit far line (gs ++ hs) (erased s)) (gsubs.replaces job limit far line (gs ++ fs) s)
  replaces gs a job zero far line s = finish gs a job far s
  replaces gs a job (suc limit) far line s = asks_on gs a job far (search job limit far) line s

  puts : (gs : List SFrame) → AllAway gs → (w : Replacing) (piece : Bytes) (line : Option ℕ) (s : Slots) → Like s (gsubs.puts w piece line (gs ++ hs) (erased s)) (gsubs.puts w piece line (gs ++ fs) s)
  puts gs a w piece line s = like_costs (replaces gs a w.job w.limit (with_piece w.far piece) line s)

  gsub_answer : (gs : List SFrame) → AllAway gs → (w : Replacing) (o : Outcome (List Value) Jump) → IsAwayOutcome o → (line : Option ℕ) (s : Slots) → Like s (gsubs.gsub_answer w o line (gs ++ hs) (erased s)) (gsubs.gsub_answer w o line (gs ++ fs) s)
  gsub_answer gs a w (Goes vs) i line s = like.with_argument hs fs gs a (replacement_given w.matched (first vs)) line s _ _ (λ piece. puts gs a w piece line s)
  gsub_answer gs a w (Jumps j) i line s = handed gs a (Jumps j) i s

  gsub : (gs : List SFrame) → AllAway gs → (f : GsubForm Proc) (line : Option ℕ) (s : Slots) → Like s (libraries.gsub f line (gs ++ hs) (erased s)) (libraries.gsub f line (gs ++ fs) s)
  gsub gs a (GsubAnswers p) line s = plain gs a p line s
  gsub gs a (GsubAsks charge job limit) line s = like_costs (replaces gs a job limit nothing_yet line s)

  -- MODULES
  begins_text : (gs : List SFrame) → AllAway gs → (title : Title) (code : Result Protos FaultAt) (s : Slots) → Like s (modules.begins_text title code (gs ++ hs) (erased s)) (modules.begins_text title code (gs ++ fs) s)
  begins_text gs a title (Ok at) s = like_starts gs (BodyS (text_of_module (title_text title)) [] None) s tt a
  begins_text gs a title (Err fault) s = like_raises gs _ s a

  runs_text : (gs : List SFrame) → AllAway gs → (title : Title) (m : CModule) (s : Slots) → Like s (modules.runs_text title m (gs ++ hs) (erased s)) (modules.runs_text title m (gs ++ fs) s)
  runs_text gs a title m s = like_costs (begins_text gs a title m.code s)

  module_answer : (gs : List SFrame) → AllAway gs → (title : Title) (o : Outcome (List Value) Jump) → IsAwayOutcome o → (s : Slots) → Like s (modules.module_answer title o (gs ++ hs) (erased s)) (modules.module_answer title o (gs ++ fs) s)
  module_answer gs a title (Goes vs) i s = like_goes gs (value_or_true (first vs) ∷ []) (modules.with_module title (Finished (value_or_true (first vs))) s) a
  module_answer gs a title (Jumps j) i s = handed gs a (Jumps j) i (modules.without_module title s)

  require_as : (gs : List SFrame) → AllAway gs → (text : Bytes) (title : Title) (p : Option Progress) (m : Option CModule) (line : Option ℕ) (s : Slots) → Like s (modules.require_as text title p m line (gs ++ hs) (erased s)) (modules.require_as text title p m line (gs ++ fs) s)
  require_as gs a text title (Some (Finished v)) m line s = like_goes gs (v ∷ []) s a
  require_as gs a text title (Some Running) m line s = like.fails_quoting hs fs gs a line _ s
  require_as gs a text title None (Some m) line s = runs_text (Waits (ModuleWaits title) line ∷ gs) (tt, a) title m (modules.with_module title Running s)
  require_as gs a text title None None line s = like.fails_quoting hs fs gs a line _ s

  require_module : (gs : List SFrame) → AllAway gs → (world : CWorld) (text : Bytes) (title : Title) (line : Option ℕ) (s : Slots) → Like s (modules.require_module world text title line (gs ++ hs) (erased s)) (modules.require_module world text title line (gs ++ fs) s)
  require_module gs a world text title line s = require_as gs a text title (item_of s.modules title) (world.modules (title_text title)) line s

  require_titled : (gs : List SFrame) → AllAway gs → (world : CWorld) (text : Bytes) (t : Result Title TitleFault) (line : Option ℕ) (s : Slots) → Like s (modules.require_titled world text t line (gs ++ hs) (erased s)) (modules.require_titled world text t line (gs ++ fs) s)
  require_titled gs a world text (Ok title) line s = require_module gs a world text title line s
  require_titled gs a world text (Err fault) line s = like.fails_quoting hs fs gs a line _ s

  require_text : (gs : List SFrame) → AllAway gs → (world : CWorld) (text : Bytes) (line : Option ℕ) (s : Slots) → Like s (modules.require_text world text line (gs ++ hs) (erased s)) (modules.require_text world text line (gs ++ fs) s)
  require_text gs a world text line s = like.both hs fs s (bytes_eq text (codes "strict")) _ _ _ _ (like_costs (like_goes gs (Truth true ∷ []) (modules.with_strict s) a)) (require_titled gs a world text (title_of text Main) line s)

  require : (gs : List SFrame) → AllAway gs → (world : CWorld) (args : List Value) (line : Option ℕ) (s : Slots) → Like s (modules.require world args line (gs ++ hs) (erased s)) (modules.require world args line (gs ++ fs) s)
  require gs a world args line s = like.with_argument hs fs gs a (a_text 1 (codes "require") args) line s _ _ (λ text. require_text gs a world text line s)

  data_answer : (gs : List SFrame) → AllAway gs → (text : Bytes) (title : Title) (o : Outcome (List Value) Jump) → IsAwayOutcome o → (line : Option ℕ) (s : Slots) → Like s (modules.data_answer text title o line (gs ++ hs) (erased s)) (modules.data_answer text title o line (gs ++ fs) s)
  data_answer gs a text title (Goes (Table t ∷ [])) i line s = like_goes gs (Table t ∷ []) (modules.with_data title (Table t) s) a
  data_answer gs a text title (Goes []) i line s = like.fails_quoting hs fs gs a line _ s
  data_answer gs a text title (Jumps (Raised v)) i line s = like_raises gs v s a
  data_answer gs a text title o i line s = like_raises gs _ s a

  load_as : (gs : List SFrame) → AllAway gs → (text : Bytes) (title : Title) (root : Option Value) (line : Option ℕ) (s : Slots) → Like s (modules.load_as text title root line (gs ++ hs) (erased s)) (modules.load_as text title root line (gs ++ fs) s)
  load_as gs a text title (Some root) line s = like_goes gs (root ∷ []) s a
  load_as gs a text title None line s = like_asks (Hears (DataAsked text title) line ∷ gs) (Data title) s (tt, a)

  load_titled : (gs : List SFrame) → AllAway gs → (text : Bytes) (t : Result Title TitleFault) (line : Option ℕ) (s : Slots) → Like s (modules.load_titled text t line (gs ++ hs) (erased s)) (modules.load_titled text t line (gs ++ fs) s)
  load_titled gs a text (Ok title) line s = load_as gs a text title (item_of s.data_ title) line s
  load_titled gs a text (Err fault) line s = like.fails_quoting hs fs gs a line _ s

  load_data : (gs : List SFrame) → AllAway gs → (args : List Value) (line : Option ℕ) (s : Slots) → Like s (modules.load_data args line (gs ++ hs) (erased s)) (modules.load_data args line (gs ++ fs) s)
  load_data gs a args line s = like.with_argument hs fs gs a (a_text 1 (codes "loadData") args) line s _ _ (λ text. load_titled gs a text (title_of text Main) line s)

  -- THE LIBRARY
  framed_end : (gs : List SFrame) → AllAway gs → (e : FramedEnd) (line : Option ℕ) (s : Slots) → Like s (libraries.framed_end e line (gs ++ hs) (erased s)) (libraries.framed_end e line (gs ++ fs) s)
  framed_end gs a (FrameEnds end) line s = like.ends hs fs gs a end line s
  framed_end gs a (FrameQuotes message) line s = like.fails_quoting hs fs gs a line message s
  framed_end gs a (FrameAsks question asked) line s = like_asks (Hears asked line ∷ gs) question s (tt, a)
  framed_end gs a (FrameWalks v) line s = pairs gs a (v ∷ []) line s

  call_back : (gs : List SFrame) → AllAway gs → (world : CWorld) (c : Caller) (args : List Value) (line : Option ℕ) (s : Slots) → Like s (libraries.call_back world c args line (gs ++ hs) (erased s)) (libraries.call_back world c args line (gs ++ fs) s)
  call_back gs a world Pcall args line s = like.call hs fs (Waits PcallWaits line ∷ gs) (tt, a) (first args) (rest args) None s
  call_back gs a world Xpcall args line s = like.call hs fs (Waits (XpcallWaits (second args)) line ∷ gs) (tt, a) (first args) [] None s
  call_back gs a world ToString args line s = to_string_of gs a (first args) line s
  call_back gs a world Pairs args line s = pairs gs a args line s
  call_back gs a world Ipairs args line s = ipairs_by gs a (handler s.heap (first args) (codes "__ipairs")) args line s
  call_back gs a world NextPlace args line s = ipairs_step gs a args line s
  call_back gs a world Require args line s = require gs a world args line s
  call_back gs a world LoadData args line s = load_data gs a args line s
  call_back gs a world StrictRead args line s = like.fails_quoting hs fs gs a line _ s
  call_back gs a world StrictWrite args line s = like.fails_quoting hs fs gs a line _ s
  call_back gs a world (Gsub alphabet) args line s = gsub gs a (gsub_form alphabet args s.heap) line s

  does : (gs : List SFrame) → AllAway gs → (world : CWorld) (f : Form Proc) (args : List Value) (line : Option ℕ) (s : Slots) → Like s (libraries.does world f args line (gs ++ hs) (erased s)) (libraries.does world f args line (gs ++ fs) s)
  does gs a world (Answers p) args line s = plain gs a p line s
  does gs a world (InFrames f) args line s = like_costs (framed_end gs a f.end line (libraries.with_frames f s))
  does gs a world (CallsBack caller) args line s = call_back gs a world caller args line s

  enters_library : (gs : List SFrame) → AllAway gs → (world : CWorld) (which : Library) (args : List Value) (line : Option ℕ) (s : Slots) → Like s (libraries.enters_library world which args line (gs ++ hs) (erased s)) (libraries.enters_library world which args line (gs ++ fs) s)
  enters_library gs a world which args line s = like_enters (like_marks (does (LibraryEnd ∷ gs) (tt, a) world (form (libraries.page_alone world) which args s.heap s.frames) args line s))

  resumes : (gs : List SFrame) → AllAway gs → (p : Pending) (o : Outcome (List Value) Jump) → IsAwayOutcome o → (line : Option ℕ) (s : Slots) → Like s (libraries.resumes p o line (gs ++ hs) (erased s)) (libraries.resumes p o line (gs ++ fs) s)
  resumes gs a PcallWaits o i line s = pcall_answer gs a o i s
  resumes gs a (XpcallWaits h) o i line s = xpcall_answer gs a h o i line s
  resumes gs a HandlerWaits o i line s = handler_answer gs a o i s
  resumes gs a ToStringWaits o i line s = string_answer gs a o i line s
  resumes gs a PairsWaits o i line s = three_answer gs a o i s
  resumes gs a (GsubWaits w) o i line s = gsub_answer gs a w o i line s
  resumes gs a (ModuleWaits title) o i line s = module_answer gs a title o i s

  text_answer : (gs : List SFrame) → AllAway gs → (o : Outcome (List Value) Jump) (s : Slots) → Like s (libraries.text_answer o (gs ++ hs) (erased s)) (libraries.text_answer o (gs ++ fs) s)
  text_answer gs a (Goes (Text t ∷ [])) s = gives_text gs a t s
  text_answer gs a o s = like_raises gs _ s a

  template_answer : (gs : List SFrame) → AllAway gs → (text : Bytes) (o : Outcome (List Value) Jump) (line : Option ℕ) (s : Slots) → Like s (libraries.template_answer text o line (gs ++ hs) (erased s)) (libraries.template_answer text o line (gs ++ fs) s)
  template_answer gs a text (Goes []) line s = like.fails_quoting hs fs gs a line _ s
  template_answer gs a text (Goes (v ∷ vs)) line s = text_answer gs a (Goes (v ∷ vs)) s
  template_answer gs a text (Jumps j) line s = like_raises gs _ s a

  hears : (gs : List SFrame) → AllAway gs → (q : Asked) (o : Outcome (List Value) Jump) → IsAwayOutcome o → (line : Option ℕ) (s : Slots) → Like s (libraries.hears q o line (gs ++ hs) (erased s)) (libraries.hears q o line (gs ++ fs) s)
  hears gs a (TemplateAsked text) o i line s = template_answer gs a text o line s
  hears gs a TextAsked o i line s = text_answer gs a o s
  hears gs a (DataAsked text title) o i line s = data_answer gs a text title o i line s

  -- THE END OF A RUN
  text_by : (gs : List SFrame) → AllAway gs → (h v : Value) (vs : List Value) (before : Bytes) (s : Slots) → Like s (starts.text_by h v vs before (gs ++ hs) (erased s)) (starts.text_by h v vs before (gs ++ fs) s)
  text_by gs a h v vs before s = like.both hs fs s (is_nil h) _ _ _ _ (like_texts gs vs _ s a) (like.call hs fs (TextNow vs before ∷ gs) (tt, a) h (v ∷ []) None s)

  whole_or_fail : (gs : List SFrame) → AllAway gs → (p : Piece) (vs : List Value) (before : Bytes) (s : Slots) → Like s (starts.whole_or_fail p vs before (gs ++ hs) (erased s)) (starts.whole_or_fail p vs before (gs ++ fs) s)
  whole_or_fail gs a (Whole bytes begun) vs before s = like_texts gs vs _ s a
  whole_or_fail gs a (Deep bytes begun) vs before s = like_raises gs _ s a

  next_text : (gs : List SFrame) → AllAway gs → (v : Value) (vs : List Value) (before : Bytes) (s : Slots) → Like s (starts.next_text v vs before (gs ++ hs) (erased s)) (starts.next_text v vs before (gs ++ fs) s)
  next_text gs a (Markup m) vs before s = like_costs (whole_or_fail gs a (render s.heap.markup m) vs before s)
  next_text gs a v vs before s = text_by gs a (handler s.heap v (codes "__tostring")) v vs before s

  texts : (gs : List SFrame) → AllAway gs → (vs : List Value) (before : Bytes) (s : Slots) → Like s (starts.texts vs before (gs ++ hs) (erased s)) (starts.texts vs before (gs ++ fs) s)
  texts gs a [] before s = like_costs (like_goes gs _ s a)
  texts gs a (v ∷ vs) before s = next_text gs a v vs before s

  text_given : (gs : List SFrame) → AllAway gs → (t : Option Bytes) (vs : List Value) (before : Bytes) (s : Slots) → Like s (starts.text_given t vs before (gs ++ hs) (erased s)) (starts.text_given t vs before (gs ++ fs) s)
  text_given gs a (Some t) vs before s = like_texts gs vs _ s a
  text_given gs a None vs before s = like_raises gs _ s a

  invoke_in : (gs : List SFrame) → AllAway gs → (name : Bytes) (v frame : Value) (s : Slots) → Like s (starts.invoke_in name v frame (gs ++ hs) (erased s)) (starts.invoke_in name v frame (gs ++ fs) s)
  invoke_in gs a name (Table t) frame s = like.index_table hs fs (FunctionFound name frame ∷ gs) (tt, a) t (Text name) None s
  invoke_in gs a name v frame s = like_raises gs _ s a

  invoke_function : (gs : List SFrame) → AllAway gs → (name : Bytes) (f frame : Value) (s : Slots) → Like s (starts.invoke_function name f frame (gs ++ hs) (erased s)) (starts.invoke_function name f frame (gs ++ fs) s)
  invoke_function gs a name f frame s = like.both hs fs s (is_function f) _ _ _ _ (like.call hs fs (AnswerNow ∷ gs) (tt, a) f (frame ∷ []) None s) (like_raises gs _ s a)

  ends_invoke : (gs : List SFrame) → AllAway gs → (v : Value) (s : Slots) → Like s (starts.invoke_ends (Jumps (Raised v)) (gs ++ hs) (erased s)) (starts.invoke_ends (Jumps (Raised v)) (gs ++ fs) s)
  ends_invoke gs a v s = like_raises gs _ s a

  ends_data : (gs : List SFrame) → AllAway gs → (e : End) (s : Slots) → Like s (starts.data_ends (Goes e) (gs ++ hs) (erased s)) (starts.data_ends (Goes e) (gs ++ fs) s)
  ends_data gs a e s = handed gs a (outcome_of e) (away_end e) s

  -- ITEMS of a constructor
  items : (gs : List SFrame) → AllAway gs → (t n : ℕ) (vs : List Value) (line : ℕ) (s : Slots) → Like s (expressions.items t n vs line (gs ++ hs) (erased s)) (expressions.items t n vs line (gs ++ fs) s)
  items gs a t n [] line s = like_goes gs (Table t ∷ []) s a
  items gs a t n (v ∷ vs) line s = like.set_entry hs fs (ItemsNext t (n + 1) vs line ∷ gs) (tt, a) t (Number (pos n)) v (Some line) s

  -- A FRAME with values, and with an error
  goes : (gs : List SFrame) → AllAway gs → (world : CWorld) (f : SFrame) → IsAwayFrame f → (vs : List Value) (s : Slots) → Like s (to.goes world f vs (gs ++ hs) (erased s)) (to.goes world f vs (gs ++ fs) s)
  goes gs a world First i vs s = like_goes gs (first vs ∷ []) s a
  goes gs a world (Verdict n) i vs s = like_goes gs _ s a
  goes gs a world (ItemsNext t n left line) i vs s = items gs a t n left line s
  goes gs a world LibraryEnd i vs s = like_exits (like_goes gs vs s a)
  goes gs a world (Waits pending line) i vs s = resumes gs a pending (Goes vs) tt line s
  goes gs a world (Hears asked line) i vs s = hears gs a asked (Goes vs) tt line s
  goes gs a world (ModuleFound name frame) i vs s = invoke_in gs a name (first vs) frame s
  goes gs a world (FunctionFound name frame) i vs s = invoke_function gs a name (first vs) frame s
  goes gs a world AnswerNow i vs s = like_texts gs vs [] s a
  goes gs a world (TextNow more before) i vs s = text_given gs a (text_in (first vs)) more before s
  goes gs a world DataNow i vs s = ends_data gs a (data_value (first vs)) s
  goes gs a world f i vs s = absurd i

  passes : (gs : List SFrame) → AllAway gs → (f : SFrame) → IsAwayFrame f → (v : Value) (s : Slots) → Like s (to.passes f (Raised v) (gs ++ hs) (erased s)) (to.passes f (Raised v) (gs ++ fs) s)
  passes gs a First i v s = like_raises gs v s a
  passes gs a (Verdict n) i v s = like_raises gs v s a
  passes gs a (ItemsNext t n left line) i v s = like_raises gs v s a
  passes gs a LibraryEnd i v s = like_exits (like_raises gs v s a)
  passes gs a (Waits pending line) i v s = resumes gs a pending (Jumps (Raised v)) tt line s
  passes gs a (Hears asked line) i v s = hears gs a asked (Jumps (Raised v)) tt line s
  passes gs a (ModuleFound name frame) i v s = ends_invoke gs a v s
  passes gs a (FunctionFound name frame) i v s = ends_invoke gs a v s
  passes gs a AnswerNow i v s = ends_invoke gs a v s
  passes gs a (TextNow more before) i v s = ends_invoke gs a v s
  passes gs a DataNow i v s = like_raises gs _ s a
  passes gs a f i v s = absurd i

  -- A MOVE at which no code is, and none comes back to code
  pub goes_on : (gs : List SFrame) → (f : SFrame) → IsAwayFrame f → AllAway gs → (world : CWorld) (o : Outcome (List Value) Jump) → IsAwayOutcome o → (s : Slots) → Like s (to.moves world (Gives o (f ∷ gs ++ hs)) (erased s)) (to.moves world (Gives o (f ∷ gs ++ fs)) s)
  goes_on gs f i a world (Goes vs) j s = goes gs a world f i vs s
  goes_on gs f i a world (Jumps (Raised v)) j s = passes gs a f i v s
  goes_on gs f i a world (Jumps (Returned vs)) j s = absurd j
  goes_on gs f i a world (Jumps Broke) j s = absurd j

  pub starts_library : (gs : List SFrame) → AllAway gs → (world : CWorld) (which : Library) (args : List Value) (line : Option ℕ) (s : Slots) → Like s (to.moves world (Starts (LibraryS which args line) (gs ++ hs)) (erased s)) (to.moves world (Starts (LibraryS which args line) (gs ++ fs)) s)
  starts_library gs a world which args line s = like_costs (enters_library gs a world which args line s)

  pub starts_link : (gs : List SFrame) → AllAway gs → (world : CWorld) (object h key : Value) (line : Option ℕ) (s : Slots) → Like s (to.moves world (Starts (IndexLinkS object h key line) (gs ++ hs)) (erased s)) (to.moves world (Starts (IndexLinkS object h key line) (gs ++ fs)) s)
  starts_link gs a world object h key line s = like_costs (like.index_link hs fs gs a object h key line s)

  pub starts_set : (gs : List SFrame) → AllAway gs → (world : CWorld) (object h key value : Value) (line : Option ℕ) (s : Slots) → Like s (to.moves world (Starts (SetLinkS object h key value line) (gs ++ hs)) (erased s)) (to.moves world (Starts (SetLinkS object h key value line) (gs ++ fs)) s)
  starts_set gs a world object h key value line s = like_costs (like.set_link hs fs gs a object h key value line s)

  pub starts_call : (gs : List SFrame) → AllAway gs → (world : CWorld) (h : Value) (args : List Value) (line : Option ℕ) (s : Slots) → Like s (to.moves world (Starts (CallLinkS h args line) (gs ++ hs)) (erased s)) (to.moves world (Starts (CallLinkS h args line) (gs ++ fs)) s)
  starts_call gs a world h args line s = like_costs (like.call hs fs gs a h args line s)

  pub goes_on_texts : (gs : List SFrame) → AllAway gs → (world : CWorld) (vs : List Value) (before : Bytes) (s : Slots) → Like s (to.moves world (Texts vs before (gs ++ hs)) (erased s)) (to.moves world (Texts vs before (gs ++ fs)) s)
  goes_on_texts gs a world vs before s = texts gs a vs before s

  -- A RUN BEGINS
  runs_data : (gs : List SFrame) → AllAway gs → (title : Title) (m : Option CModule) (s : Slots) → Like s (starts.runs_data title m (gs ++ hs) (erased s)) (starts.runs_data title m (gs ++ fs) s)
  runs_data gs a title (Some m) s = runs_text gs a title m s
  runs_data gs a title None s = like.fails hs fs gs a None _ s

  invokes : (gs : List SFrame) → AllAway gs → (world : CWorld) (job : RunJob) (s : Slots) → Like s (starts.invokes world job (gs ++ hs) (erased s)) (starts.invokes world job (gs ++ fs) s)
  invokes gs a world job s =
      like_costs (like_costs (require_module (ModuleFound job.function (frame_table s.heap) ∷ gs) (tt, a) world (title_text job.«module») job.«module» None (starts.with_frame job s)))

-- above no frames
pub begins_work : (world : CWorld) (work : Work) (s : Slots) → Likewise [] [] s.regs s.functions (starts.works world work (erased s)) (starts.works world work s)
begins_work world (Invoke job) s = invokes [] [] [] tt world job s
begins_work world (DataOf title) s = like_costs (runs_data [] [] (DataNow ∷ []) (tt, tt) title (world.modules (title_text title)) s)
