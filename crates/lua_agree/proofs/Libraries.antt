-- Functions of the library (manual 5): each does to the machine's heap what it does to the run's.
use Rattle.std.proofs.Common.{◌≡◌, ℕ, List, Option, refl, sym, subst}
use Rattle.lua_slots.specs.PageRunOutcome.{Outcome, Jumps}
use Rattle.lua_heap.specs.Proc.{Proc}
use Rattle.lua_heap.specs.Value.{Value, Text}
use Rattle.lua_heap.specs.declared.library.Library.{Library}
use Rattle.lua_heap.specs.Related.{Map, Each, none, more, Same, nil, truth, number, text, table, closure, builtin, markup}
use Rattle.lua_slots.specs.LuaMeaningScope.{Bytes, Function, Levels}
use Rattle.lua_slots.specs.LuaMeaningWorld.{World}
use Rattle.lua_slots.specs.LuaMeaningQuestions.{Asked, TemplateAsked, TextAsked, DataAsked}
use Rattle.lua_slots.specs.LuaMeaningActs.{Jump, State, Raised}
use Rattle.lua_slots.specs.LuaMeaningMessages.{no_template, wrong_answer}
use Rattle.lua_library_agree.specs.LuaMeaningFrameMethods.{FramedEnd, Framed}
use Rattle.lua_library_agree.specs.LuaMeaningGsub.{Alphabet, nothing_yet, GsubForm, does_gsub, gsub}
use Rattle.lua_slots.specs.LuaMeaningPending.{Pending, resumes, text_answer, template_answer, hears}
use Rattle.lua_library_agree.specs.LuaMeaningLibraries.{Caller, Pcall, Xpcall, ToString, Pairs, Ipairs, NextPlace, Require, LoadData, StrictRead, StrictWrite, Gsub, Form, framed_end, framed_act, call_back, do_form}
use Rattle.lua_library_agree.specs.LuaMeaningThings.{enter_library}
use Rattle.lua_library_agree.specs.Same.{SameFramedEnd, both_end, both_quote, both_ask, both_walk, SameFramed, SameForm, both_answer, both_see, both_call}
use Rattle.lua_library_agree.specs.SameGsub.{SameGsub, alike_answers, alike_asks}
use Rattle.lua_library_agree.proofs.GsubAgree.{gsub_agrees}
use Rattle.lua_library_agree.proofs.LibraryLaws.{library_agrees}
use Rattle.lua_slots.specs.Code.{CWorld}
use Rattle.lua_slots.specs.IsCode.{Agrees}
use Rattle.lua_slots.specs.Slots.{Slots, levels_at}
use Rattle.lua_slots.specs.Points.{SFrame, Costs}
use Rattle.lua_slots.specs.Errors as machine
use Rattle.lua_slots.specs.Libraries as machine_library
use Rattle.lua_agree.specs.Variables.{Var}
use Rattle.lua_agree.specs.Values.{raised, SameOutcome, values_, jumps_, SamePending, pcalls, xpcalls, handlers, to_strings, walks, replacings, modules}
use Rattle.lua_agree.specs.Functions.{SameFunction}
use Rattle.lua_agree.specs.Rests.{After, SameRest, at_library, at_hearing}
use Rattle.lua_agree.specs.Agree.{asks, Base, Rel}
use Rattle.lua_agree.specs.Follows.{Follows, takes, counts, calls, sees, changes}
use Rattle.lua_agree.proofs.Carries.{rest-grows, function-grows}
use Rattle.lua_agree.proofs.Parts.{one-value, rest-jumps, rel-moved, rel-frames, here-now, passes-on, fails-quoting}
use Rattle.lua_agree.proofs.Plain.{ends-on, plain-on}
use Rattle.lua_agree.proofs.CallBacks.{text-on, pcall-on, xpcall-on, to_string-on, pairs-on, ipairs-on, ipairs_step-on, pcall-answers, xpcall-answers, handler-answers, string-answers, three-answers}
use Rattle.lua_agree.proofs.Replacing.{replaces-on, gsub-answers}
use Rattle.lua_agree.proofs.Modules.{requires, loads, strict-reads, strict-writes, module-answers, data-answers}

module _ (world : World) (code : CWorld) (B : Base) {m : Map} {vars : List Var} {h : State} {s : Slots} (r : Rel code B m vars h s) where
  -- WHAT WAITS, for a call
  module _ {k : After (List Value)} {fs : List SFrame} (g : SameRest code m vars s.functions k fs) (ls : Levels) (line : Option ℕ) (l : ls ≡ levels_at s.functions line) where
    pub waits-on : {p q : Pending} {o o' : Outcome (List Value) Jump} → SamePending m p q → SameOutcome m o o' → Follows world code B (resumes p ls o k) h (machine_library.resumes q o' line fs s)
    waits-on pcalls e = pcall-answers world code B r g ls line l e
    waits-on (xpcalls i i' x) e = xpcall-answers world code B r g ls line l x e
    waits-on handlers e = handler-answers world code B r g ls line l e
    waits-on to_strings e = string-answers world code B r g ls line l e
    waits-on walks e = three-answers world code B r g ls line l e
    waits-on (replacings x y limit far whole j) e = gsub-answers world code B r g ls line l j limit far whole e
    waits-on (modules title) e = module-answers world code B r g title e

    -- and for an answer
    wrong-on : Follows world code B (k (Jumps (Raised (Text wrong_answer)))) h (machine.jumps (Raised (Text wrong_answer)) fs s)
    wrong-on = passes-on world code B r g (raised _ _ (text wrong_answer))

    text-answers : {o o' : Outcome (List Value) Jump} → SameOutcome m o o' → Follows world code B (text_answer o k) h (machine_library.text_answer o' fs s)
    text-answers (values_ _ _ none) = wrong-on
    text-answers (values_ _ _ (more _ _ _ _ (text t) none)) = text-on world code B r g t t refl
    text-answers (values_ _ _ (more _ _ _ _ (text t) (more _ _ _ _ f es))) = wrong-on
    text-answers (values_ _ _ (more _ _ _ _ nil es)) = wrong-on
    text-answers (values_ _ _ (more _ _ _ _ (truth x) es)) = wrong-on
    text-answers (values_ _ _ (more _ _ _ _ (number x) es)) = wrong-on
    text-answers (values_ _ _ (more _ _ _ _ (table a b e) es)) = wrong-on
    text-answers (values_ _ _ (more _ _ _ _ (closure a b e) es)) = wrong-on
    text-answers (values_ _ _ (more _ _ _ _ (builtin x) es)) = wrong-on
    text-answers (values_ _ _ (more _ _ _ _ (markup a b e) es)) = wrong-on
    text-answers (jumps_ j j' e) = wrong-on

    template-answers : (bytes : Bytes) {o o' : Outcome (List Value) Jump} → SameOutcome m o o' → Follows world code B (template_answer bytes ls o k) h (machine_library.template_answer bytes o' line fs s)
    template-answers bytes (values_ _ _ none) = fails-quoting world code B r line (rest-jumps code g) l (no_template bytes)
    template-answers bytes (values_ _ _ (more v w vs ws x es)) = text-answers (values_ _ _ (more v w vs ws x es))
    template-answers bytes (jumps_ j j' e) = text-answers (jumps_ j j' e)

    pub hears-on : (asked : Asked) {o o' : Outcome (List Value) Jump} → SameOutcome m o o' → Follows world code B (hears asked ls o k) h (machine_library.hears asked o' line fs s)
    hears-on (TemplateAsked bytes) e = template-answers bytes e
    hears-on TextAsked e = text-answers e
    hears-on (DataAsked bytes title) e = data-answers world code B r g ls line l bytes title e

  -- HOW A FUNCTION ENDS
  module _ {k : After (List Value)} {fs : List SFrame} (g : SameRest code m vars s.functions k fs) (ls : Levels) (line : Option ℕ) (l : ls ≡ levels_at s.functions line) where
    framed-ends-on : {a b : FramedEnd} → SameFramedEnd m a b → Follows world code B (framed_end a ls k) h (machine_library.framed_end b line fs s)
    framed-ends-on (both_end a b e) = ends-on world code B r g ls line l e
    framed-ends-on (both_quote message) = fails-quoting world code B r line (rest-jumps code g) l message
    framed-ends-on (both_ask question asked) = here-now world code B r (asks question _ _ (at_hearing vars s.functions asked ls line k fs l g))
    framed-ends-on (both_walk v w e) = pairs-on world code B r g ls line l (one-value e)

-- WHAT A FUNCTION DOES
module _ (world : World) (code : CWorld) (B : Base) {m : Map} {vars : List Var} {h : State} {s : Slots} (r : Rel code B m vars h s) {k : After (List Value)} {fs : List SFrame} (g : SameRest code m vars s.functions k fs) (ls : Levels) (line : Option ℕ) (l : ls ≡ levels_at s.functions line) where
  framed-on : (a : Framed Function) (b : Framed Proc) → SameFramed (SameFunction code) m h.heap s.heap a b → Follows world code B (framed_act a ls k) h (machine_library.framed b line fs s)
  framed-on a b e =
      subst (λ (n : ℕ). Follows world code B (framed_act a ls k) h (Costs n (machine_library.framed_end b.end line fs (machine_library.with_frames b s)))) e.charge
      (takes _ _ _ _ (sees _ _ _ (changes _ _ _ _
      (framed-ends-on world code B (rel-frames code (rel-moved code r e.moved) e.frames) (rest-grows code e.moved.later.grows g) ls line l e.end))))

  does-gsub-on : {a : GsubForm Function} {b : GsubForm Proc} → SameGsub (SameFunction code) m h.heap s.heap a b → Follows world code B (does_gsub a ls k) h (machine_library.gsub b line fs s)
  does-gsub-on (alike_answers a b e) = plain-on world code B r g ls line l a b e
  does-gsub-on (alike_asks n x y limit e) = takes _ _ _ _ (replaces-on world code B r g ls line l e limit nothing_yet)

  gsub-on : (a : Alphabet) {vs ws : List Value} → Each (Same m) vs ws → Follows world code B (gsub a vs ls k) h (machine_library.call_back code (Gsub a) ws line fs s)
  gsub-on a {vs} {ws} es = sees _ _ _ (does-gsub-on (gsub_agrees (SameFunction code) m h.heap s.heap r.stands a vs ws es))

  calls-back-on : Agrees world code → (caller : Caller) {vs ws : List Value} → Each (Same m) vs ws → Follows world code B (call_back world caller vs ls k) h (machine_library.call_back code caller ws line fs s)
  calls-back-on w Pcall es = pcall-on world code B r g ls line l es
  calls-back-on w Xpcall es = xpcall-on world code B r g ls line l es
  calls-back-on w ToString es = to_string-on world code B r g ls line l es
  calls-back-on w Pairs es = pairs-on world code B r g ls line l es
  calls-back-on w Ipairs es = ipairs-on world code B r g ls line l es
  calls-back-on w NextPlace es = ipairs_step-on world code B r g ls line l es
  calls-back-on w Require es = requires world code B r g ls line l w es
  calls-back-on w LoadData es = loads world code B r g ls line l es
  calls-back-on w StrictRead es = strict-reads world code B r g ls line l es
  calls-back-on w StrictWrite es = strict-writes world code B r g ls line l es
  calls-back-on w (Gsub a) es = gsub-on a es

  form-on : Agrees world code → {a : Form Function} {b : Form Proc} {vs ws : List Value} → SameForm (SameFunction code) m h.heap s.heap a b → Each (Same m) vs ws
      → Follows world code B (do_form world a vs ls k) h (machine_library.does code b ws line fs s)
  form-on w (both_answer a b e) es = plain-on world code B r g ls line l a b e
  form-on w (both_see a b e) es = framed-on a b e
  form-on w (both_call caller) es = calls-back-on w caller es

-- A FUNCTION OF THE LIBRARY IS ENTERED
pub library-on : (world : World) (code : CWorld) (B : Base) {m : Map} {vars : List Var} {h : State} {s : Slots} → Rel code B m vars h s → Agrees world code → (which : Library)
    {k : After (List Value)} {fs : List SFrame} → SameRest code m vars s.functions k fs → (ls : Levels) (line : Option ℕ) → ls ≡ levels_at s.functions line → {vs ws : List Value} → Each (Same m) vs ws
    → Follows world code B (enter_library world which vs ls k) h (machine_library.enters_library code which ws line fs s)
library-on world code B {m} {vars} {h} {s} r w which {k} {fs} g ls line l {vs} {ws} es =
    calls _ _ _ (counts _ _ _ (sees _ _ _
    (form-on world code B r (at_library vars s.functions k fs g) ls line l w
    (library_agrees (SameFunction code) (function-grows code) world (machine_library.page_alone code) (sym w.page) which m h.heap s.heap r.stands vs ws es h.frames s.frames r.frames) es)))
