-- Modules (manual 5.3; Scribunto, "require" and mw.loadData).
use Rattle.std.proofs.Common.{◌≡◌, ℕ, true, List, [], ◌∷◌, Option, Some, None, Result, refl, sym, ap, subst, bytes_eq}
use Rattle.std.specs.Prelude.{Ok, Err, codes}
use Rattle.lua_slots.specs.WkBaseDeclaredTitleTitle.{Title}
use Rattle.lua_slots.specs.WkBaseDeclaredTitleNamespaceTheVariants.{Main}
use Rattle.lua_slots.specs.WkBaseDeclaredTitleReadTitleFault.{TitleFault}
use Rattle.lua_slots.specs.WkBaseTitles.{title_text, title_of}
use Rattle.lua_slots.specs.MwFrameDeclaredQuestionAskTheVariants.{Data}
use Rattle.lua_slots.specs.LuaSyntaxDeclaredFaultFaultAt.{FaultAt}
use Rattle.lua_slots.specs.LuaSyntaxTree.{Block}
use Rattle.lua_slots.specs.PageRunOutcome.{Outcome, Jumps}
use Rattle.lua_heap.specs.Value.{Value, Truth, Text, is_nil}
use Rattle.lua_heap.specs.Related.{Map, Each, none, more, SameOption, neither, both, Same, nil, truth, number, text, table, closure, builtin, markup}
use Rattle.lua_heap.proofs.Entries.{nil-related}
use Rattle.lua_slots.specs.LuaMeaningScope.{Bytes, Levels}
use Rattle.lua_slots.specs.LuaMeaningWorld.{Module, World}
use Rattle.lua_slots.specs.LuaMeaningTitled.{Titled, ByTitle, same_title, item_of, with_item, without_item}
use Rattle.lua_slots.specs.LuaMeaningQuestions.{DataAsked}
use Rattle.lua_slots.specs.LuaMeaningActs.{Jump, State, Raised, Progress, ChunkBody}
use Rattle.lua_slots.specs.LuaMeaningMessages.{no_module, loop_in_require, no_data_module, undeclared_variable, undeclared_target, wrong_answer}
use Rattle.lua_slots.specs.LuaMeaningValues.{second}
use Rattle.lua_slots.specs.LuaMeaningCallBacks.{text_of}
use Rattle.lua_slots.specs.LuaMeaningModules.{begin_chunk, run_chunk, value_or_true, module_answer, run_module, require_as, require_module, require_strict, require_titled, require_text, require, strict_index, strict_new_index, data_answer, load_as, load_titled, load_data}
use Rattle.lua_slots.specs.LuaMeaningPending.{ModuleWaits}
use Rattle.lua_library_agree.proofs.Values.{second-same, text_of-same, a_text-same}
use Rattle.lua_library_agree.proofs.Heaps.{chosen}
use Rattle.lua_library_agree.proofs.LibraryLaws.{strict_agrees}
use Rattle.lua_slots.specs.Code.{Protos, CModule, CWorld}
use Rattle.lua_slots.specs.IsCode.{IsText, IsCodeOrFault, IsModule, Agrees}
use Rattle.lua_slots.specs.Slots.{Slots, levels_at}
use Rattle.lua_slots.specs.Points.{BodyS, SFrame, Costs}
use Rattle.lua_slots.specs.Calls.{code_of, text_of_module}
use Rattle.lua_slots.specs.Errors as machine
use Rattle.lua_slots.specs.Modules as machine_modules
use Rattle.lua_agree.specs.Variables.{Var}
use Rattle.lua_agree.specs.Values.{returned, broke, raised, SameOutcome, values_, jumps_, modules, SameProgress, running, finished, SameTitled}
use Rattle.lua_agree.specs.Functions.{SameFunction}
use Rattle.lua_agree.specs.Rests.{After, SameRest, at_hearing}
use Rattle.lua_agree.specs.Agree.{texts_of, starts, asks, Base, Rel}
use Rattle.lua_agree.specs.Follows.{Follows, takes, sees, changes}
use Rattle.lua_agree.proofs.Carries.{rest-grows, function-grows}
use Rattle.lua_agree.proofs.Parts.{first-same, one-value, rest-jumps, branches, rel-moved, rel-modules, rel-data, here-now, values-on, passes-on, fails-quoting}
use Rattle.lua_agree.proofs.CallBacks.{waiting, argument-equal}

-- WHAT IS KEPT BY TITLE, on both sides
module _ {A C : Type 0} (Q : A → C → Type 0) where
  title-same : {x : Titled A} {y : Titled C} → SameTitled Q x y → (t : Title) → same_title x.title t ≡ same_title y.title t
  title-same e t = ap (λ u. same_title u t) e.title

  pub item-same : {xs : ByTitle A} {ys : ByTitle C} → Each (SameTitled Q) xs ys → (t : Title) → SameOption Q (item_of xs t) (item_of ys t)
  item-same none t = neither
  item-same (more x y xs ys e es) t = chosen (SameOption Q) _ _ (title-same e t) (both _ _ e.item) (item-same es t)

  pub with_item-same : {xs : ByTitle A} {ys : ByTitle C} {a : A} {c : C} → Each (SameTitled Q) xs ys → (t : Title) → Q a c → Each (SameTitled Q) (with_item xs t a) (with_item ys t c)
  with_item-same none t q = more _ _ _ _ (record { title = refl; item = q }) none
  with_item-same (more x y xs ys e es) t q =
      chosen (Each (SameTitled Q)) _ _ (title-same e t) (more _ _ _ _ (record { title = e.title; item = q }) es) (more x y _ _ e (with_item-same es t q))

  pub without_item-same : {xs : ByTitle A} {ys : ByTitle C} → Each (SameTitled Q) xs ys → (t : Title) → Each (SameTitled Q) (without_item xs t) (without_item ys t)
  without_item-same none t = none
  without_item-same (more x y xs ys e es) t = chosen (Each (SameTitled Q)) _ _ (title-same e t) es (more x y _ _ e (without_item-same es t))

value_or_true-same : {m : Map} {v w : Value} → Same m v w → Same m (value_or_true v) (value_or_true w)
value_or_true-same {m} {v} {w} e = chosen (Same m) (is_nil v) (is_nil w) (nil-related m v w e) (truth true) e

module _ (world : World) (code : CWorld) (B : Base) {m : Map} {vars : List Var} {h : State} {s : Slots} (r : Rel code B m vars h s) where
  module _ {k : After (List Value)} {fs : List SFrame} (g : SameRest code m vars s.functions k fs) where
    -- THE TEXT OF A MODULE RUNS
    begins-text : (title : Title) (x : Result Block FaultAt) (y : Result Protos FaultAt) (size : ℕ) → code.modules (title_text title) ≡ Some (record { size = size; code = y }) → IsCodeOrFault x y
        → Follows world code B (begin_chunk title x k) h (machine_modules.begins_text title y fs s)
    begins-text title (Ok b) (Ok at) size e is =
        here-now world code B r (starts (ChunkBody (title_text title) b) (BodyS (text_of_module (title_text title)) [] None) k fs (texts_of (title_text title) b is.0 (subst (λ o. IsText (code_of o) b is.0) (sym e) is.1)) g)
    begins-text title (Err f) (Err f') size e is =
        subst (λ f'. Follows world code B (begin_chunk title (Err f) k) h (machine_modules.begins_text title (Err f') fs s)) (sym is) (passes-on world code B r g (raised _ _ (text _)))
    begins-text title (Ok b) (Err f) size e is = absurd is
    begins-text title (Err f) (Ok at) size e is = absurd is

    pub runs-text : (title : Title) (x : Module) (y : CModule) → code.modules (title_text title) ≡ Some y → IsModule (Some x) (Some y) → Follows world code B (run_chunk title x k) h (machine_modules.runs_text title y fs s)
    runs-text title x y e is =
        subst (λ (n : ℕ). Follows world code B (run_chunk title (record x { size = n }) k) h (machine_modules.runs_text title y fs s)) is.0 (takes _ _ _ _ (begins-text title x.chunk y.code y.size e is.1))

    -- and what waits for it
    pub module-answers : (title : Title) {o o' : Outcome (List Value) Jump} → SameOutcome m o o' → Follows world code B (module_answer title o k) h (machine_modules.module_answer title o' fs s)
    module-answers title (values_ vs ws e) =
        let x = value_or_true-same (first-same e) in
        sees _ _ _ (changes _ _ _ _ (values-on world code B (rel-modules code r (with_item-same (SameProgress m) r.modules title (finished _ _ x))) g (one-value x)))
    module-answers title (jumps_ j j' e) =
        sees _ _ _ (changes _ _ _ _ (passes-on world code B (rel-modules code r (without_item-same (SameProgress m) r.modules title)) g e))

    -- `require('strict')`
    strict-on : Follows world code B (require_strict k) h (Costs 16 (machine.gives (Truth true ∷ []) fs (machine_modules.with_strict s)))
    strict-on = takes _ _ _ _ (sees _ _ _ (changes _ _ _ _
        (let v = strict_agrees (SameFunction code) (function-grows code) m h.heap s.heap r.stands h.globals s.globals r.globals r.writable in
        values-on world code B (rel-moved code r v.1) (rest-grows code v.1.later.grows g) (one-value (truth true)))))

module _ (world : World) (code : CWorld) (B : Base) {m : Map} {vars : List Var} {h : State} {s : Slots} (r : Rel code B m vars h s) where
  module _ {k : After (List Value)} {fs : List SFrame} (g : SameRest code m vars s.functions k fs) (ls : Levels) (line : Option ℕ) (l : ls ≡ levels_at s.functions line) where
    runs-module : (title : Title) (x : Module) (y : CModule) → code.modules (title_text title) ≡ Some y → IsModule (Some x) (Some y) → Follows world code B (run_module title x k) h (machine_modules.runs_module title y line fs s)
    runs-module title x y e is =
        let q = rel-modules code r (with_item-same (SameProgress m) r.modules title running) in
        sees _ _ _ (changes _ _ _ _ (runs-text world code B q (waiting world code B q g ls line l (ModuleWaits title) (ModuleWaits title) (modules title)) title x y e is))

    requires-as : (bytes : Bytes) (title : Title) (o p : Option Progress) → SameOption (SameProgress m) o p → (x : Option Module) (y : Option CModule) → code.modules (title_text title) ≡ y → IsModule x y
        → Follows world code B (require_as bytes title o x ls k) h (machine_modules.require_as bytes title p y line fs s)
    requires-as bytes title _ _ (both _ _ (finished v w e)) x y c is = values-on world code B r g (one-value e)
    requires-as bytes title _ _ (both _ _ running) x y c is = fails-quoting world code B r line (rest-jumps code g) l (loop_in_require bytes)
    requires-as bytes title _ _ neither None None c is = fails-quoting world code B r line (rest-jumps code g) l (no_module bytes)
    requires-as bytes title _ _ neither (Some x) (Some y) c is = runs-module title x y c is
    requires-as bytes title _ _ neither (Some x) None c is = absurd is
    requires-as bytes title _ _ neither None (Some y) c is = absurd is

    -- in any world whose modules have this code
    pub requires-module : (other : World) → Agrees other code → (bytes : Bytes) (title : Title) → Follows world code B (require_module other bytes title ls k) h (machine_modules.require_module code bytes title line fs s)
    requires-module other w bytes title = sees _ _ _ (requires-as bytes title _ _ (item-same (SameProgress m) r.modules title) (other.modules title) (code.modules (title_text title)) refl (w.modules title))

    requires-titled : Agrees world code → (bytes : Bytes) (x : Result Title TitleFault) → Follows world code B (require_titled world bytes x ls k) h (machine_modules.require_titled code bytes x line fs s)
    requires-titled w bytes (Ok title) = requires-module world w bytes title
    requires-titled w bytes (Err fault) = fails-quoting world code B r line (rest-jumps code g) l (no_module bytes)

    pub requires : Agrees world code → {vs ws : List Value} → Each (Same m) vs ws → Follows world code B (require world vs ls k) h (machine_modules.require code ws line fs s)
    requires w es =
        argument-equal world code B r _ _ line (λ bytes. require_text world bytes ls) _ (rest-jumps code g) l (a_text-same 1 (codes "require") es) (λ bytes.
        branches world code B require_strict (require_titled world bytes (title_of bytes Main) ls) (bytes_eq bytes (codes "strict")) (bytes_eq bytes (codes "strict")) refl
        (λ _. strict-on world code B r g) (λ _. requires-titled w bytes (title_of bytes Main)))

    -- the handlers of `strict`
    pub strict-reads : {vs ws : List Value} → Each (Same m) vs ws → Follows world code B (strict_index vs ls k) h (machine_modules.strict_index ws line fs s)
    strict-reads {vs} {ws} es =
        subst (λ (t : Bytes). Follows world code B (strict_index vs ls k) h (machine.fails_quoting line (undeclared_variable t) fs s)) (text_of-same (second-same es))
        (fails-quoting world code B r line (rest-jumps code g) l (undeclared_variable (text_of (second vs))))

    pub strict-writes : {vs ws : List Value} → Each (Same m) vs ws → Follows world code B (strict_new_index vs ls k) h (machine_modules.strict_new_index ws line fs s)
    strict-writes {vs} {ws} es =
        subst (λ (t : Bytes). Follows world code B (strict_new_index vs ls k) h (machine.fails_quoting line (undeclared_target t) fs s)) (text_of-same (second-same es))
        (fails-quoting world code B r line (rest-jumps code g) l (undeclared_target (text_of (second vs))))

    -- `mw.loadData`
    loads-as : (bytes : Bytes) (title : Title) (o p : Option Value) → SameOption (Same m) o p → Follows world code B (load_as bytes title o ls k) h (machine_modules.load_as bytes title p line fs s)
    loads-as bytes title _ _ (both v w e) = values-on world code B r g (one-value e)
    loads-as bytes title _ _ neither = here-now world code B r (asks (Data title) _ _ (at_hearing vars s.functions (DataAsked bytes title) ls line k fs l g))

    loads-titled : (bytes : Bytes) (x : Result Title TitleFault) → Follows world code B (load_titled bytes x ls k) h (machine_modules.load_titled bytes x line fs s)
    loads-titled bytes (Ok title) = sees _ _ _ (loads-as bytes title _ _ (item-same (Same m) r.data_modules title))
    loads-titled bytes (Err fault) = fails-quoting world code B r line (rest-jumps code g) l (no_data_module bytes)

    pub loads : {vs ws : List Value} → Each (Same m) vs ws → Follows world code B (load_data vs ls k) h (machine_modules.load_data ws line fs s)
    loads es = argument-equal world code B r _ _ line (λ bytes. load_titled bytes (title_of bytes Main) ls) _ (rest-jumps code g) l (a_text-same 1 (codes "loadData") es) (λ bytes. loads-titled bytes (title_of bytes Main))

    -- and what waits for its answer
    wrong-on : Follows world code B (k (Jumps (Raised (Text wrong_answer)))) h (machine.jumps (Raised (Text wrong_answer)) fs s)
    wrong-on = passes-on world code B r g (raised _ _ (text wrong_answer))

    pub data-answers : (bytes : Bytes) (title : Title) {o o' : Outcome (List Value) Jump} → SameOutcome m o o' → Follows world code B (data_answer bytes title ls o k) h (machine_modules.data_answer bytes title o' line fs s)
    data-answers bytes title (values_ _ _ none) = fails-quoting world code B r line (rest-jumps code g) l (no_data_module bytes)
    data-answers bytes title (values_ _ _ (more _ _ _ _ (table a b e) none)) =
        sees _ _ _ (changes _ _ _ _ (values-on world code B (rel-data code r (with_item-same (Same m) r.data_modules title (table a b e))) g (one-value (table a b e))))
    data-answers bytes title (values_ _ _ (more _ _ _ _ (table a b e) (more _ _ _ _ f es))) = wrong-on
    data-answers bytes title (values_ _ _ (more _ _ _ _ nil es)) = wrong-on
    data-answers bytes title (values_ _ _ (more _ _ _ _ (truth x) es)) = wrong-on
    data-answers bytes title (values_ _ _ (more _ _ _ _ (number x) es)) = wrong-on
    data-answers bytes title (values_ _ _ (more _ _ _ _ (text x) es)) = wrong-on
    data-answers bytes title (values_ _ _ (more _ _ _ _ (closure a b e) es)) = wrong-on
    data-answers bytes title (values_ _ _ (more _ _ _ _ (builtin x) es)) = wrong-on
    data-answers bytes title (values_ _ _ (more _ _ _ _ (markup a b e) es)) = wrong-on
    data-answers bytes title (jumps_ _ _ (raised v w e)) = passes-on world code B r g (raised v w e)
    data-answers bytes title (jumps_ _ _ (returned vs ws e)) = wrong-on
    data-answers bytes title (jumps_ _ _ broke) = wrong-on
