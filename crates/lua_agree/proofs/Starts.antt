-- A whole run (Scribunto, "Invoking modules" and mw.loadData): its start, its answer, and its end.
use Rattle.std.proofs.Common.{◌≡◌, List, [], ◌∷◌, ◌++◌, Option, Some, None, refl, ◌∙◌, ap, subst}
use Rattle.std.specs.Prelude.{codes}
use Rattle.lua_slots.specs.WkBaseDeclaredTitleTitle.{Title}
use Rattle.lua_slots.specs.WkBaseTitles.{title_text}
use Rattle.lua_library_agree.specs.PageRunRun.{Ends}
use Rattle.lua_slots.specs.PageRunOutcome.{Outcome, Goes, Jumps, on_value, give, ◌>>=◌}
use Rattle.lua_slots.specs.MwHtmlRender.{Piece, Whole, Deep}
use Rattle.lua_library_agree.proofs.MwHtmlRenumbered.{stands_is_rendered}
use Rattle.lua_heap.specs.Value.{Value}
use Rattle.lua_heap.specs.Related.{Map, Each, none, more, Same, nil, truth, number, text, table, closure, builtin, markup}
use Rattle.lua_heap.proofs.Entries.{nil-related}
use Rattle.lua_slots.specs.LuaMeaningScope.{Bytes}
use Rattle.lua_slots.specs.LuaMeaningWorld.{Module, World}
use Rattle.lua_slots.specs.LuaMeaningValues.{first, text_in}
use Rattle.lua_slots.specs.LuaMeaningActs.{Jump, State, Unmade}
use Rattle.lua_slots.specs.LuaMeaningMessages.{no_data_module}
use Rattle.lua_slots.specs.LuaMeaningMetatables.{handler}
use Rattle.lua_slots.specs.LuaMeaningHtml.{nested_too_deeply}
use Rattle.lua_library_agree.specs.LuaMeaningCalls.{call}
use Rattle.lua_slots.specs.LuaMeaningFrames.{frame_table}
use Rattle.lua_slots.specs.LuaMeaningCallBacks.{text_of, string_or_fail}
use Rattle.lua_slots.specs.LuaMeaningStart.{Work, Invoke, DataOf, Failed, text_by, whole_or_fail, rendered, answer_text, answer_texts, answer, shown_error, error_text, invoke_function, invoke_in, data_value, run_data_module, invoke_outcome, data_outcome, run_of}
use Rattle.lua_library_agree.proofs.LibraryLaws.{made_frames_agree}
use Rattle.lua_slots.specs.Code.{CModule, CWorld}
use Rattle.lua_slots.specs.IsCode.{IsModule, Agrees}
use Rattle.lua_slots.specs.Slots.{Slots}
use Rattle.lua_slots.specs.Points.{ModuleFound, FunctionFound, AnswerNow, TextNow, DataNow, Gives, Texts, Now}
use Rattle.lua_slots.specs.Starts as machine_starts
use Rattle.lua_slots.specs.Moves as machine_moves
use Rattle.lua_agree.specs.Variables.{Var}
use Rattle.lua_agree.specs.Values.{SameJump, returned, broke, raised, SameOutcome, values_, jumps_}
use Rattle.lua_agree.specs.Functions.{SameFunction}
use Rattle.lua_agree.specs.Rests.{first_of, paid_text, invoked, data_loaded, then_texts, at_end, at_module, at_function, at_answer, at_text, at_data}
use Rattle.lua_agree.specs.Agree.{SamePoint, Base, Rel}
use Rattle.lua_agree.specs.Agree as points
use Rattle.lua_agree.specs.Follows.{Follows, takes, sees, changes}
use Rattle.lua_agree.proofs.Carries.{function-grows}
use Rattle.lua_agree.proofs.Parts.{first-same, one-value, text-same, kind-same, text-of-same, function-same, no-levels, handler-same, rest-jumps, branches, rel-moved, rel-frames, here-now, outcome-on, fails, calls}
use Rattle.lua_agree.proofs.Index.{indexes-table}
use Rattle.lua_agree.proofs.Modules.{runs-text, requires-module}

error_text-same : {m : Map} {v w : Value} → Same m v w → error_text v ≡ error_text w
error_text-same {v = v} {w = w} e =
    ap (λ o. shown_error o v) (text-same e) ∙ go (text_in w)
  where
    go : (o : Option Bytes) → shown_error o v ≡ shown_error o w
    go (Some t) = refl
    go None = ap (λ (k : Bytes). codes "the error is a " ++ k ++ codes " value") (kind-same e)

-- HOW A RUN ENDS, on both sides
abbrev no_table : Bytes
no_table = codes "Script error: The module returned no table."

abbrev no_function : Bytes → Bytes
no_function name = codes "Script error: The function \"" ++ name ++ codes "\" does not exist."

failed-same : {m : Map} (t u : Bytes) → t ≡ u → SameOutcome m (invoke_outcome (Goes (Failed t))) (invoke_outcome (Goes (Failed u)))
failed-same {m} t u e = subst (λ z. SameOutcome m (invoke_outcome (Goes (Failed t))) (invoke_outcome (Goes (Failed z)))) e (jumps_ _ _ (raised _ _ (text _)))

invoke-jumps : {m : Map} {j j' : Jump} → SameJump m j j' → SameOutcome m (invoke_outcome (Jumps j)) (invoke_outcome (Jumps j'))
invoke-jumps (returned vs ws e) = jumps_ _ _ (returned vs ws e)
invoke-jumps broke = jumps_ _ _ broke
invoke-jumps (raised v w e) = failed-same _ _ (ap (λ (t : Bytes). codes "Lua error: " ++ t) (error_text-same e))

data-failed : {m : Map} {t u : Bytes} → t ≡ u → SameOutcome m (data_outcome (Goes (Failed t))) (data_outcome (Goes (Failed u)))
data-failed {m} {t} e = subst (λ u. SameOutcome m (data_outcome (Goes (Failed t))) (data_outcome (Goes (Failed u)))) e (jumps_ _ _ (raised _ _ (text _)))

data-jumps : {m : Map} {j j' : Jump} → SameJump m j j' → SameOutcome m (data_outcome (Jumps j)) (data_outcome (Jumps j'))
data-jumps (returned vs ws e) = jumps_ _ _ (returned vs ws e)
data-jumps broke = jumps_ _ _ broke
data-jumps (raised v w e) = data-failed (error_text-same e)

data-values : {m : Map} {v w : Value} → Same m v w → SameOutcome m (data_outcome (Goes (data_value v))) (data_outcome (Goes (data_value w)))
data-values (table a b e) = values_ _ _ (one-value (table a b e))
data-values nil = data-failed refl
data-values (truth b) = data-failed refl
data-values (number n) = data-failed refl
data-values (text t) = data-failed refl
data-values (closure a b e) = data-failed refl
data-values (builtin b) = data-failed refl
data-values (markup a b e) = data-failed refl

module _ (world : World) (code : CWorld) (B : Base) {m : Map} {vars : List Var} {h : State} {s : Slots} (r : Rel code B m vars h s) (open_ : vars ≡ []) (running : s.functions ≡ []) where
  run-ends : {o o' : Outcome (List Value) Jump} → SameOutcome m o o' → Follows world code B (Ends o) h (Now (Gives o' []) s)
  run-ends e = outcome-on world code B r (at_end vars s.functions open_ running) e

  -- THE TEXTS OF AN ANSWER
  texts-point : {vs ws : List Value} (t u : Bytes) → t ≡ u → Each (Same m) vs ws → SamePoint code m vars s.functions (answer_texts vs t paid_text) (Texts ws u [])
  texts-point {vs} {ws} t u e es = subst (λ u. SamePoint code m vars s.functions (answer_texts vs t paid_text) (Texts ws u [])) e (points.texts vs ws t open_ running es)

  text-by : {i i' v w : Value} {vs ws : List Value} (before : Bytes) → Same m i i' → Same m v w → Each (Same m) vs ws
      → Follows world code B (text_by i v (then_texts vs before)) h (machine_starts.text_by i' w ws before [] s)
  text-by {i} {i'} {v} {w} {vs} {ws} before x e es =
      branches world code B (give (text_of v)) (call i (v ∷ []) [] >>= (λ xs. string_or_fail [] (text_in (first xs)))) _ _ (nil-related m _ _ x)
      (λ _. here-now world code B r (texts-point _ _ (ap (λ (t : Bytes). before ++ t) (text-of-same e)) es))
      (λ _. calls world code B r (at_text vars s.functions vs ws before open_ running es) [] None (no-levels s.functions) x (one-value e))

  whole-or-fail : {vs ws : List Value} (before : Bytes) → Each (Same m) vs ws → (p : Piece) → Follows world code B (whole_or_fail p (then_texts vs before)) h (machine_starts.whole_or_fail p ws before [] s)
  whole-or-fail before es (Whole bytes begun) = here-now world code B r (texts-point _ _ refl es)
  whole-or-fail before es (Deep bytes begun) = run-ends (invoke-jumps (raised _ _ (text nested_too_deeply)))

  rendered-on : {vs ws : List Value} (before : Bytes) → Each (Same m) vs ws → (p q : Piece) → p ≡ q → Follows world code B (rendered p (then_texts vs before)) h (machine_starts.rendered q ws before [] s)
  rendered-on {vs} {ws} before es p q e =
      subst (λ z. Follows world code B (rendered p (then_texts vs before)) h (machine_starts.rendered z ws before [] s)) e (takes _ _ _ _ (whole-or-fail before es p))

  asks-handler : {v w : Value} {vs ws : List Value} (before : Bytes) → Same m v w → Each (Same m) vs ws
      → Follows world code B (text_by (handler h.heap v (codes "__tostring")) v (then_texts vs before)) h (machine_starts.text_by (handler s.heap w (codes "__tostring")) w ws before [] s)
  asks-handler before e es = text-by before (handler-same code m h.heap s.heap r.stands (codes "__tostring") e) e es

  next-text : {v w : Value} {vs ws : List Value} (before : Bytes) → Same m v w → Each (Same m) vs ws → Follows world code B (answer_text v (then_texts vs before)) h (machine_starts.next_text w ws before [] s)
  next-text before (markup a b e) es = sees _ _ _ (rendered-on before es _ _ (stands_is_rendered (SameFunction code) m h.heap s.heap r.stands a b e))
  next-text before nil es = sees _ _ _ (asks-handler before nil es)
  next-text before (truth b) es = sees _ _ _ (asks-handler before (truth b) es)
  next-text before (number n) es = sees _ _ _ (asks-handler before (number n) es)
  next-text before (text t) es = sees _ _ _ (asks-handler before (text t) es)
  next-text before (table a b e) es = sees _ _ _ (asks-handler before (table a b e) es)
  next-text before (closure a b e) es = sees _ _ _ (asks-handler before (closure a b e) es)
  next-text before (builtin b) es = sees _ _ _ (asks-handler before (builtin b) es)

  pub texts-on : {vs ws : List Value} (before : Bytes) → Each (Same m) vs ws → Follows world code B (answer_texts vs before paid_text) h (machine_starts.texts ws before [] s)
  texts-on before none = takes _ _ _ _ (run-ends (values_ _ _ (one-value (text before))))
  texts-on before (more v w vs ws e es) = next-text before e es

  text-given : {vs ws : List Value} (before : Bytes) → Each (Same m) vs ws → (o : Option Bytes) → Follows world code B (string_or_fail [] o (then_texts vs before)) h (machine_starts.text_given o ws before [] s)
  text-given before es (Some t) = here-now world code B r (texts-point _ _ refl es)
  text-given before es None = run-ends (invoke-jumps (raised _ _ (text (codes "'tostring' must return a string"))))

  pub goes-text : {vs ws : List Value} (before : Bytes) → Each (Same m) vs ws → {xs ys : List Value} → Each (Same m) xs ys
      → Follows world code B (on_value (λ us. string_or_fail [] (text_in (first us))) (then_texts vs before) (Goes xs)) h (machine_moves.goes code (TextNow ws before) ys [] s)
  goes-text {vs} {ws} before es {xs} {ys} e =
      subst (λ o. Follows world code B (string_or_fail [] (text_in (first xs)) (then_texts vs before)) h (machine_starts.text_given o ws before [] s)) (text-same (first-same e))
      (text-given before es (text_in (first xs)))

  pub goes-answer : {xs ys : List Value} → Each (Same m) xs ys → Follows world code B (on_value (λ vs. answer vs) invoked (Goes xs)) h (machine_moves.goes code AnswerNow ys [] s)
  goes-answer e = here-now world code B r (texts-point [] [] refl e)

  -- THE FUNCTION OF AN INVOCATION
  module _ (name : Bytes) {v w : Value} (x : Same m v w) where
    function-on : {f f' : Value} → Same m f f' → Follows world code B (invoke_function name f v invoked) h (machine_starts.invoke_function name f' w [] s)
    function-on {f} {f'} e =
        branches world code B (call f (v ∷ []) [] >>= (λ vs. answer vs)) (give (Failed (no_function name))) _ _ (function-same e)
        (λ _. calls world code B r (at_answer vars s.functions open_ running) [] None (no-levels s.functions) e (one-value x))
        (λ _. run-ends (failed-same (no_function name) (no_function name) refl))

    pub goes-function : {xs ys : List Value} → Each (Same m) xs ys → Follows world code B (first_of (on_value (λ f. invoke_function name f v) invoked) (Goes xs)) h (machine_moves.goes code (FunctionFound name w) ys [] s)
    goes-function e = function-on (first-same e)

    module-on : {t t' : Value} → Same m t t' → Follows world code B (invoke_in name t v invoked) h (machine_starts.invoke_in name t' w [] s)
    module-on (table a b e) = indexes-table world code B r (at_function vars s.functions name v w open_ running x) [] None (no-levels s.functions) a b e (text name)
    module-on nil = run-ends (failed-same no_table no_table refl)
    module-on (truth b) = run-ends (failed-same no_table no_table refl)
    module-on (number n) = run-ends (failed-same no_table no_table refl)
    module-on (text t) = run-ends (failed-same no_table no_table refl)
    module-on (closure a b e) = run-ends (failed-same no_table no_table refl)
    module-on (builtin b) = run-ends (failed-same no_table no_table refl)
    module-on (markup a b e) = run-ends (failed-same no_table no_table refl)

    pub goes-module : {xs ys : List Value} → Each (Same m) xs ys → Follows world code B (first_of (on_value (λ t. invoke_in name t v) invoked) (Goes xs)) h (machine_moves.goes code (ModuleFound name w) ys [] s)
    goes-module e = module-on (first-same e)

    pub jumps-module : {j j' : Jump} → SameJump m j j' → Follows world code B (first_of (on_value (λ t. invoke_in name t v) invoked) (Jumps j)) h (machine_moves.passes (ModuleFound name w) j' [] s)
    jumps-module e = run-ends (invoke-jumps e)

    pub jumps-function : {j j' : Jump} → SameJump m j j' → Follows world code B (first_of (on_value (λ f. invoke_function name f v) invoked) (Jumps j)) h (machine_moves.passes (FunctionFound name w) j' [] s)
    jumps-function e = run-ends (invoke-jumps e)

  pub jumps-answer : {j j' : Jump} → SameJump m j j' → Follows world code B (on_value (λ vs. answer vs) invoked (Jumps j)) h (machine_moves.passes AnswerNow j' [] s)
  jumps-answer e = run-ends (invoke-jumps e)

  pub jumps-text : (vs ws : List Value) (before : Bytes) {j j' : Jump} → SameJump m j j'
      → Follows world code B (on_value (λ us. string_or_fail [] (text_in (first us))) (then_texts vs before) (Jumps j)) h (machine_moves.passes (TextNow ws before) j' [] s)
  jumps-text vs ws before e = run-ends (invoke-jumps e)

  -- THE VALUE OF A DATA MODULE
  pub goes-data : {xs ys : List Value} → Each (Same m) xs ys → Follows world code B (on_value (λ vs. give (data_value (first vs))) data_loaded (Goes xs)) h (machine_moves.goes code DataNow ys [] s)
  goes-data e = run-ends (data-values (first-same e))

  pub jumps-data : {j j' : Jump} → SameJump m j j' → Follows world code B (on_value (λ vs. give (data_value (first vs))) data_loaded (Jumps j)) h (machine_moves.passes DataNow j' [] s)
  jumps-data e = run-ends (data-jumps e)

  -- THE START
  runs-data : (title : Title) (x : Option Module) (y : Option CModule) → code.modules (title_text title) ≡ y → IsModule x y
      → Follows world code B (run_data_module title x (on_value (λ vs. give (data_value (first vs))) data_loaded)) h (machine_starts.runs_data title y (DataNow ∷ []) s)
  runs-data title None None c is = fails world code B r None (rest-jumps code (at_data vars s.functions open_ running)) (no-levels s.functions) (no_data_module (title_text title))
  runs-data title (Some x) (Some y) c is = runs-text world code B r (at_data vars s.functions open_ running) title x y c is
  runs-data title (Some x) None c is = absurd is
  runs-data title None (Some y) c is = absurd is

  pub works-on : (other : World) → Agrees other code → (work : Work) → Follows world code B (run_of other work) h (machine_starts.works code work s)
  works-on other w (Invoke job) =
      takes _ _ _ _ (takes _ _ _ _ (sees _ _ _ (changes _ _ _ _
      (let f = made_frames_agree (SameFunction code) (function-grows code) m h.heap s.heap r.stands job.scene 0 (Unmade job.parent) in
      requires-module world code B (rel-frames code (rel-moved code r f.1) (more _ _ _ _ f.2 none))
      (at_module vars s.functions job.function (frame_table h.heap) (frame_table s.heap) open_ running f.2.table) [] None (no-levels s.functions) other w (title_text job.«module») job.«module»))))
  works-on other w (DataOf title) = takes _ _ _ _ (runs-data title (other.modules title) (code.modules (title_text title)) refl (w.modules title))
